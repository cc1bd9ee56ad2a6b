-- Document 01: a sheet is printed 'a word a line in eight hexadecimal digits', a refusal as '`refused`, the number and the place, with
-- single spaces, on one line'. Text is a list of ASCII codes. Assumes nothing.
use Rattle.std.specs.Prelude.{ℕ, zero, suc, ◌+◌, ◌-◌, ◌/◌, ◌%◌, cond, List, [], ◌∷◌, ◌++◌, ltb}
use Prim.Native.Char.{code}
use Rattle.text.specs.Ascii.{ascii}

-- a digit below 16, from ten on a small letter
unfoldable pub hex_digit : ℕ → ℕ
hex_digit n = cond (ltb n 10) (code "0" + n) (code "a" + (n - 10))

-- half a word, a number of 16 bits, in four hexadecimal digits
unfoldable pub hex_half : ℕ → List ℕ
hex_half h = hex_digit (h / 4096) ∷ hex_digit (h / 256 % 16) ∷ hex_digit (h / 16 % 16) ∷ hex_digit (h % 16) ∷ []

-- a word in eight hexadecimal digits, and the line's end
unfoldable pub hex_line : ℕ → List ℕ
hex_line w = hex_half (w / 65536) ++ (hex_half (w % 65536) ++ ascii "\n")

-- a sheet, a word a line
unfoldable pub hex_lines : List ℕ → List ℕ
hex_lines [] = []
hex_lines (w ∷ ws) = hex_line w ++ hex_lines ws

-- the decimal digits of a number of at most k digits
unfoldable pub digits : ℕ → ℕ → List ℕ
digits zero x = []
digits (suc k) x = cond (ltb x 10) ((code "0" + x) ∷ []) (digits k (x / 10) ++ (code "0" + x % 10) ∷ [])

-- a number of 64 bits in decimal: at most 20 digits
unfoldable pub decimal : ℕ → List ℕ
decimal x = digits 20 x

unfoldable pub refused_line : ℕ → ℕ → List ℕ
refused_line check place = ascii "refused " ++ (decimal check ++ (ascii " " ++ (decimal place ++ ascii "\n")))
