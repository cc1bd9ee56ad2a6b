-- Document 01's sheet program, from the bytes of its standard input to the text on its standard output. Assumes nothing.
use Rattle.checks.specs.Checks.{number_of}
use Rattle.std.specs.Prelude.{Result, Ok, Err, ℕ, ◌/◌, ◌%◌, cond, List, ◌++◌, length, drop, ltb, eqb}
use Rattle.words.specs.Limits.{most_words}
use Rattle.hookup.specs.Options.{plain}
use Rattle.hookup.specs.Outcome.{Outcome, outcome}
use Rattle.checks.specs.Outcome.{sent_back, written}
use Rattle.text.specs.Ascii.{ascii}
use Rattle.text.specs.Bytes.{words_in}
use Rattle.text.specs.Lines.{hex_lines, refused_line}
use Rattle.printing.specs.declared.FileError.{FileError}
use Rattle.printing.specs.declared.FileError.TheVariants.{TooLarge, Broken}

-- 'one above 65,536 bytes'
abbrev pub most_bytes : ℕ
most_bytes = 65536

-- 'An input ending inside a word prints `broken file`; one above 65,536 bytes prints `file too large`, tested first.'
unfoldable pub loaded : List ℕ → Result ℕ FileError
loaded bytes = cond (ltb most_bytes (length bytes)) (Err TooLarge) (cond (eqb (length bytes % 4) 0) (Ok (length bytes / 4)) (Err Broken))

-- the row that the words of a file are stored into
abbrev pub loaded_row : Result ℕ FileError → List ℕ → List ℕ → List ℕ
loaded_row (Err error) bytes row = row
loaded_row (Ok n) bytes row = words_in bytes ++ drop n row

-- a sheet 'a word a line in eight hexadecimal digits'; 'For a refusal it prints `refused`, the number and the place'
abbrev pub answer_text : Outcome → List ℕ
answer_text (written words crossings) = hex_lines words
answer_text (sent_back fault place) = refused_line (number_of fault) place

-- why there is no list
abbrev pub message_of : FileError → List ℕ
message_of TooLarge = ascii "file too large"
message_of Broken = ascii "broken file"

-- that on a line
abbrev pub error_text : FileError → List ℕ
error_text error = message_of error ++ ascii "\n"

-- the text for a file, where that for its list is given
abbrev pub file_text : Result ℕ FileError → List ℕ → List ℕ
file_text (Err error) text = error_text error
file_text (Ok n) text = text

-- the program's room for a sheet, in words
abbrev pub room : ℕ
room = most_words

-- what is printed of a file's bytes, where there is room for so many words of a sheet; 2026-05: a discount, 'The sheet program gives none.'
unfoldable pub printed : List ℕ → ℕ → List ℕ
printed bytes words = file_text (loaded bytes) (answer_text (outcome plain (words_in bytes) words))
