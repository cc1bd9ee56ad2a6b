-- Lines of text: how long they are, and how they are made piece by piece. Assumes nothing.
use Prim.Native.Nat.{ℕ, zero, suc, ◌+◌, ◌-◌, ◌*◌, ◌/◌, ◌%◌, ◌≤◌, ◌<◌}
use mathlib.Core.Path.{◌≡◌, refl, sym, ◌∙◌, ap}
use mathlib.Core.Bool.{Bool, true, false, cond}
use mathlib.Core.List.{List, [], ◌∷◌, ◌++◌, append_assoc, append-nil}
use native.Mathlib.Omega.{arith}
use lib.ListN.{length, get_or, set, take, drop, length-append}
use lib.Seq.{length-take-le, drop-drop, sets-eq}
use lib.Dec.{ltb}
use borrow.Rule.Slice.PartMut.{put_mid}
use borrow.Author.Tests.{lt-ltb, le-ltb}
use Rattle.lists.specs.Stores.{Stored}
use Rattle.lists.proofs.Stores.{stored_none, stored_one, stored_append, stored_as, take_next}
use Rattle.text.specs.Lines.{hex_half, hex_line, hex_lines, digits, decimal, refused_line}

-- Hexadecimal digits

pub length_hex_half : (h : ℕ) → length (hex_half h) ≡ 4
unfolding hex_half
length_hex_half h = refl

length_hex_line : (w : ℕ) → length (hex_line w) ≡ 9
unfolding hex_line hex_half
length_hex_line w = refl

pub length_hex_lines : (ws : List ℕ) → length (hex_lines ws) ≡ 9 * length ws
unfolding hex_lines
length_hex_lines [] = refl
length_hex_lines (w ∷ ws) = omega (arith, length-append (hex_line w) (hex_lines ws), length_hex_line w, length_hex_lines ws)

hex_lines_append : (us ws : List ℕ) → hex_lines (us ++ ws) ≡ hex_lines us ++ hex_lines ws
unfolding hex_lines
hex_lines_append [] ws = refl
hex_lines_append (u ∷ us) ws = ap (λ (l : List ℕ). hex_line u ++ l) (hex_lines_append us ws) ∙ sym (append_assoc (hex_line u) (hex_lines us) (hex_lines ws))

-- the lines of the first i words, and one more
hex_lines_next : (ws : List ℕ) (i : ℕ) → i < length ws → hex_lines (take i ws) ++ hex_line (get_or ws i 0) ≡ hex_lines (take (i + 1) ws)
unfolding hex_lines
hex_lines_next ws i h =
    ap (λ (l : List ℕ). hex_lines (take i ws) ++ l) (sym (append-nil (hex_line (get_or ws i 0))))
    ∙ sym (hex_lines_append (take i ws) (get_or ws i 0 ∷ []))
    ∙ ap hex_lines (take_next ws i 0 h)

pub lines_next : (ws : List ℕ) (i : ℕ) {first now then : List ℕ} {at next end : ℕ} → i < length ws → Stored first at (hex_lines (take i ws)) now next
    → Stored now next (hex_line (get_or ws i 0)) then end → Stored first at (hex_lines (take (i + 1) ws)) then end
lines_next ws i h S T = stored_as (hex_lines_next ws i h) (stored_append S T)

-- behind the lines of the first i words
pub lines_place : (ws : List ℕ) (i : ℕ) {first now : List ℕ} {at next : ℕ} → i ≤ length ws → Stored first at (hex_lines (take i ws)) now next → next ≡ at + 9 * i
lines_place ws i h S = omega (arith, S.place, length_hex_lines (take i ws), length-take-le i ws h)

-- Decimal digits

pub no_digit : (k x : ℕ) (l : List ℕ) (at : ℕ) → k ≡ 0 → Stored l at (digits k x) l at
unfolding digits
no_digit zero x l at e = stored_none l refl
no_digit (suc k) x l at e = absurd (omega arith)

pub one_digit : (k x : ℕ) (l : List ℕ) (at : ℕ) → (k ≡ 0 → ⊥) → x < 10 → Stored l at (digits k x) (set l at (48 + x)) (at + 1)
unfolding digits
one_digit zero x l at n h = absurd (n refl)
one_digit (suc k) x l at n h = rw (lt-ltb x 10 h) (stored_one l at (48 + x))

pub last_digit : (k x : ℕ) {l m : List ℕ} {at i : ℕ} → (k ≡ 0 → ⊥) → 10 ≤ x → Stored l at (digits (k - 1) (x / 10)) m i
    → Stored l at (digits k x) (set m i (48 + x % 10)) (i + 1)
unfolding digits
last_digit zero x n h S = absurd (n refl)
last_digit (suc k) x {l} {m} {at} {i} n h S =
    let e : suc k - 1 ≡ k = omega arith in
    rw (le-ltb x 10 h) (stored_append (rw e at S) (stored_one m i (48 + x % 10)))

length_digits : (k x : ℕ) → length (digits k x) ≤ k
unfolding digits
length_digits zero x = omega arith
length_digits (suc k) x = go (ltb x 10) (length_digits k (x / 10))
  where
    go : (b : Bool) → length (digits k (x / 10)) ≤ k → length (cond b ((48 + x) ∷ []) (digits k (x / 10) ++ (48 + x % 10) ∷ [])) ≤ suc k
    go true below = omega arith
    go false below = omega (arith, length-append (digits k (x / 10)) ((48 + x % 10) ∷ []))

-- behind at most k digits
pub digits_place : (k x : ℕ) {l m : List ℕ} {at i : ℕ} → Stored l at (digits k x) m i → i ≤ at + k
digits_place k x S = omega (arith, S.place, length_digits k x)

-- at most 20 digits for the number and for the place
pub length_refused_line : (check place : ℕ) → length (refused_line check place) ≤ 50
unfolding refused_line decimal
length_refused_line check place = omega (
  arith,
  length-append (digits 20 check) (32 ∷ (digits 20 place ++ 10 ∷ [])),
  length-append (digits 20 place) (10 ∷ []),
  length_digits 20 check,
  length_digits 20 place,
)

-- a text that was copied to a part of the buffer
pub stored_part : (out text : List ℕ) (at : ℕ) {part : List ℕ} → at + length text ≤ length out → part ≡ text
    → Stored out at text (put_mid at (at + length text - at) out part) (at + length text)
stored_part out text at h e = record {
  place = refl;
  row =
      ap (put_mid at (at + length text - at) out) e
      ∙ ap (λ (k : ℕ). take at out ++ (text ++ drop k (drop at out))) (omega arith)
      ∙ ap (λ (l : List ℕ). take at out ++ (text ++ l)) (drop-drop (length text) at out)
      ∙ sym (append_assoc (take at out) text (drop (at + length text) out))
      ∙ sym (sets-eq text out at h);
}
