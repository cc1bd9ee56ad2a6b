-- The word that four bytes make. Assumes nothing.
use Prim.Native.Nat.{ℕ, zero, suc, ◌+◌, ◌*◌, ◌<◌}
use mathlib.Core.Path.{◌≡◌, refl, ◌∙◌, ap}
use mathlib.Core.List.{List}
use native.Mathlib.Omega.{arith}
use lib.ListN.{get_or, take, drop}
use lib.Seq.{get_or-take, get_or-drop, drop-drop}
use Rattle.std.specs.Int.{w32, from_be_bytes}
use Rattle.std.specs.Simd.{first_chunks}
use Rattle.text.specs.Bytes.{word_at}

chunk_at : (k i : ℕ) (bytes : List ℕ) (d : List ℕ) → i < k → get_or (first_chunks 4 k bytes) i d ≡ take 4 (drop (4 * i) bytes)
chunk_at zero i bytes d h = absurd (omega arith)
chunk_at (suc k) zero bytes d h = refl
chunk_at (suc k) (suc i) bytes d h =
    chunk_at k i (drop 4 bytes) d (omega arith)
    ∙ ap (take 4) (drop-drop (4 * i) 4 bytes ∙ ap (λ (n : ℕ). drop n bytes) (omega arith))

word_of : (bytes : List ℕ) (at : ℕ) → from_be_bytes w32 (take 4 (drop at bytes)) ≡ word_at bytes at
word_of bytes at =
    let e : at + 0 ≡ at = omega arith in
    let a : get_or (take 4 (drop at bytes)) 0 0 ≡ get_or bytes at 0 = get_or-take 4 (drop at bytes) 0 0 (omega arith) ∙ get_or-drop at bytes 0 0 ∙ ap (λ (n : ℕ). get_or bytes n 0) e in
    let b : get_or (take 4 (drop at bytes)) 1 0 ≡ get_or bytes (at + 1) 0 = get_or-take 4 (drop at bytes) 1 0 (omega arith) ∙ get_or-drop at bytes 1 0 in
    let c : get_or (take 4 (drop at bytes)) 2 0 ≡ get_or bytes (at + 2) 0 = get_or-take 4 (drop at bytes) 2 0 (omega arith) ∙ get_or-drop at bytes 2 0 in
    let d : get_or (take 4 (drop at bytes)) 3 0 ≡ get_or bytes (at + 3) 0 = get_or-take 4 (drop at bytes) 3 0 (omega arith) ∙ get_or-drop at bytes 3 0 in
    omega (arith, a, b, c, d)

-- the word of a file that a chunk of it makes
pub chunk_word : (k i : ℕ) (bytes : List ℕ) (d : List ℕ) → i < k → from_be_bytes w32 (get_or (first_chunks 4 k bytes) i d) ≡ word_at bytes (4 * i)
chunk_word k i bytes d h = ap (from_be_bytes w32) (chunk_at k i bytes d h) ∙ word_of bytes (4 * i)
