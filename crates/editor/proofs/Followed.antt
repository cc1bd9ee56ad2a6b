-- A list followed by further cables: its words and its station. Assumes nothing.
use Prim.Native.Nat.{ℕ, ◌+◌, ◌<◌, ◌≤◌}
use native.Mathlib.Omega.{arith}
use mathlib.Core.Path.{◌≡◌, sym, ap, ◌∙◌}
use mathlib.Core.List.{List, [], ◌++◌, map, map-append, append_assoc, append-nil}
use lib.ListN.{length, get_or, set, drop, length-append, length-set, get_or-append}
use lib.Seq.{get_or-set_same, get_or-set_other, set-append_left, set-set, set-get_or, drop-append-le, drop-set-lt}
use Rattle.words.specs.Words.{kind_of, parts_of, cables_of, list_head}
use Rattle.station.specs.Station.{cable_of, station_of}
use Rattle.editor.specs.Rows.{raised_by, followed_by}

-- a head with room in its fields is read as it was made
module _ (head k : ℕ) (fits : cables_of head + k < 65536) where
  pub raised_parts : parts_of (raised_by k head) ≡ parts_of head
  unfolding raised_by
  raised_parts = omega arith

  pub raised_cables : cables_of (raised_by k head) ≡ cables_of head + k
  unfolding raised_by
  raised_cables = omega arith

  pub raised_kind : kind_of (raised_by k head) ≡ list_head
  unfolding raised_by
  raised_kind = omega arith

  -- raised twice is raised by both
  raised_again : (j : ℕ) → raised_by j (raised_by k head) ≡ raised_by (k + j) head
  unfolding raised_by
  raised_again j = omega (arith, raised_parts, raised_cables)

-- a list head is raised by nothing
raised_zero : (head : ℕ) → kind_of head ≡ list_head → raised_by 0 head ≡ head
unfolding raised_by
raised_zero head e = omega arith

module _ (list cables : List ℕ) (some : 0 < length list) where
  raised : List ℕ
  raised = set list 0 (raised_by (length cables) (get_or list 0 0))

  long : length raised ≡ length list
  unfolding raised
  long = length-set list 0 _

  pub length_followed : length (followed_by list cables) ≡ length list + length cables
  unfolding followed_by raised
  length_followed = length-append raised cables ∙ ap (λ (k : ℕ). k + length cables) long

  pub head_followed : get_or (followed_by list cables) 0 0 ≡ raised_by (length cables) (get_or list 0 0)
  unfolding followed_by raised
  head_followed = get_or-append raised cables 0 0 (omega (arith, long)) ∙ get_or-set_same list 0 _ 0 some

  pub word_followed : (i : ℕ) → 1 ≤ i → i < length list → get_or (followed_by list cables) i 0 ≡ get_or list i 0
  unfolding followed_by raised
  word_followed i h l = get_or-append raised cables 0 i (omega (arith, long)) ∙ get_or-set_other list 0 i _ 0 (λ e. omega arith)

-- 'followed by the cables': those of the words
pub cables_followed : (list cables : List ℕ) → 2 ≤ length list → (station_of (followed_by list cables)).cables ≡ (station_of list).cables ++ map cable_of cables
unfolding station_of followed_by
cables_followed list cables h =
    ap (map cable_of)
    (drop-append-le 2 (set list 0 (raised_by (length cables) (get_or list 0 0))) cables (omega (arith, length-set list 0 (raised_by (length cables) (get_or list 0 0))))
    ∙ ap (λ (l : List ℕ). l ++ cables) (drop-set-lt 2 list 0 (raised_by (length cables) (get_or list 0 0)) (omega arith)))
    ∙ map-append cable_of (drop 2 list) cables

pub followed_none : (list : List ℕ) → kind_of (get_or list 0 0) ≡ list_head → followed_by list [] ≡ list
unfolding followed_by
followed_none list e = append-nil (set list 0 (raised_by 0 (get_or list 0 0))) ∙ ap (set list 0) (raised_zero (get_or list 0 0) e) ∙ set-get_or list 0 0

-- followed twice is followed by both
pub followed_again : (list vs ws : List ℕ) → 0 < length list → cables_of (get_or list 0 0) + length vs < 65536 → followed_by (followed_by list vs) ws ≡ followed_by list (vs ++ ws)
unfolding followed_by
followed_again list vs ws some fits =
    let head = get_or list 0 0 in
    let once = set list 0 (raised_by (length vs) head) in
    let e : raised_by (length ws) (get_or (followed_by list vs) 0 0) ≡ raised_by (length (vs ++ ws)) head =
    ap (raised_by (length ws)) (head_followed list vs some) ∙ raised_again head (length vs) fits (length ws) ∙ ap (λ (k : ℕ). raised_by k head) (sym (length-append vs ws)) in
    ap (λ (x : ℕ). set (once ++ vs) 0 x ++ ws) e
    ∙ ap (λ (l : List ℕ). l ++ ws)
    (set-append_left once vs 0 (raised_by (length (vs ++ ws)) head) (omega (arith, length-set list 0 (raised_by (length vs) head)))
    ∙ ap (λ (l : List ℕ). l ++ vs) (set-set list 0 (raised_by (length vs) head) (raised_by (length (vs ++ ws)) head)))
    ∙ append_assoc (set list 0 (raised_by (length (vs ++ ws)) head)) vs ws
