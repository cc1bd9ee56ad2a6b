-- Taking apart what was made gives the fields back, and a made word has its kind, no spare bit and 32 bits. One law for each layout.
-- Assumes nothing.
use Prim.Native.Nat.{ℕ, ◌<◌, ◌^◌, ◌≤◌}
use mathlib.Core.Path.{◌≡◌}
use native.Mathlib.Omega.{arith}
use Rattle.words.specs.Limits.{most_field}
use Rattle.words.specs.Words.{kind_of, spare_of, first_of, second_of, fields, list_head, list_head_word, parts_of, cables_of, line_fields, line_of, wide_field, wide_of, part_sort, part_sort_word, sort_of, sort_spare_of, steps_of, hit, hit_word, mark_word, mark_x, mark_y}

-- a word with two 12-bit fields: kinds 2 to 5 and 7
pub record Fields (kind a b w : ℕ) : Type 0 where
  pub kind_is : kind_of w ≡ kind
  pub no_spare : spare_of w ≡ 0
  pub first_is : first_of w ≡ a
  pub second_is : second_of w ≡ b
  pub fits : w < 2 ^ 32

pub fields_apart : (kind a b : ℕ) → kind < 16 → a ≤ most_field → b ≤ most_field → Fields kind a b (fields kind a b)
fields_apart kind a b hk ha hb = omega arith

-- kind 1
pub record ListHead (n m w : ℕ) : Type 0 where
  pub kind_is : kind_of w ≡ list_head
  pub parts_is : parts_of w ≡ n
  pub cables_is : cables_of w ≡ m
  pub fits : w < 2 ^ 32

pub list_head_apart : (n m : ℕ) → n ≤ most_field → m < 65536 → ListHead n m (list_head_word n m)
list_head_apart n m hn hm = omega arith

-- a word with a line number: kinds 6 and 8
pub record LineFields (kind line b w : ℕ) : Type 0 where
  pub kind_is : kind_of w ≡ kind
  pub line_is : line_of w ≡ line
  pub second_is : second_of w ≡ b
  pub fits : w < 2 ^ 32

pub line_fields_apart : (kind line b : ℕ) → kind < 16 → line < 65536 → b ≤ most_field → LineFields kind line b (line_fields kind line b)
line_fields_apart kind line b hk hl hb = omega arith

-- a word with one field: kind 10, whose field is a total, and kind 0, whose field are cents
pub record WideField (kind a w : ℕ) : Type 0 where
  pub kind_is : kind_of w ≡ kind
  pub wide_is : wide_of w ≡ a
  pub fits : w < 2 ^ 32

pub wide_field_apart : (kind a : ℕ) → kind < 16 → a < 2 ^ 28 → WideField kind a (wide_field kind a)
wide_field_apart kind a hk ha = omega arith

-- kind 9
pub record PartSort (sort steps w : ℕ) : Type 0 where
  pub kind_is : kind_of w ≡ part_sort
  pub sort_is : sort_of w ≡ sort
  pub no_spare : sort_spare_of w ≡ 0
  pub steps_is : steps_of w ≡ steps
  pub fits : w < 2 ^ 32

pub part_sort_apart : (sort steps : ℕ) → sort < 16 → steps < 65536 → PartSort sort steps (part_sort_word sort steps)
part_sort_apart sort steps hs hn = omega arith

-- kind 11
pub record Hit (sort a b w : ℕ) : Type 0 where
  pub kind_is : kind_of w ≡ hit
  pub sort_is : sort_of w ≡ sort
  pub first_is : first_of w ≡ a
  pub second_is : second_of w ≡ b
  pub fits : w < 2 ^ 32

pub hit_apart : (sort a b : ℕ) → sort < 16 → a ≤ most_field → b ≤ most_field → Hit sort a b (hit_word sort a b)
hit_apart sort a b hs ha hb = omega arith

-- a mark, and that every word is one
pub record Mark (x y w : ℕ) : Type 0 where
  pub x_is : mark_x w ≡ x
  pub y_is : mark_y w ≡ y
  pub fits : w < 2 ^ 32

pub mark_apart : (x y : ℕ) → x < 65536 → y < 65536 → Mark x y (mark_word x y)
mark_apart x y hx hy = omega arith

pub mark_together : (w : ℕ) → mark_word (mark_x w) (mark_y w) ≡ w
mark_together w = omega arith
