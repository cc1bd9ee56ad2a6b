-- What the layout establishes and the geometry of meetings rests on, in <, ≡ and negation between columns and rows, so that each fact
-- survives strictly increasing maps of columns and of rows. A cable i has its own column x i between the lanes lo i and hi i; rank k stands
-- at (col k, row k). Assumes nothing.
use Prim.Native.Nat.{ℕ, suc, ◌<◌, ◌≤◌}
use mathlib.Core.Path.{◌≡◌}
use mathlib.Core.Logic.{◌⊎◌}
use Rattle.order.specs.Graph.{StGraph, size, lower, upper}

pub record Facts (G : StGraph) (x lo hi col row : ℕ → ℕ) : Type 0 where
  pub rises : (i : ℕ) → i < size G → lower G i < upper G i
  pub inside : (i : ℕ) → i < size G → upper G i < G.parts
  pub rows : (j k : ℕ) → j < k → k < G.parts → row j < row k
  -- a lane is its part's row, but for the bottom connection's, below row 0, and the top connection's, above row n - 1
  pub lo_le : (i : ℕ) → i < size G → lo i ≤ row (lower G i)
  pub hi_ge : (i : ℕ) → i < size G → row (upper G i) ≤ hi i
  pub dip : (i : ℕ) → i < size G → lo i < row (lower G i) → lower G i ≡ 0
  pub climb : (i : ℕ) → i < size G → row (upper G i) < hi i → suc (upper G i) ≡ G.parts
  pub one_dip : (i j : ℕ) → i < size G → j < size G → lo i < row (lower G i) → lo j < row (lower G j) → i ≡ j
  pub one_climb : (i j : ℕ) → i < size G → j < size G → row (upper G i) < hi i → row (upper G j) < hi j → i ≡ j
  -- cables whose lanes overlap have different columns
  pub lanes : (i j : ℕ) → i < size G → j < size G → (i ≡ j → ⊥) → lo i < hi j → lo j < hi i → x i ≡ x j → ⊥
  -- a cable that passes a rank's row is not in its column
  pub passes : (i k : ℕ) → i < size G → k < G.parts → lo i < row k → row k < hi i → x i ≡ col k → ⊥
  -- two cables with a lane in a rank's row are not both left of it, nor both right of it
  pub left :
      (i j k : ℕ) → i < size G → j < size G → k < G.parts → (i ≡ j → ⊥) → (lo i ≡ row k) ⊎ (hi i ≡ row k) → (lo j ≡ row k) ⊎ (hi j ≡ row k)
      → x i < col k → x j < col k → ⊥
  pub right :
      (i j k : ℕ) → i < size G → j < size G → k < G.parts → (i ≡ j → ⊥) → (lo i ≡ row k) ⊎ (hi i ≡ row k) → (lo j ≡ row k) ⊎ (hi j ≡ row k)
      → col k < x i → col k < x j → ⊥
  -- between a rank and an outgoing cable of it no cable passes the rank's row
  pub free_left :
      (i j k : ℕ) → i < size G → j < size G → k < G.parts → (i ≡ j → ⊥) → lo i ≡ row k → lo j < row k → row k < hi j → x i < x j → x j < col k → ⊥
  pub free_right :
      (i j k : ℕ) → i < size G → j < size G → k < G.parts → (i ≡ j → ⊥) → lo i ≡ row k → lo j < row k → row k < hi j → col k < x j → x j < x i → ⊥
