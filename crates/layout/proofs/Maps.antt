-- The facts of a layout hold after every strictly increasing map of its columns and of its rows, and so does the meeting theorem.
-- Assumes nothing.
use Prim.Native.Nat.{ℕ}
use mathlib.Core.Path.{◌≡◌}
use mathlib.Core.Logic.{◌⊎◌, inl, inr}
use Rattle.order.specs.Graph.{StGraph, size, lower, upper}
use Rattle.geometry.specs.Lines.{Meetings}
use Rattle.layout.proofs.Facts.{Facts}
use Rattle.layout.proofs.Meet.{polyline, meetings}
use Rattle.lists.proofs.Increasing.{Increasing, increasing_one, increasing_less, increasing_le}

module _ (f : ℕ → ℕ) (inc : Increasing f) where
  increasing_either : (a b c : ℕ) → (f a ≡ f c) ⊎ (f b ≡ f c) → (a ≡ c) ⊎ (b ≡ c)
  increasing_either a b c (inl e) = inl (increasing_one f inc a c e)
  increasing_either a b c (inr e) = inr (increasing_one f inc b c e)

module _ (f g : ℕ → ℕ) (mf : Increasing f) (mg : Increasing g) where
  pub facts_map :
      (G : StGraph) (x lo hi col row : ℕ → ℕ) → Facts G x lo hi col row
      → Facts G (λ i. f (x i)) (λ i. g (lo i)) (λ i. g (hi i)) (λ k. f (col k)) (λ k. g (row k))
  facts_map G x lo hi col row F =
      record {
        rises = F.rises;
        inside = F.inside;
        rows = λ j k l q. mg (row j) (row k) (F.rows j k l q);
        lo_le = λ i l. increasing_le g mg (lo i) (row (lower G i)) (F.lo_le i l);
        hi_ge = λ i l. increasing_le g mg (row (upper G i)) (hi i) (F.hi_ge i l);
        dip = λ i l d. F.dip i l (increasing_less g mg (lo i) (row (lower G i)) d);
        climb = λ i l d. F.climb i l (increasing_less g mg (row (upper G i)) (hi i) d);
        one_dip = λ i j l q d e. F.one_dip i j l q (increasing_less g mg (lo i) (row (lower G i)) d) (increasing_less g mg (lo j) (row (lower G j)) e);
        one_climb = λ i j l q d e. F.one_climb i j l q (increasing_less g mg (row (upper G i)) (hi i) d) (increasing_less g mg (row (upper G j)) (hi j) e);
        lanes = λ i j l q z a b e. F.lanes i j l q z (increasing_less g mg (lo i) (hi j) a) (increasing_less g mg (lo j) (hi i) b) (increasing_one f mf (x i) (x j) e);
        passes = λ i k l q a b e. F.passes i k l q (increasing_less g mg (lo i) (row k) a) (increasing_less g mg (row k) (hi i) b) (increasing_one f mf (x i) (col k) e);
        left = λ i j k l q r z a b c d.
            F.left i j k l q r z (increasing_either g mg (lo i) (hi i) (row k) a) (increasing_either g mg (lo j) (hi j) (row k) b)
            (increasing_less f mf (x i) (col k) c) (increasing_less f mf (x j) (col k) d);
        right = λ i j k l q r z a b c d.
            F.right i j k l q r z (increasing_either g mg (lo i) (hi i) (row k) a) (increasing_either g mg (lo j) (hi j) (row k) b)
            (increasing_less f mf (col k) (x i) c) (increasing_less f mf (col k) (x j) d);
        free_left = λ i j k l q r z e a b c d.
            F.free_left i j k l q r z (increasing_one g mg (lo i) (row k) e) (increasing_less g mg (lo j) (row k) a) (increasing_less g mg (row k) (hi j) b)
            (increasing_less f mf (x i) (x j) c) (increasing_less f mf (x j) (col k) d);
        free_right = λ i j k l q r z e a b c d.
            F.free_right i j k l q r z (increasing_one g mg (lo i) (row k) e) (increasing_less g mg (lo j) (row k) a) (increasing_less g mg (row k) (hi j) b)
            (increasing_less f mf (col k) (x j) c) (increasing_less f mf (x j) (x i) d);
      }

  -- so a sheet with pitches and a margin has the meetings too
  pub meetings_map :
      (G : StGraph) (x lo hi col row : ℕ → ℕ) → Facts G x lo hi col row
      → Meetings G.parts (size G) (λ k. record { x = f (col k); y = g (row k) }) (lower G) (upper G)
      (polyline G (λ i. f (x i)) (λ i. g (lo i)) (λ i. g (hi i)) (λ k. f (col k)) (λ k. g (row k)))
  meetings_map G x lo hi col row F =
      meetings G (λ i. f (x i)) (λ i. g (lo i)) (λ i. g (hi i)) (λ k. f (col k)) (λ k. g (row k))
      (facts_map G x lo hi col row F)
