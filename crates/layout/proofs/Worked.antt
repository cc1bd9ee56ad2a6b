-- Stations B, C and D of document 01 at this stage, in ranks: where the ranks stand and where the cables turn. B's values are document
-- 01's, where the ranks of D stand is request 2026-04's. D has all four drawings of figure 3 and the last of figure 2; a chain has those
-- with one cable at an end; two graphs have repeated cables, at the bottom and at the top connection (2026-12). And D, which has four
-- cables at both ends, is ranked, so that what is shown of ranked stations holds of it. Assumes nothing.
use Prim.Native.Nat.{ℕ, zero, suc, ◌+◌, ◌<◌, ◌≤◌}
use native.Mathlib.Omega.{arith}
use native.Mathlib.Decide.{dec_lt}
use mathlib.Core.Path.{◌≡◌, refl}
use mathlib.Core.List.{List, [], ◌∷◌}
use lib.ListN.{length}
use Rattle.lists.specs.Select.{up_from, range, tabulate, filter}
use Rattle.lists.proofs.Select.{get_d_mem}
use Rattle.order.specs.Graph.{StGraph, lower, upper, lines_at}
use Rattle.order.specs.RankedGraphs.{Ranked}
use Rattle.layout.proofs.EndLines.{lines_at_e}
use Rattle.geometry.specs.Spots.{Spot, spot_at}
use Rattle.layout.specs.Points.{corners_of, rank_spot, course_of}
use Rattle.layout.proofs.Computing.{layout_computing}

-- the spots of the ranks, and the corners of the cable at a line
abbrev spots : StGraph → List Spot
spots G = tabulate G.parts (rank_spot G)

abbrev corners : StGraph → ℕ → List Spot
corners G i = corners_of (course_of G i)

abbrev b : StGraph
b = record { parts = 4; lowers = 0 ∷ 1 ∷ 2 ∷ 0 ∷ []; uppers = 1 ∷ 3 ∷ 3 ∷ 2 ∷ [] }

abbrev c : StGraph
c = record { parts = 4; lowers = 0 ∷ 0 ∷ 1 ∷ 2 ∷ 0 ∷ []; uppers = 2 ∷ 1 ∷ 2 ∷ 3 ∷ 3 ∷ [] }

abbrev pub d : StGraph
d = record { parts = 5; lowers = 0 ∷ 0 ∷ 0 ∷ 0 ∷ 1 ∷ 1 ∷ 1 ∷ 2 ∷ 2 ∷ 3 ∷ []; uppers = 1 ∷ 2 ∷ 3 ∷ 4 ∷ 2 ∷ 3 ∷ 4 ∷ 3 ∷ 4 ∷ 4 ∷ [] }

-- lines 1 and 2 join ranks 0 and 1
abbrev below : StGraph
below = record { parts = 4; lowers = 0 ∷ 0 ∷ 0 ∷ 0 ∷ 1 ∷ 2 ∷ []; uppers = 2 ∷ 1 ∷ 1 ∷ 3 ∷ 2 ∷ 3 ∷ [] }

-- lines 5 and 6 join ranks 2 and 3
abbrev above : StGraph
above = record { parts = 4; lowers = 0 ∷ 0 ∷ 0 ∷ 1 ∷ 1 ∷ 2 ∷ 2 ∷ []; uppers = 1 ∷ 2 ∷ 3 ∷ 2 ∷ 3 ∷ 3 ∷ 3 ∷ [] }

abbrev chain : StGraph
chain = record { parts = 3; lowers = 0 ∷ 1 ∷ []; uppers = 1 ∷ 2 ∷ [] }

record Worked : Type 0 where
  chain_spots : spots chain ≡ spot_at 0 0 ∷ spot_at 0 1 ∷ spot_at 0 2 ∷ []
  chain_line_0 : corners chain 0 ≡ []
  chain_line_1 : corners chain 1 ≡ []
  b_line_2 : corners b 2 ≡ spot_at 1 3 ∷ []
  b_line_3 : corners b 3 ≡ spot_at 1 0 ∷ []
  c_spots : spots c ≡ spot_at 1 0 ∷ spot_at 0 1 ∷ spot_at 0 2 ∷ spot_at 0 3 ∷ []
  c_line_0 : corners c 0 ≡ spot_at 1 2 ∷ []
  c_line_1 : corners c 1 ≡ spot_at 0 0 ∷ []
  c_line_4 : corners c 4 ≡ spot_at 2 0 ∷ spot_at 2 3 ∷ []
  -- 'D then has its parts at (2,1), (5,2), (1,3), (2,4), (3,5)'
  d_spots : spots d ≡ spot_at 2 1 ∷ spot_at 5 2 ∷ spot_at 1 3 ∷ spot_at 2 4 ∷ spot_at 3 5 ∷ []
  -- the bottom connection, to rank 1, and the top connection, from rank 3
  d_line_0 : corners d 0 ≡ spot_at 2 0 ∷ spot_at 5 0 ∷ []
  d_line_9 : corners d 9 ≡ spot_at 2 6 ∷ spot_at 3 6 ∷ []
  -- the cables of s to the ranks above: left, own, right
  d_line_1 : corners d 1 ≡ spot_at 1 1 ∷ []
  d_line_2 : corners d 2 ≡ []
  d_line_3 : corners d 3 ≡ spot_at 3 1 ∷ []
  -- 2026-12: 'the lowest line' of two 'leaves s downward', or climbs over t; the other goes as any cable does
  below_line_1 : corners below 1 ≡ spot_at 1 0 ∷ spot_at 3 0 ∷ spot_at 3 2 ∷ []
  below_line_2 : corners below 2 ≡ spot_at 0 1 ∷ []
  above_line_5 : corners above 5 ≡ spot_at 0 2 ∷ spot_at 0 4 ∷ spot_at 2 4 ∷ []
  above_line_6 : corners above 6 ≡ spot_at 1 3 ∷ []

worked : Worked
unfolding layout_computing
worked = record {
  chain_spots = refl;
  chain_line_0 = refl;
  chain_line_1 = refl;
  b_line_2 = refl;
  b_line_3 = refl;
  c_spots = refl;
  c_line_0 = refl;
  c_line_1 = refl;
  c_line_4 = refl;
  d_spots = refl;
  d_line_0 = refl;
  d_line_9 = refl;
  d_line_1 = refl;
  d_line_2 = refl;
  d_line_3 = refl;
  below_line_1 = refl;
  below_line_2 = refl;
  above_line_5 = refl;
  above_line_6 = refl;
}

-- what holds of each of D's ten lines
each_line :
    (P : ℕ → Type 0) → P 0 × P 1 × P 2 × P 3 × P 4 × P 5 × P 6 × P 7 × P 8 × P 9 → (i : ℕ) → i < 10 → P i
each_line P t zero h = t.0
each_line P t (suc zero) h = t.1
each_line P t (suc (suc zero)) h = t.2
each_line P t (suc (suc (suc zero))) h = t.3
each_line P t (suc (suc (suc (suc zero)))) h = t.4
each_line P t (suc (suc (suc (suc (suc zero))))) h = t.5
each_line P t (suc (suc (suc (suc (suc (suc zero)))))) h = t.6
each_line P t (suc (suc (suc (suc (suc (suc (suc zero))))))) h = t.7
each_line P t (suc (suc (suc (suc (suc (suc (suc (suc zero)))))))) h = t.8
each_line P t (suc (suc (suc (suc (suc (suc (suc (suc (suc zero))))))))) h = t.9
each_line P t (suc (suc (suc (suc (suc (suc (suc (suc (suc (suc i)))))))))) h = absurd (omega arith)

-- no line is at a rank that none has
no_line : (m : ℕ) (rank : ℕ → ℕ) (k : ℕ) → ((i : ℕ) → i < m → rank i < k) → length (lines_at m rank k) ≡ 0
no_line m rank k below = go (dec_lt 0 (length (lines_at m rank k)))
  where
    go : Dec (0 < length (lines_at m rank k)) → length (lines_at m rank k) ≡ 0
    go (yes h) =
        let c = lines_at_e m rank k (get_d_mem (lines_at m rank k) 0 0 h) in
        absurd (omega (arith, below _ c.0, c.1))
    go (no h) = omega arith

d_rises : (i : ℕ) → i < 10 → lower d i < upper d i
d_rises = each_line (λ i. lower d i < upper d i) (omega arith)

d_inside : (i : ℕ) → i < 10 → upper d i < 5
d_inside = each_line (λ i. upper d i < 5) (omega arith)

d_entered : (k : ℕ) → 0 < k → k < 5 → (i : ℕ) × (i < 10) × (upper d i ≡ k)
d_entered zero h g = absurd (omega arith)
d_entered (suc zero) h g = (0, omega arith, refl)
d_entered (suc (suc zero)) h g = (1, omega arith, refl)
d_entered (suc (suc (suc zero))) h g = (2, omega arith, refl)
d_entered (suc (suc (suc (suc zero)))) h g = (3, omega arith, refl)
d_entered (suc (suc (suc (suc (suc k))))) h g = absurd (omega arith)

d_continued : (k : ℕ) → suc k < 5 → (i : ℕ) × (i < 10) × (lower d i ≡ k)
d_continued zero g = (0, omega arith, refl)
d_continued (suc zero) g = (4, omega arith, refl)
d_continued (suc (suc zero)) g = (7, omega arith, refl)
d_continued (suc (suc (suc zero))) g = (9, omega arith, refl)
d_continued (suc (suc (suc (suc k)))) g = absurd (omega arith)

d_four : (k : ℕ) → length (lines_at 10 (lower d) k) + length (lines_at 10 (upper d) k) ≤ 4
unfolding up_from range filter lines_at
d_four zero = omega arith
d_four (suc zero) = omega arith
d_four (suc (suc zero)) = omega arith
d_four (suc (suc (suc zero))) = omega arith
d_four (suc (suc (suc (suc zero)))) = omega arith
d_four (suc (suc (suc (suc (suc k))))) =
    let r = suc (suc (suc (suc (suc k)))) in
    omega (
      arith,
      no_line 10 (lower d) r (λ i h. omega (arith, d_rises i h, d_inside i h)),
      no_line 10 (upper d) r (λ i h. omega (arith, d_inside i h)),
    )

pub d_ranked : Ranked d
d_ranked = record { lines = refl; rises = d_rises; inside = d_inside; entered = d_entered; continued = d_continued; four = d_four }
