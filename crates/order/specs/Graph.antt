-- The cables of a station in ranks, which is all that the layout looks at. Assumes nothing.
use Rattle.std.specs.Prelude.{ℕ, ◌-◌, ◌<◌, ◌≡◌, List, length, get_or, eqb}
use Rattle.lists.specs.Select.{range, filter}

-- An st-graph (source 000, section 2): the count of its parts, which are their ranks, and by line the ranks of each cable's lower and upper
-- part.
pub record StGraph : Type 0 where
  pub parts : ℕ
  pub lowers : List ℕ
  pub uppers : List ℕ

-- the count of cables
abbrev pub size : StGraph → ℕ
size g = length g.lowers

-- the rank of the lower and of the upper part of the cable at line i
abbrev pub lower : StGraph → ℕ → ℕ
lower g i = get_or g.lowers i 0

abbrev pub upper : StGraph → ℕ → ℕ
upper g i = get_or g.uppers i 0

-- of m lines, those whose rank, as the function gives it, is k
unfoldable pub lines_at : ℕ → (ℕ → ℕ) → ℕ → List ℕ
lines_at m rank k = filter (λ i. eqb (rank i) k) (range m)

-- at most one cable goes from rank u to rank v
abbrev pub Once : StGraph → ℕ → ℕ → Type 0
Once g u v = (i j : ℕ) → i < size g → j < size g → lower g i ≡ u → upper g i ≡ v → lower g j ≡ u → upper g j ≡ v → i ≡ j

-- 2026-12: 'the two lowest ranks, and the two highest, are not joined more than once', which the limit of two corners rests on (2026-04)
pub record EndsOnce (g : StGraph) : Type 0 where
  pub lowest : Once g 0 1
  pub highest : Once g (g.parts - 2) (g.parts - 1)
