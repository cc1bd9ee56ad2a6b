-- What holds of the columns once k ranks stand, by induction on k: open cables have different columns, and every rank that stands has its
-- cables on their sides, with no passing cable in its column or between it and its outgoing cables. Assumes nothing.
use Prim.Native.Nat.{ℕ, zero, suc, ◌+◌, ◌-◌, ◌/◌, ◌<◌, ◌≤◌}
use native.Mathlib.Omega.{arith}
use native.Mathlib.Decide.{dec_lt, ℕ_discrete}
use mathlib.Core.Path.{◌≡◌, sym, ap, ◌∙◌}
use mathlib.Core.Logic.{◌⊎◌, inl, inr}
use Rattle.order.specs.Graph.{StGraph, size, lower, upper}
use Rattle.order.specs.RankedGraphs.{Ranked}
use Rattle.layout.specs.Columns.{moved}
use Rattle.lists.proofs.Increasing.{Increasing, increasing_one, increasing_less}
use Rattle.layout.proofs.Moved.{moved_increasing, moved_outside, moved_from_left, moved_from_right}
use Rattle.layout.proofs.Ports.{Ports, in_left, in_right}
use Rattle.layout.proofs.Step.{cable_opened, cable_kept, part_kept, part_opened, out_place_below, out_place_one, in_place_below, in_place_one, in_at_in_place, in_at_comes, in_at_one, in_at_rises, degree, taken_column_comes}
use Rattle.layout.proofs.Step as step

module _ (G : StGraph) where
  -- the columns of cables and parts once k ranks stand, and what rank k adds, as `Step` has them
  abbrev cable : ℕ → ℕ → ℕ
  cable = step.cable G

  abbrev part : ℕ → ℕ → ℕ
  part = step.part G

  abbrev width : ℕ → ℕ
  width = step.width G

  abbrev outs : ℕ → ℕ
  outs = step.outs G

  abbrev ins : ℕ → ℕ
  ins = step.ins G

  abbrev out_place : ℕ → ℕ → ℕ
  out_place = step.out_place G

  abbrev in_place : ℕ → ℕ → ℕ
  in_place = step.in_place G

  abbrev in_at : ℕ → ℕ → ℕ
  in_at = step.in_at G

  abbrev taken_column : ℕ → ℕ
  taken_column = step.taken_column G

  abbrev lefts : ℕ → ℕ
  lefts = step.lefts G

  abbrev rights : ℕ → ℕ
  rights = step.rights G

  -- the place of the incoming cable whose column rank k takes
  abbrev middle : ℕ → ℕ
  middle k = (ins k - 1) / 2

  -- Cable i goes out of rank r in the rank's row, or comes in in it: it is not the fourth. (The fourth is a bottom or a top connection.)
  abbrev pub Leaves : ℕ → ℕ → Type 0
  Leaves i r = (lower G i ≡ r) × (out_place r i < 3)

  abbrev pub Enters : ℕ → ℕ → Type 0
  Enters i r = (upper G i ≡ r) × (in_place r i < 3)

  abbrev pub Meets : ℕ → ℕ → Type 0
  Meets i r = Leaves i r ⊎ Enters i r

  -- cable i has spots below and above the row of rank r
  pub data Passes (i r : ℕ) : Type 0 where
    by : lower G i < r → r < upper G i → Passes i r
    bottom : lower G i ≡ r → out_place r i ≡ 3 → Passes i r
    top : upper G i ≡ r → in_place r i ≡ 3 → Passes i r

  -- the facts at rank r, which stands in column c, with the cables in the columns x
  pub record RankFacts (x : ℕ → ℕ) (c r : ℕ) : Type 0 where
    pub passes : (i : ℕ) → i < size G → Passes i r → x i ≡ c → ⊥
    pub left : (i j : ℕ) → i < size G → j < size G → (i ≡ j → ⊥) → Meets i r → Meets j r → x i < c → x j < c → ⊥
    pub right : (i j : ℕ) → i < size G → j < size G → (i ≡ j → ⊥) → Meets i r → Meets j r → c < x i → c < x j → ⊥
    pub free_left : (i j : ℕ) → i < size G → j < size G → Leaves i r → Passes j r → x i < x j → x j < c → ⊥
    pub free_right : (i j : ℕ) → i < size G → j < size G → Leaves i r → Passes j r → c < x j → x j < x i → ⊥

  -- cables that are open together have different columns
  abbrev pub Apart : ℕ → Type 0
  Apart k =
      (i j : ℕ) → i < size G → j < size G → (i ≡ j → ⊥) → lower G i < k → lower G j < k → lower G i < upper G j → lower G j < upper G i
      → cable k i ≡ cable k j → ⊥

  pub record Invariant (k : ℕ) : Type 0 where
    pub apart : Apart k
    pub stands : (r : ℕ) → r < k → RankFacts (cable k) (part k r) r

  -- The facts survive a strictly increasing map

  module _ (rises : (i : ℕ) → i < size G → lower G i < upper G i) (f x y : ℕ → ℕ) (inc : Increasing f) (c r : ℕ)
      (maps : (i : ℕ) → i < size G → lower G i ≤ r → y i ≡ f (x i)) where
    passes_old : (i : ℕ) → i < size G → Passes i r → y i ≡ f (x i)
    passes_old i h (by l u) = maps i h (omega arith)
    passes_old i h (bottom e q) = maps i h (omega arith)
    passes_old i h (top e q) = maps i h (omega (arith, rises i h))

    meets_old : (i : ℕ) → i < size G → Meets i r → y i ≡ f (x i)
    meets_old i h (inl l) = maps i h (omega arith)
    meets_old i h (inr e) = maps i h (omega (arith, rises i h))

    pub stands_moved : (d : ℕ) → d ≡ f c → RankFacts x c r → RankFacts y d r
    stands_moved d e S = record {
      passes = λ i h p q. S.passes i h p (increasing_one f inc (x i) c (sym (passes_old i h p) ∙ q ∙ e));
      left = λ i j h g n a b s t.
          S.left i j h g n a b (increasing_less f inc (x i) c (omega (arith, meets_old i h a))) (increasing_less f inc (x j) c (omega (arith, meets_old j g b)));
      right = λ i j h g n a b s t.
          S.right i j h g n a b (increasing_less f inc c (x i) (omega (arith, meets_old i h a))) (increasing_less f inc c (x j) (omega (arith, meets_old j g b)));
      free_left = λ i j h g a b s t.
          S.free_left i j h g a b
          (increasing_less f inc (x i) (x j) (omega (arith, meets_old i h (inl a), passes_old j g b)))
          (increasing_less f inc (x j) c (omega (arith, passes_old j g b)));
      free_right = λ i j h g a b s t.
          S.free_right i j h g a b
          (increasing_less f inc c (x j) (omega (arith, passes_old j g b)))
          (increasing_less f inc (x j) (x i) (omega (arith, meets_old i h (inl a), passes_old j g b)));
    }

  -- Rank k gets its place

  module _ (R : Ranked G) (k : ℕ) (inside : k < G.parts) where
    pub outs_ins : outs k + ins k ≤ 4
    outs_ins = omega (arith, degree G R k)

    table : Ports (ins k) (outs k) (lefts k) (rights k)
    table = step.ports G R k

    entered : 0 < k → 0 < ins k
    entered h =
        let c = R.entered k h inside in
        omega (arith, in_place_below G k c.0 c.1 c.2)

    -- only rank 0 has a fourth outgoing cable, and none comes in there
    pub fourth : (i : ℕ) → i < size G → lower G i ≡ k → out_place k i ≡ 3 → (k ≡ 0) × (ins k ≡ 0)
    fourth i h e q = go (dec_lt 0 k)
      where
        go : Dec (0 < k) → (k ≡ 0) × (ins k ≡ 0)
        go (yes l) = absurd (omega (arith, entered l, out_place_below G k i h e, outs_ins))
        go (no l) = omega (arith, out_place_below G k i h e, outs_ins)

    -- Outgoing cables, in the block of columns from the one taken

    opens_at : (i : ℕ) → i < size G → lower G i ≡ k → cable (suc k) i ≡ taken_column k + out_place k i
    opens_at = cable_opened G R k

    opens_in : (i : ℕ) → i < size G → lower G i ≡ k → cable (suc k) i ≤ taken_column k + lefts k + rights k
    opens_in i h e =
        let b : out_place k i < outs k = out_place_below G k i h e in
        omega (arith, opens_at i h e, table.all (omega arith))

    -- of two outgoing cables
    outs_apart : (i j : ℕ) → i < size G → j < size G → lower G i ≡ k → lower G j ≡ k → cable (suc k) i ≡ cable (suc k) j → i ≡ j
    outs_apart i j h g e f q = out_place_one G k i j h g e f (omega (arith, opens_at i h e, opens_at j g f))

    -- Incoming cables, and those that pass

    old : (i : ℕ) → i < size G → lower G i < k → cable (suc k) i ≡ moved (taken_column k) (lefts k) (rights k) (cable k i)
    old i h l = cable_kept G k i h (omega arith)

    entering : (i : ℕ) → i < size G → upper G i ≡ k → lower G i < k
    entering i h e = omega (arith, R.rises i h)

    some : (i : ℕ) → i < size G → upper G i ≡ k → 0 < ins k
    some i h e = omega (arith, in_place_below G k i h e)

    enters_left : (i : ℕ) → i < size G → Enters i k → cable k i < taken_column k → in_place k i < middle k
    enters_left i h e l = go (dec_lt (in_place k i) (middle k))
      where
        go : Dec (in_place k i < middle k) → in_place k i < middle k
        go (yes a) = a
        go (no a) =
            absurd
            (omega (
              arith,
              in_at_rises G k (middle k) (in_place k i) (omega arith) (in_place_below G k i h e.0) e.1,
              ap (cable k) (in_at_in_place G k i h e.0),
              taken_column_comes G R k (some i h e.0),
            ))

    enters_right : (i : ℕ) → i < size G → Enters i k → taken_column k < cable k i → middle k < in_place k i
    enters_right i h e l = go (dec_lt (middle k) (in_place k i))
      where
        go : Dec (middle k < in_place k i) → middle k < in_place k i
        go (yes a) = a
        go (no a) =
            absurd
            (omega (
              arith,
              in_at_rises G k (in_place k i) (middle k) (omega arith) (omega (arith, some i h e.0)) (omega (arith, outs_ins)),
              ap (cable k) (in_at_in_place G k i h e.0),
              taken_column_comes G R k (some i h e.0),
            ))

    -- A side of the part has one outgoing cable, at place s, where at most b come in, or one incoming, at place t, where more do

    abbrev Side : ℕ → ℕ → ℕ → ℕ → Type 0
    Side s t b i = ((lower G i ≡ k) × (out_place k i ≡ s) × (ins k ≤ b)) ⊎ ((upper G i ≡ k) × (in_place k i ≡ t) × (b < ins k))

    one_side : (s t b i j : ℕ) → i < size G → j < size G → Side s t b i → Side s t b j → i ≡ j
    one_side s t b i j h g (inl c) (inl d) = out_place_one G k i j h g c.0 d.0 (c.1 ∙ sym d.1)
    one_side s t b i j h g (inl c) (inr d) = absurd (omega arith)
    one_side s t b i j h g (inr c) (inl d) = absurd (omega arith)
    one_side s t b i j h g (inr c) (inr d) = in_place_one G k i j h g c.0 d.0 (c.1 ∙ sym d.1)

    left_side : (i : ℕ) → i < size G → Meets i k → cable (suc k) i < part (suc k) k → Side 0 0 2 i
    left_side i h (inl l) s =
        let b : out_place k i < lefts k = omega (arith, opens_at i h l.0, part_opened G k) in
        inl (l.0, omega (arith, table.one_left), table.new_left_lem (omega arith))
    left_side i h (inr e) s =
        let b : cable k i < taken_column k =
        moved_from_left (taken_column k) (lefts k) (rights k) (cable k i) (omega (arith, old i h (entering i h e.0), part_opened G k)) in
        let q = in_left (ins k) (in_place k i) (omega (arith, outs_ins)) (enters_left i h e b) in
        inr (e.0, q.0, q.1)

    right_side : (i : ℕ) → i < size G → Meets i k → part (suc k) k < cable (suc k) i → Side (lefts k + 1) (middle k + 1) 1 i
    right_side i h (inl l) s =
        let b : lefts k < out_place k i = omega (arith, opens_at i h l.0, part_opened G k) in
        let q = table.new_right_lem (out_place k i) (out_place_below G k i h l.0) l.1 b in
        inl (l.0, q.1, q.0)
    right_side i h (inr e) s =
        let b : taken_column k < cable k i =
        moved_from_right (taken_column k) (lefts k) (rights k) (cable k i) (omega (arith, old i h (entering i h e.0), part_opened G k)) in
        let q = in_right (ins k) (in_place k i) (omega (arith, outs_ins)) (in_place_below G k i h e.0) e.1 (enters_right i h e b) in
        inr (e.0, q.0, q.1)

    module _ (I : Invariant k) where
      -- a cable that is open at k and not at the taken place is not in the column taken
      aside : (i : ℕ) → i < size G → lower G i < k → k ≤ upper G i → (upper G i ≡ k → in_place k i ≡ middle k → ⊥) → cable k i ≡ taken_column k → ⊥
      aside i h l u d e =
          I.apart i (in_at k (middle k)) h there.0 other l (omega (arith, R.rises _ there.0, there.1)) (omega (arith, there.1))
          (omega (arith, R.rises _ there.0, there.1)) (e ∙ taken_column_comes G R k (entered (omega arith)))
        where
          there : (in_at k (middle k) < size G) × (upper G (in_at k (middle k)) ≡ k)
          there = in_at_comes G k (middle k) (omega (arith, entered (omega arith)))

          other : i ≡ in_at k (middle k) → ⊥
          other q =
              let f : upper G i ≡ k = ap (upper G) q ∙ there.1 in
              d f
              (in_at_one G k (in_place k i) (middle k) (in_place_below G k i h f)
              (omega (arith, some i h f)) (in_at_in_place G k i h f ∙ q))

      -- so it is moved out of the block
      aside_out : (i : ℕ) → i < size G → lower G i < k → k ≤ upper G i → (upper G i ≡ k → in_place k i ≡ middle k → ⊥)
          → taken_column k ≤ cable (suc k) i → cable (suc k) i ≤ taken_column k + lefts k + rights k → ⊥
      aside_out i h l u d s t =
          moved_outside (taken_column k) (lefts k) (rights k) (cable k i) (aside i h l u d)
          (omega (arith, old i h l)) (omega (arith, old i h l))

      -- and a cable that passes is not between the column taken and another one of the block, which is not the bottom connection's
      passes_out : (i u : ℕ) → i < size G → Passes i k → u ≤ taken_column k + lefts k + rights k → u < taken_column k + 3
          → taken_column k ≤ cable (suc k) i → cable (suc k) i ≤ u → ⊥
      passes_out i u h (by l r) a b s t = aside_out i h l (omega arith) (λ e q. omega arith) s (omega arith)
      passes_out i u h (bottom e q) a b s t = omega (arith, opens_at i h e)
      passes_out i u h (top e q) a b s t = aside_out i h (entering i h e) (omega arith) (λ f r. omega (arith, outs_ins)) s (omega arith)

      -- up to the part, or to an outgoing cable
      passes_part : (i : ℕ) → i < size G → Passes i k → taken_column k ≤ cable (suc k) i → cable (suc k) i ≤ part (suc k) k → ⊥
      passes_part i h p = passes_out i (part (suc k) k) h p (omega (arith, part_opened G k)) (omega (arith, part_opened G k, table.one_left))

      passes_leaves : (i j : ℕ) → i < size G → j < size G → Leaves i k → Passes j k → taken_column k ≤ cable (suc k) j → cable (suc k) j ≤ cable (suc k) i → ⊥
      passes_leaves i j h g l p = passes_out j (cable (suc k) i) g p (opens_in i h l.0) (omega (arith, opens_at i h l.0))

      stands_new : RankFacts (cable (suc k)) (part (suc k) k) k
      stands_new = record {
        passes = λ i h p q. passes_part i h p (omega (arith, part_opened G k)) (omega arith);
        left = λ i j h g d a b s t. d (one_side 0 0 2 i j h g (left_side i h a s) (left_side j g b t));
        right = λ i j h g d a b s t. d (one_side (lefts k + 1) (middle k + 1) 1 i j h g (right_side i h a s) (right_side j g b t));
        free_left = λ i j h g a b s t. passes_part j g b (omega (arith, opens_at i h a.0)) (omega arith);
        free_right = λ i j h g a b s t. passes_leaves i j h g a b (omega (arith, part_opened G k)) (omega arith);
      }

      -- an outgoing cable and one that passes
      opens_apart : (i j : ℕ) → i < size G → j < size G → lower G i ≡ k → lower G j < k → k < upper G j → cable (suc k) i ≡ cable (suc k) j → ⊥
      opens_apart i j h g e l u q = aside_out j g l (omega arith) (λ f r. omega arith) (omega (arith, opens_at i h e)) (omega (arith, opens_in i h e))

      apart_next : Apart (suc k)
      apart_next i j h g d a b u v q = go (ℕ_discrete (lower G i) k) (ℕ_discrete (lower G j) k)
        where
          go : Dec (lower G i ≡ k) → Dec (lower G j ≡ k) → ⊥
          go (yes e) (yes f) = d (outs_apart i j h g e f q)
          go (yes e) (no f) = opens_apart i j h g e (omega arith) (omega arith) q
          go (no e) (yes f) = opens_apart j i g h f (omega arith) (omega arith) (sym q)
          go (no e) (no f) =
              I.apart i j h g d (omega arith) (omega arith) u v
              (increasing_one _ (moved_increasing (taken_column k) (lefts k) (rights k)) _ _
              (sym (old i h (omega arith)) ∙ q ∙ old j g (omega arith)))

      pub next : Invariant (suc k)
      next = record { apart = apart_next; stands = λ r h. go r h (dec_lt r k) }
        where
          go : (r : ℕ) → r < suc k → Dec (r < k) → RankFacts (cable (suc k)) (part (suc k) r) r
          go r h (yes l) =
              stands_moved R.rises (moved (taken_column k) (lefts k) (rights k)) (cable k) (cable (suc k))
              (moved_increasing (taken_column k) (lefts k) (rights k)) (part k r) r
              (λ i b c. old i b (omega arith)) (part (suc k) r) (part_kept G k r l) (I.stands r l)
          go r h (no l) =
              let e : r ≡ k = omega arith in
              rw e stands_new

  pub start : Invariant 0
  start = record { apart = λ i j h g d a b u v q. omega arith; stands = λ r h. absurd (omega arith) }

  pub invariant : Ranked G → (k : ℕ) → k ≤ G.parts → Invariant k
  invariant R zero h = start
  invariant R (suc k) h = next R k h (invariant R k (omega arith))
