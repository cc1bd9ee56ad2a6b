-- Document 01's check 10 in terms of paths: where it finds nothing, neither does the check of request 2026-14. Assumes nothing.
use Rattle.std.specs.Prelude.{None}
use Prim.Native.Nat.{ℕ, ◌<◌}
use native.Mathlib.Decide.{ℕ_discrete}
use mathlib.Core.Path.{◌≡◌, sym, ap, ◌∙◌}
use mathlib.Core.Logic.{◌⊎◌, inl, inr, ◌↔◌}
use mathlib.Core.Bool.{true, false, not}
use mathlib.Core.List.{List}
use Rattle.lists.specs.Select.{range, without}
use Rattle.station.specs.Station.{Station}
use Rattle.station.specs.Code.{Wired}
use Rattle.order.specs.Reach.{Path, connected, check10}
use Rattle.order.specs.CutParts.{cut_part}
use Rattle.order.specs.Bipolar.{Off, ReachesEnd, Bipolar}
use Rattle.order.proofs.Paths.{path_wider}
use Rattle.order.proofs.Reach.{AllJoined, Apart, connected_cases}
use Rattle.order.proofs.Checks.{nothing_iff, off_without, check10_nothing}

module _ (st : Station) where
  -- the removal of part v leaves two others without a path: v is a cut vertex
  abbrev Cuts : ℕ → Type 0
  Cuts v = (a b : ℕ) × Off st.parts v a × Off st.parts v b × (Path st.cables (Off st.parts v) b a → ⊥)

  -- without part v any two others have a path
  abbrev pub Keeps : ℕ → Type 0
  Keeps v = (a b : ℕ) → Off st.parts v a → Off st.parts v b → Path st.cables (Off st.parts v) b a

  decides : (v : ℕ) → v < st.parts
      → ((not (connected st.cables (without v (range st.parts))) ≡ true) × Cuts v)
      ⊎ ((not (connected st.cables (without v (range st.parts))) ≡ false) × Keeps v)
  decides v l = go (connected_cases st.cables rest)
    where
      rest : List ℕ
      rest = without v (range st.parts)

      go : ((connected st.cables rest ≡ true) × AllJoined st.cables rest) ⊎ ((connected st.cables rest ≡ false) × Apart st.cables rest)
          → ((not (connected st.cables rest) ≡ true) × Cuts v) ⊎ ((not (connected st.cables rest) ≡ false) × Keeps v)
      go (inl h) =
          inr (
            ap not h.0,
            λ a b p q.
                path_wider st.cables (λ x m. (off_without st.parts v x).1 m) (h.1 a b ((off_without st.parts v a).0 p) ((off_without st.parts v b).0 q)),
          )
      go (inr h) =
          inl (
            ap not h.0,
            (
              h.1.0,
              h.1.1,
              (off_without st.parts v h.1.0).1 h.1.2,
              (off_without st.parts v h.1.1).1 h.1.3,
              λ r. h.1.4 (path_wider st.cables (λ x m. (off_without st.parts v x).0 m) r),
            ),
          )

  pub cut_nothing : (cut_part st ≡ None) ↔ ((v : ℕ) → v < st.parts → Keeps v)
  unfolding cut_part
  cut_nothing =
      nothing_iff st.parts (λ u. not (connected st.cables (without u (range st.parts)))) Cuts Keeps decides
      (λ u c k. c.4 (k c.0 c.1 c.2 c.3))

  module _ (W : Wired st) where
    -- any two parts have a path without v, and so has each to an end
    pub keeps_bipolar : ((v : ℕ) → v < st.parts → Keeps v) → Bipolar st
    keeps_bipolar keeps v p l m h = go (ℕ_discrete st.source v)
      where
        go : Dec (st.source ≡ v) → ReachesEnd st v p
        go (yes q) = inr (keeps v l p st.analyser (m, h) (W.analyser, λ r. W.apart (q ∙ sym r)))
        go (no q) = inl (keeps v l p st.source (m, h) (W.source, q))

    -- a station without a cut part passes check 10
    pub uncut_passes : cut_part st ≡ None → check10 st ≡ None
    uncut_passes e = (check10_nothing st).1 (keeps_bipolar (cut_nothing.0 e))
