-- Laws of the separation witnesses: a part that is separated from t stays so as the unranked parts get fewer. Assumes nothing.
use Rattle.std.specs.Prelude.{Option, Some}
use Prim.Native.Nat.{ℕ, ◌<◌}
use native.Mathlib.Omega.{arith}
use native.Mathlib.Decide.{ℕ_discrete}
use mathlib.Core.Path.{◌≡◌, sym, ◌∙◌, subst}
use mathlib.Core.Bool.{Bool, true, false, false≢true}
use mathlib.Core.List.{List, Memᴰ}
use lib.ListN.{get_or, set, replicate, length-set, length-replicate, get_or-replicate}
use lib.Seq.{get_or-set_same, get_or-set_other}
use Rattle.words.specs.Limits.{most_parts}
use Rattle.lists.specs.Select.{without}
use Rattle.lists.proofs.Bools.{and_e}
use Rattle.lists.proofs.Sets.{without_e, without_i}
use Rattle.lists.proofs.Slices.{replicate_below}
use Rattle.station.specs.Station.{station_of}
use Rattle.station.specs.Code.{Wired}
use Rattle.reachability.specs.Tables.{set_of, CutOff}
use Rattle.lists.proofs.Kept.{map_set, map_replicate}
use Rattle.words.specs.declared.Part.{Part}
use Rattle.ordering.specs.Numbers.{part_numbers}
use Rattle.ordering.proofs.Numbers.{part_number}
use Rattle.ordering.specs.Choices.{Separates, Witnesses, known_separator}
use Rattle.order.proofs.Paths.{path_wider}
use Rattle.order.proofs.Reach.{AllJoined}
use Rattle.reachability.proofs.Flags.{cleared, flagged_e, flagged_i, without_flagged}

-- At the start s stands beside every part, and is ranked.
witness_all : {list : List ℕ} → Wired (station_of list) → (s : ℕ) → s < (station_of list).parts → Witnesses list (set (replicate most_parts true) s false) (replicate most_parts s)
witness_all {list} D s h =
    record { places = length-replicate most_parts s; inside = λ w. replicate_below most_parts s (station_of list).parts w h; separated = λ w m n. absurd (gone w m n) }
  where
    others : List ℕ
    others = set_of list (set (replicate most_parts true) s false)

    gone : (w : ℕ) → Memᴰ w others → Memᴰ (get_or (replicate most_parts s) w 0) others → ⊥
    gone w m n =
        let e : get_or (replicate most_parts s) w 0 ≡ s = get_or-replicate most_parts w s 0 (omega (arith, (flagged_e _ _ m).0, D.most)) in
        false≢true (sym (cleared (replicate most_parts true) s) ∙ (flagged_e _ _ (subst (λ (x : ℕ). Memᴰ x others) e n)).1)

module _ {list : List ℕ} {flags : List Bool} {witness : List ℕ} (W : Witnesses list flags witness) where
  witness_below : Wired (station_of list) → (w : ℕ) → get_or witness w 0 < most_parts
  witness_below D w = omega (arith, W.inside w, D.most)

  -- a part that w cuts off becomes its witness
  witness_stored : {w q : ℕ} {found : Option ℕ} → Wired (station_of list) → w < (station_of list).parts → CutOff list (without w (set_of list flags)) found → found ≡ Some q
      → Witnesses list flags (set witness w q)
  witness_stored {w} {q} {found} D h C e =
      record {
        places = length-set witness w q ∙ W.places;
        inside = λ x. inside_at x (ℕ_discrete x w);
        separated = λ x m n. separated_at x (ℕ_discrete x w) m n;
      }
    where
      q_among : Memᴰ q (set_of list flags) × (q ≡ w → ⊥)
      q_among = without_e w (set_of list flags) (C.inside q e)

      here : get_or (set witness w q) w 0 ≡ q
      here = get_or-set_same witness w q 0 (omega (arith, W.places, D.most))

      inside_at : (x : ℕ) → Dec (x ≡ w) → get_or (set witness w q) x 0 < (station_of list).parts
      inside_at x (yes f) = rw (f, here) (flagged_e _ _ q_among.0).0
      inside_at x (no f) = rw (get_or-set_other witness w x q 0 f) (W.inside x)

      separated_at : (x : ℕ) → Dec (x ≡ w) → Memᴰ x (set_of list flags) → Memᴰ (get_or (set witness w q) x 0) (set_of list flags)
          → Separates list flags x (get_or (set witness w q) x 0)
      separated_at x (yes f) m n = rw (f, here) (record { other = q_among.1; apart = C.apart q e })
      separated_at x (no f) m n =
          let there : get_or (set witness w q) x 0 ≡ get_or witness x 0 = get_or-set_other witness w x q 0 f in
          subst (Separates list flags x) (sym there) (W.separated x m (subst (λ (y : ℕ). Memᴰ y (set_of list flags)) there n))

  -- as a part is ranked, the witnesses stay right
  pub witness_ranked : (x : ℕ) → Witnesses list (set flags x false) witness
  witness_ranked x = record { places = W.places; inside = W.inside; separated = λ w m n. still w (W.separated w (wider m) (wider n)) }
    where
      wider : {y : ℕ} → Memᴰ y (set_of list (set flags x false)) → Memᴰ y (set_of list flags)
      wider {y} m = (without_e x _ (subst (Memᴰ y) (sym (without_flagged (station_of list).parts flags x)) m)).0

      still : (w : ℕ) → Separates list flags w (get_or witness w 0) → Separates list (set flags x false) w (get_or witness w 0)
      still w S =
          record {
            other = S.other;
            apart = λ r. S.apart (path_wider (station_of list).cables (λ y k. without_i w _ (wider (without_e w _ k).0) (without_e w _ k).1) r);
          }

  -- an unranked part that is known to separate its witness from t: without it the others are not joined to each other
  pub witness_holds : {w : ℕ} → Wired (station_of list) → w < (station_of list).parts → get_or flags w false ≡ true → (w ≡ (station_of list).analyser → ⊥)
      → known_separator list flags witness w ≡ true → AllJoined (station_of list).cables (without w (set_of list flags)) → ⊥
  unfolding known_separator
  witness_holds {w} D h fw n k all =
      S.apart (all (get_or witness w 0) (station_of list).analyser (without_i w _ mq S.other) (without_i w _ (flagged_i _ _ (station_of list).analyser D.analyser both.0) (λ q. n (sym q))))
    where
      both : (get_or flags (station_of list).analyser false ≡ true) × (get_or flags (get_or witness w 0) false ≡ true)
      both = and_e (get_or flags (station_of list).analyser false) (get_or flags (get_or witness w 0) false) k

      mq : Memᴰ (get_or witness w 0) (set_of list flags)
      mq = flagged_i _ _ (get_or witness w 0) (W.inside w) both.1

      S : Separates list flags w (get_or witness w 0)
      S = W.separated w (flagged_i _ _ w h fw) mq

-- the same of the parts that the code holds
pub witness_start : {list : List ℕ} (s : Part) → Wired (station_of list) → s.0 < (station_of list).parts
    → Witnesses list (set (replicate most_parts true) s.0 false) (part_numbers (replicate most_parts s))
unfolding part_numbers
witness_start s D h = rw (map_replicate (λ (p : Part). p.0) most_parts s) (witness_all D s.0 h)

pub witness_found : {list : List ℕ} {flags : List Bool} (witness : List Part) {w : ℕ} {q : Part} {found : Option ℕ} → Witnesses list flags (part_numbers witness)
    → Wired (station_of list) → w < (station_of list).parts → CutOff list (without w (set_of list flags)) found → found ≡ Some q.0
    → Witnesses list flags (part_numbers (set witness w q))
unfolding part_numbers
witness_found witness {w} {q} W D h C e = rw (map_set (λ (p : Part). p.0) witness w q) (witness_stored W D h C e)

-- a witness as an index
pub witness_at : {list : List ℕ} {flags : List Bool} (witness : List Part) (w : ℕ) → Witnesses list flags (part_numbers witness) → Wired (station_of list)
    → (get_or witness w (record { 0 = 0 })).0 < most_parts
witness_at witness w W D = omega (arith, part_number witness w, witness_below W D w)
