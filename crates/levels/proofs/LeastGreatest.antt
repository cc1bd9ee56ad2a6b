-- The levels at a part are the least and the greatest over all its routes, and follow from those at the parts that a cable climbs from.
-- Assumes nothing.
use mathlib.Core.Path.{◌≡◌, refl, sym, ap, ◌∙◌, subst}
use mathlib.Core.List.Memᴰ
use mathlib.Core.List.{List, [], ◌∷◌, ◌++◌, map, Memᴰ}
use Prim.Native.Nat.{ℕ, ◌<◌}
use native.Mathlib.Decide.{ℕ_discrete}
use lib.IntN.{ℤ, pos, ◌+ℤ◌}
use lib.Signed.{≤ℤ_refl}
use lib.ListN.{length, get_or}
use Rattle.lists.proofs.Sets.{length_mem}
use Rattle.station.specs.Station.{Station}
use Rattle.order.specs.Order.{order}
use Rattle.order.proofs.Bipolar.{Orderable}
use Rattle.order.proofs.Joins.{within, joined_within}
use Rattle.levels.specs.Sorts.{gain_of}
use Rattle.levels.specs.SignalPaths.{Climbs, SignalPath, begin, climb, level_from, level_along, lower_neighbours, signal_paths_to, Extremes, only, extremes_of, levels_at}
use Rattle.levels.specs.Readings.{raised}
use Rattle.levels.proofs.Extremes.{Both, extremes_both, Encloses, extremes_enclose, raised_encloses, extremes_one}
use Rattle.levels.proofs.SignalPaths.{along_behind, lower_e, lower_i, signal_paths_iff, none_lower, some_lower, some_signal_path}

-- z is the level of a route to p
abbrev pub LevelTo : Station → List ℕ → ℕ → ℤ → Type 0
LevelTo st row p z = (parts : List ℕ) × SignalPath st p parts × (level_along row parts ≡ z)

-- no route's level lies outside, and both are reached
pub record AreExtremes (st : Station) (row : List ℕ) (p : ℕ) (c : Extremes) : Type 0 where
  pub between : (parts : List ℕ) → SignalPath st p parts → Encloses c (level_along row parts)
  pub reached : Both (LevelTo st row p) c

-- which determines them
extremes_other : {st : Station} {row : List ℕ} {p : ℕ} {c d : Extremes} → AreExtremes st row p c → AreExtremes st row p d → Both (Encloses c) d
extremes_other {st} {row} {p} {c} R S = record { least = at S.reached.least; greatest = at S.reached.greatest }
  where
    at : {z : ℤ} → LevelTo st row p z → Encloses c z
    at t = subst (λ (y : ℤ). Encloses c y) t.2 (R.between t.0 t.1)

pub extremes_one_way : {st : Station} {row : List ℕ} {p : ℕ} {c d : Extremes} → AreExtremes st row p c → AreExtremes st row p d → c ≡ d
extremes_one_way {c = c} {d} R S = extremes_one c d (extremes_other R S) (extremes_other S R)

-- the level of a part by itself
along_one : (row : List ℕ) (p : ℕ) → level_along row (p ∷ []) ≡ pos 0 +ℤ gain_of (get_or row p 0)
unfolding level_along level_from
along_one row p = refl

module _ (st : Station) (H : Orderable st) (row : List ℕ) (p : ℕ) (h : p < st.parts) where
  each : List ℕ → Extremes
  each parts = only (level_along row parts)

  pub levels_extremes : AreExtremes st row p (levels_at st row p)
  unfolding levels_at each
  levels_extremes = record {
    between = λ parts r. extremes_enclose (map each (signal_paths_to st p)) (Memᴰ.map each ((signal_paths_iff st H p parts h).1 r)) (record { above = ≤ℤ_refl (level_along row parts); under = ≤ℤ_refl (level_along row parts) });
    reached = extremes_both (LevelTo st row p) (map each (signal_paths_to st p)) some of;
  }
    where
      some : 0 < length (map each (signal_paths_to st p))
      some = let t = some_signal_path st H p h in length_mem (Memᴰ.map each ((signal_paths_iff st H p t.0 h).1 t.1))

      of : (c : Extremes) → Memᴰ c (map each (signal_paths_to st p)) → Both (LevelTo st row p) c
      of c m =
          let t = Memᴰ.of_map each (signal_paths_to st p) m in
          let r : LevelTo st row p (level_along row t.0) = (t.0, (signal_paths_iff st H p t.0 h).0 t.1, refl) in
          subst (λ (d : Extremes). Both (LevelTo st row p) d) t.2 (record { least = r; greatest = r })

  -- the parts that a cable climbs from to p
  abbrev from : List ℕ
  from = lower_neighbours (order st) st.cables p

  -- to the source none does
  from_source : (c : ℕ → Extremes) → p ≡ st.source → extremes_of (map c from) ≡ only (pos 0)
  unfolding extremes_of
  from_source c e =
      ap (λ (l : List ℕ). extremes_of (map c l)) (empty from (λ q m. none_lower st H (subst (λ (x : ℕ). Climbs st q x) e (lower_e st m))))
    where
      empty : (l : List ℕ) → ((q : ℕ) → Memᴰ q l → ⊥) → l ≡ []
      empty [] n = refl
      empty (q ∷ l) n = absurd (n q (Memᴰ.head refl))

  -- one step of a longest and a shortest path: where the levels at the parts that a cable climbs from are right, so are those that follow
  pub extremes_step :
      (c : ℕ → Extremes) → ((q : ℕ) → Memᴰ q from → AreExtremes st row q (c q)) → AreExtremes st row p (raised (extremes_of (map c from)) (gain_of (get_or row p 0)))
  extremes_step c below = record { between = within; reached = go (ℕ_discrete p st.source) }
    where
      g : ℤ
      g = gain_of (get_or row p 0)

      within : (parts : List ℕ) → SignalPath st p parts → Encloses (raised (extremes_of (map c from)) g) (level_along row parts)
      within parts (begin e q) =
          subst (λ (z : ℤ). Encloses (raised (extremes_of (map c from)) g) z) (sym (ap (level_along row) q ∙ along_one row p))
          (subst (λ (x : Extremes). Encloses (raised x g) (pos 0 +ℤ g)) (sym (from_source c e))
          (raised_encloses (only (pos 0)) (pos 0) g (record { above = ≤ℤ_refl (pos 0); under = ≤ℤ_refl (pos 0) })))
      within parts (climb q before r d e) =
          let m = lower_i st d in
          subst (λ (z : ℤ). Encloses (raised (extremes_of (map c from)) g) z) (sym (ap (level_along row) e ∙ along_behind row before p))
          (raised_encloses (extremes_of (map c from)) (level_along row before) g (extremes_enclose (map c from) (Memᴰ.map c m) ((below q m).between before r)))

      -- a route to a part that a cable climbs from, and then p
      on : (q : ℕ) (z : ℤ) → Memᴰ q from → LevelTo st row q z → LevelTo st row p (z +ℤ g)
      on q z m t = (t.0 ++ (p ∷ []), climb q t.0 t.1 (lower_e st m) refl, along_behind row t.0 p ∙ ap (λ (y : ℤ). y +ℤ g) t.2)

      each_on : (d : Extremes) → Memᴰ d (map c from) → Both (λ z. LevelTo st row p (z +ℤ g)) d
      each_on d m =
          let t = Memᴰ.of_map c from m in
          let r = (below t.0 t.1).reached in
          subst (λ (x : Extremes). Both (λ z. LevelTo st row p (z +ℤ g)) x) t.2
          (record { least = on t.0 (c t.0).least t.1 r.least; greatest = on t.0 (c t.0).greatest t.1 r.greatest })

      go : Dec (p ≡ st.source) → Both (LevelTo st row p) (raised (extremes_of (map c from)) g)
      go (yes e) =
          let r : LevelTo st row p (pos 0 +ℤ g) = (p ∷ [], begin e refl, along_one row p) in
          subst (λ (x : Extremes). Both (LevelTo st row p) (raised x g)) (sym (from_source c e)) (record { least = r; greatest = r })
      go (no n) =
          let t = some_lower st H p h n in
          let below-p = extremes_both (λ z. LevelTo st row p (z +ℤ g)) (map c from) (length_mem (Memᴰ.map c (lower_i st t.1))) each_on in
          record { least = below-p.least; greatest = below-p.greatest }

-- the levels at a part, by those at the parts that a cable climbs from
pub levels_step :
    (st : Station) (H : Orderable st) (row : List ℕ) (p : ℕ) → p < st.parts
    → levels_at st row p ≡ raised (extremes_of (map (levels_at st row) (lower_neighbours (order st) st.cables p))) (gain_of (get_or row p 0))
levels_step st H row p h =
    extremes_one_way (levels_extremes st H row p h)
    (extremes_step st H row p h (levels_at st row)
    (λ q m. levels_extremes st H row q (joined_within st.cables p (within H.wired) (lower_e st m).joined)))
