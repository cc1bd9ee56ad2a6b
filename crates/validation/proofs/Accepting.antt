-- A sheet of a list that passes its checks is accepted exactly if checks 19 and 20 find nothing; the answer for every list and sheet.
-- Assumes nothing.
use Rattle.checks.specs.declared.Fault.{Fault}
use Rattle.std.specs.Prelude.{Some, None}
use Prim.Native.Nat.{ℕ, ◌<◌}
use native.Mathlib.Omega.{arith}
use native.Mathlib.Decide.{ℕ_discrete}
use mathlib.Core.Path.{◌≡◌, refl, sym, ap, ◌∙◌, subst, subst₂}
use mathlib.Core.Logic.{◌⊎◌, inl, inr, ⊎_elim}
use mathlib.Core.Bool.{Bool, true, false, not, ◌||◌, and-false}
use mathlib.Core.List.Memᴰ
use mathlib.Core.List.{List, [], ◌∷◌, map}
use lib.ListN.{length, get_or, length-map}
use lib.Dec.{eqb}
use borrow.Author.Tests.{eqb-true, eq-eqb, not-true, not-false}
use Rattle.lists.specs.Search.{seek}
use Rattle.lists.specs.Select.{any, range, tabulate}
use Rattle.lists.proofs.Any.{any_range_e, any_range_i}
use Rattle.lists.proofs.Bools.{and_fails, or_e, or_right, not_e, not_i}
use Rattle.lists.proofs.Select.{length_tabulate, get_d_tabulate}
use Rattle.lists.proofs.Seek.{seek_nothing, seek_none}
use Rattle.checks.specs.declared.Fault.TheVariants as faults
use Rattle.checks.specs.Checks.{Check, Clear, first_refusal, or_else, Verdict, passed, refused}
use Rattle.checks.proofs.FirstRefusal.{rest_decides, refused_before, clear_each, clear_prefix, clear_rest}
use Rattle.station.specs.Station.{Station, Cable, no_cable, station_of}
use Rattle.station.specs.Code.{Wired}
use Rattle.order.specs.Checks.{all_checks}
use Rattle.order.specs.Reach.{Path, Joined}
use Rattle.order.proofs.Passed.{list_wired, clear_9}
use Rattle.order.proofs.Checks.{Part, check9_nothing}
use Rattle.order.proofs.Paths.{path_back}
use Rattle.order.proofs.Joins.{joined_line, cable_at}
use Rattle.geometry.specs.Lines.{Lone, Together, Meetings, point}
use Rattle.drawing.specs.Drawing.{Route, Drawing, spot_of, route_at, route_points, points_at, Meets}
use Rattle.drawing.specs.Reading.{Endpoints, no_endpoints, drawing_in}
use Rattle.drawing.proofs.ReadBack.{route_path}
use Rattle.validation.specs.Layout.{check19, Follows}
use Rattle.validation.specs.Directions.{directed, shown}
use Rattle.validation.specs.Judging.{Fits, together}
use Rattle.validation.specs.Rules.{ends_at, points_read, right_read, wrong_alone, points_right, wrong_pair, check20}
use Rattle.validation.specs.Outcome.{Accepted, sheet_checks, sheet_verdict, Validates}
use Rattle.validation.proofs.Following.{or_found_e, or_found_i, layout_e, layout_i, route_read, routes_counted, parts_counted, points_fit}
use Rattle.validation.proofs.Alone.{lone_e, lone_i, parts_apart}
use Rattle.validation.proofs.Pairs.{together_back}
use Rattle.validation.proofs.Judging.{together_e, together_i}
use Rattle.validation.proofs.Directions.{directions_together}

-- Every part has a cable

leaves : {cs : List Cable} {P : ℕ → Type 0} {t u : ℕ} → Path cs P t u → (u ≡ t → ⊥) → (v : ℕ) × Joined cs u v
leaves (Path.arrived i e) h = absurd (h e)
leaves (Path.onward v i j p) h = (v, j)

pub every_part :
    (list : List ℕ) → Clear all_checks list → (p : ℕ) → p < (station_of list).parts
    → (i : ℕ) × (i < length (station_of list).cables)
    × ((p ≡ (get_or (station_of list).cables i no_cable).one) ⊎ (p ≡ (get_or (station_of list).cables i no_cable).other))
every_part list pass p l = lined (out (ℕ_discrete p 0))
  where
    st : Station
    st = station_of list

    reached : (q : ℕ) → q < st.parts → Path st.cables (Part st.parts) q 0
    reached = (check9_nothing st).0 (clear_9 list pass)

    out : Dec (p ≡ 0) → (v : ℕ) × Joined st.cables p v
    out (yes e) =
        let w = (list_wired list pass).least in
        subst (λ (q : ℕ). (v : ℕ) × Joined st.cables q v) (sym e) (leaves (reached 1 (omega arith)) (λ z. omega arith))
    out (no e) = leaves (path_back st.cables (reached p l)) e

    lined :
        (v : ℕ) × Joined st.cables p v
        → (i : ℕ) × (i < length st.cables) × ((p ≡ (cable_at st.cables i).one) ⊎ (p ≡ (cable_at st.cables i).other))
    lined (v, j) =
        let r = joined_line st.cables p v j in
        (r.0, r.1, ⊎_elim (λ b. inl (sym b.0)) (λ b. inr (sym b.1)) r.2)

-- A drawing read in any directions

-- a cable's route by itself, and two of them
abbrev pub LoneRoute : Drawing → ℕ → Route → Type 0
LoneRoute d n r = Lone n (spot_of d) r.first r.last (route_points d r)

abbrev pub TogetherRoutes : Drawing → Route → Route → Type 0
TogetherRoutes d r q = Together (spot_of d) r.first r.last (route_points d r) q.first q.last (route_points d q)

-- the cable at a line read forward or backward
abbrev pub read_in : Station → Drawing → Bool → ℕ → Route
read_in st d forward i = record { first = (ends_at st forward i).first; last = (ends_at st forward i).last; corners = (route_at d i).corners }

-- its two parts are parts of the list
pub ends_below :
    (st : Station) → Wired st → (forward : Bool) (i : ℕ)
    → ((ends_at st forward i).first < st.parts) × ((ends_at st forward i).last < st.parts)
ends_below st W true i = (W.one i, W.other i)
ends_below st W false i = (W.other i, W.one i)

module _ (st : Station) (sheet : List ℕ) where
  abbrev n : ℕ
  n = st.parts

  abbrev m : ℕ
  m = length st.cables

  abbrev d : Drawing
  d = shown st sheet

  abbrev forwards : List Endpoints
  forwards = map (directed true) st.cables

  all_forward : length forwards ≡ m
  all_forward = length-map st.cables (directed true)

  module _ (ends : List Endpoints) where
    -- the route at a line is that of its direction
    pub route_directed :
        (i : ℕ) (forward : Bool) → i < m → i < length ends → get_or ends i no_endpoints ≡ directed forward (get_or st.cables i no_cable)
        → route_at (drawing_in n ends sheet) i ≡ read_in st d forward i
    unfolding shown
    route_directed i forward l k e =
        let r = route_read n ends sheet i k in
        let q = route_read n forwards sheet i (omega (arith, all_forward)) in
        route_path (route_at (drawing_in n ends sheet) i) (read_in st d forward i)
        (ap (λ (x : Route). x.first) r ∙ ap (λ (x : Endpoints). x.first) e)
        (ap (λ (x : Route). x.last) r ∙ ap (λ (x : Endpoints). x.last) e)
        (ap (λ (x : Route). x.corners) r ∙ sym (ap (λ (x : Route). x.corners) q))

    -- and its parts stand where they stand on the drawing read forward
    lone_shown : (r : Route) → LoneRoute (drawing_in n ends sheet) n r → LoneRoute d n r
    unfolding shown drawing_in spot_of route_points
    lone_shown r L = L

    lone_drawn : (r : Route) → LoneRoute d n r → LoneRoute (drawing_in n ends sheet) n r
    unfolding shown drawing_in spot_of route_points
    lone_drawn r L = L

    together_shown : (r q : Route) → TogetherRoutes (drawing_in n ends sheet) r q → TogetherRoutes d r q
    unfolding shown drawing_in spot_of route_points
    together_shown r q T = T

    together_drawn : (r q : Route) → TogetherRoutes d r q → TogetherRoutes (drawing_in n ends sheet) r q
    unfolding shown drawing_in spot_of route_points
    together_drawn r q T = T

  -- the meetings of a drawing of all cables, each cable and each two
  module _ (ends : List Endpoints) (F : Follows n m sheet) (all : length ends ≡ m) where
    abbrev drawn : Drawing
    drawn = drawing_in n ends sheet

    abbrev Counted : ℕ → ℕ → Type 0
    Counted a b = Meetings a b (spot_of drawn) (λ i. (route_at drawn i).first) (λ i. (route_at drawn i).last) (points_at drawn)

    lines_counted : length drawn.routes ≡ m
    lines_counted = routes_counted n ends sheet ∙ all

    meets_all : Meets drawn → Counted n m
    meets_all = subst₂ Counted (parts_counted n m ends sheet F) lines_counted

    meets_alone : Meets drawn → (i : ℕ) → i < m → LoneRoute drawn n (route_at drawn i)
    unfolding points_at
    meets_alone M = (meets_all M).alone

    meets_together : Meets drawn → (i j : ℕ) → i < m → j < m → (i ≡ j → ⊥) → TogetherRoutes drawn (route_at drawn i) (route_at drawn j)
    unfolding points_at
    meets_together M = (meets_all M).together

    meets_counted :
        ((i : ℕ) → i < m → LoneRoute drawn n (route_at drawn i))
        → ((i j : ℕ) → i < m → j < m → (i ≡ j → ⊥) → TogetherRoutes drawn (route_at drawn i) (route_at drawn j))
        → ((p q : ℕ) → p < n → q < n → spot_of d p ≡ spot_of d q → p ≡ q) → Meets drawn
    unfolding points_at shown drawing_in spot_of
    meets_counted L T S =
        subst₂ Counted (sym (parts_counted n m ends sheet F)) (sym lines_counted) (record { alone = L; together = T; apart = S })

  -- The tests of a cable by itself

  pub right_e : (forward : Bool) (i : ℕ) → right_read st d forward i ≡ true → LoneRoute d n (read_in st d forward i)
  unfolding right_read points_read
  right_e forward i h = lone_e n (spot_of d) (ends_at st forward i).first (ends_at st forward i).last (points_read st d forward i) h

  pub right_i : (forward : Bool) (i : ℕ) → LoneRoute d n (read_in st d forward i) → right_read st d forward i ≡ true
  unfolding right_read points_read
  right_i forward i L = lone_i n (spot_of d) (ends_at st forward i).first (ends_at st forward i).last (points_read st d forward i) L

  -- the direction that is taken, where one is right
  pub taken : (i : ℕ) → wrong_alone st d i ≡ false → right_read st d (right_read st d true i) i ≡ true
  unfolding wrong_alone
  taken i h =
      go (right_read st d true i) refl
      (or_e (right_read st d true i) (right_read st d false i) (not-false (right_read st d true i || right_read st d false i) h))
    where
      go :
          (b : Bool) → right_read st d true i ≡ b → (right_read st d true i ≡ true) ⊎ (right_read st d false i ≡ true)
          → right_read st d b i ≡ true
      go true e s = e
      go false e (inl s) = absurd (not_e (right_read st d true i) (rw e) s)
      go false e (inr s) = s

  -- a cable that is right in one of its directions is not wrong
  pub not_wrong : (forward : Bool) (i : ℕ) → right_read st d forward i ≡ true → wrong_alone st d i ≡ false
  unfolding wrong_alone
  not_wrong true i h = rw h
  not_wrong false i h = rw (or_right (right_read st d true i) (right_read st d false i) h)

  -- What two cables do, they do in any two right directions.
  pub turned :
      (f g : Bool) (i : ℕ) (q : Route) → LoneRoute d n (read_in st d f i) → LoneRoute d n (read_in st d g i) → LoneRoute d n q
      → TogetherRoutes d (read_in st d f i) q → TogetherRoutes d (read_in st d g i) q
  unfolding route_points
  turned true true i q L K N T = T
  turned false false i q L K N T = T
  turned true false i q L K N T =
      directions_together n (spot_of d) (ends_at st true i).first (ends_at st true i).last (route_at d i).corners L K q.first q.last
      (route_points d q) N T
  turned false true i q L K N T =
      directions_together n (spot_of d) (ends_at st false i).first (ends_at st false i).last (route_at d i).corners L K q.first q.last
      (route_points d q) N T

  pub both_turned :
      (f f' g g' : Bool) (i j : ℕ) → LoneRoute d n (read_in st d f i) → LoneRoute d n (read_in st d f' i) → LoneRoute d n (read_in st d g j)
      → LoneRoute d n (read_in st d g' j) → TogetherRoutes d (read_in st d f i) (read_in st d g j)
      → TogetherRoutes d (read_in st d f' i) (read_in st d g' j)
  both_turned f f' g g' i j L L' K K' T =
      back (read_in st d g' j) (read_in st d f' i)
      (turned g g' j (read_in st d f' i) K K' L' (back (read_in st d f' i) (read_in st d g j) (turned f f' i (read_in st d g j) L L' K T)))
    where
      back : (r q : Route) → TogetherRoutes d r q → TogetherRoutes d q r
      back r q = together_back (spot_of d) r.first r.last (route_points d r) q.first q.last (route_points d q)

  -- Check 20

  -- where it finds nothing, no cable is wrong by itself, and no two of them meet wrongly
  pub rules_alone : check20 st sheet ≡ None → (i : ℕ) → i < m → wrong_alone st d i ≡ false
  unfolding check20
  rules_alone h i l = seek_nothing (wrong_alone st d) 0 m (or_found_e (seek (wrong_alone st d) 0 m) _ h).0 i (omega arith) (omega arith)

  pub rules_pairs : check20 st sheet ≡ None → (i j : ℕ) → i < m → j < m → wrong_pair st d i j ≡ false
  unfolding check20
  rules_pairs h i j l k =
      not-true (wrong_pair st d i j)
      (not_i (wrong_pair st d i j) λ e.
      not_e (any (wrong_pair st d i) (range m))
      (rw (seek_nothing (λ i. any (wrong_pair st d i) (range m)) 0 m (or_found_e (seek (wrong_alone st d) 0 m) _ h).1 i (omega arith)
      (omega arith)))
      (any_range_i (wrong_pair st d i) m j k e))

  -- and where neither is, it finds nothing
  pub rules_found :
      ((i : ℕ) → i < m → wrong_alone st d i ≡ false) → ((i j : ℕ) → i < m → j < m → wrong_pair st d i j ≡ false) → check20 st sheet ≡ None
  unfolding check20
  rules_found a t =
      or_found_i (seek (wrong_alone st d) 0 m) _ (seek_none (wrong_alone st d) 0 m λ i f g. a i (omega arith))
      (seek_none (λ i. any (wrong_pair st d i) (range m)) 0 m λ i f g.
      not-true (any (wrong_pair st d i) (range m))
      (not_i (any (wrong_pair st d i) (range m)) λ e.
      let r = any_range_e (wrong_pair st d i) m e in
      not_e (wrong_pair st d i r.0) (rw (t i r.0 (omega arith) r.1)) r.2))

  -- a cable does not meet itself
  pub itself_not_wrong : (i : ℕ) → wrong_pair st d i i ≡ false
  unfolding wrong_pair
  itself_not_wrong i = rw (eq-eqb i i refl)

  -- the direction taken of the cable at a line
  abbrev way : ℕ → Bool
  way i = right_read st d true i

  module _ (W : Wired st) (F : Follows n m sheet) where
    -- the points of a cable do not exceed the head
    pub points_inside :
        (f : Bool) (i : ℕ) → i < m → (k : ℕ) → k < length (route_points d (read_in st d f i))
        → Fits d.width d.height (point (route_points d (read_in st d f i)) k)
    unfolding shown route_points
    points_inside f i l k h =
        points_fit n m forwards sheet F all_forward i (ends_at st f i).first (ends_at st f i).last k l (ends_below st W f i).0
        (ends_below st W f i).1 h

    -- the test of two cables that are right by themselves
    pub pair_e :
        (i j : ℕ) → i < m → j < m → (i ≡ j → ⊥) → LoneRoute d n (read_in st d (way i) i) → LoneRoute d n (read_in st d (way j) j)
        → wrong_pair st d i j ≡ false → TogetherRoutes d (read_in st d (way i) i) (read_in st d (way j) j)
    unfolding wrong_pair points_right points_read
    pair_e i j l k ne L K h =
        together_e d.width d.height n (spot_of d) (ends_at st (way i) i).first (ends_at st (way i) i).last (points_right st d i)
        (ends_at st (way j) j).first (ends_at st (way j) j).last (points_right st d j) L K (points_inside (way i) i l)
        (not-false (together d.width d.height (points_right st d i) (points_right st d j))
        (and_fails (not (eqb i j)) (not (together d.width d.height (points_right st d i) (points_right st d j))) h
        (not_i (eqb i j) λ e. ne (eqb-true i j e))))

    pub pair_i :
        (i j : ℕ) → i < m → LoneRoute d n (read_in st d (way i) i) → LoneRoute d n (read_in st d (way j) j)
        → TogetherRoutes d (read_in st d (way i) i) (read_in st d (way j) j) → wrong_pair st d i j ≡ false
    unfolding wrong_pair points_right points_read
    pair_i i j l L K T =
        rw (together_i d.width d.height n (spot_of d) (ends_at st (way i) i).first (ends_at st (way i) i).last (points_right st d i)
        (ends_at st (way j) j).first (ends_at st (way j) j).last (points_right st d j) L K (points_inside (way i) i l) T)
        (and-false (not (eqb i j)))

-- 'accepted exactly if'

module _ (list sheet : List ℕ) (pass : Clear all_checks list) where
  abbrev st : Station
  st = station_of list

  abbrev parts : ℕ
  parts = st.parts

  abbrev lines : ℕ
  lines = length st.cables

  abbrev forth : Drawing
  forth = shown st sheet

  -- the two parts of a cable in a direction are those that its list word names
  joins :
      (f : Bool) (p i : ℕ) → (p ≡ (get_or st.cables i no_cable).one) ⊎ (p ≡ (get_or st.cables i no_cable).other)
      → (p ≡ (ends_at st f i).first) ⊎ (p ≡ (ends_at st f i).last)
  joins true p i h = h
  joins false p i (inl e) = inr e
  joins false p i (inr e) = inl e

  -- where check 20 finds nothing wrong in a sheet that follows the layout, it is accepted
  pub accepts : Follows parts lines sheet → check20 st sheet ≡ None → Accepted list sheet
  accepts F h = record {
    layout = F;
    ends = ends;
    directions = record { all = all; each = λ i l. (turn i, each i l) };
    meetings = meetings;
  }
    where
      turn : ℕ → Bool
      turn i = right_read st forth true i

      ends : List Endpoints
      ends = tabulate lines (λ i. ends_at st (turn i) i)

      all : length ends ≡ lines
      all = length_tabulate lines (λ i. ends_at st (turn i) i)

      each : (i : ℕ) → i < lines → get_or ends i no_endpoints ≡ ends_at st (turn i) i
      each i l = get_d_tabulate lines (λ i. ends_at st (turn i) i) i no_endpoints l

      drawn : Drawing
      drawn = drawing_in parts ends sheet

      route : (i : ℕ) → i < lines → route_at drawn i ≡ read_in st forth (turn i) i
      route i l = route_directed st sheet ends i (turn i) l (omega (arith, all)) (each i l)

      single : (i : ℕ) → i < lines → LoneRoute forth parts (read_in st forth (turn i) i)
      single i l = right_e st sheet (turn i) i (taken st sheet i (rules_alone st sheet h i l))

      two : (i j : ℕ) → i < lines → j < lines → (i ≡ j → ⊥) → TogetherRoutes forth (read_in st forth (turn i) i) (read_in st forth (turn j) j)
      two i j l k ne = pair_e st sheet (list_wired list pass) F i j l k ne (single i l) (single j k) (rules_pairs st sheet h i j l k)

      apart : (p q : ℕ) → p < parts → q < parts → spot_of forth p ≡ spot_of forth q → p ≡ q
      apart =
          parts_apart parts lines (spot_of forth) (λ i. (ends_at st (turn i) i).first) (λ i. (ends_at st (turn i) i).last)
          (λ i. route_points forth (read_in st forth (turn i) i)) single λ p l.
          let r = every_part list pass p l in
          (r.0, r.1, joins (turn r.0) p r.0 r.2)

      meetings : Meets drawn
      meetings =
          meets_counted st sheet ends F all
          (λ i l. subst (LoneRoute drawn parts) (sym (route i l)) (lone_drawn st sheet ends (read_in st forth (turn i) i) (single i l)))
          (λ i j l k ne. subst₂ (TogetherRoutes drawn) (sym (route i l)) (sym (route j k))
          (together_drawn st sheet ends (read_in st forth (turn i) i) (read_in st forth (turn j) j) (two i j l k ne)))
          apart

  -- and in an accepted sheet both checks find nothing
  pub accepted : Accepted list sheet → (check19 parts lines sheet ≡ None) × (check20 st sheet ≡ None)
  accepted A = (layout_i parts lines sheet A.layout, rules_found st sheet not_alone pairs)
    where
      drawn : Drawing
      drawn = drawing_in parts A.ends sheet

      all : length A.ends ≡ lines
      all = A.directions.all

      turn : (i : ℕ) → i < lines → Bool
      turn i l = (A.directions.each i l).0

      route : (i : ℕ) (l : i < lines) → route_at drawn i ≡ read_in st forth (turn i l) i
      route i l = route_directed st sheet A.ends i (turn i l) l (omega (arith, all)) (A.directions.each i l).1

      single : (i : ℕ) (l : i < lines) → LoneRoute forth parts (read_in st forth (turn i l) i)
      single i l =
          lone_shown st sheet A.ends (read_in st forth (turn i l) i)
          (subst (LoneRoute drawn parts) (route i l) (meets_alone st sheet A.ends A.layout all A.meetings i l))

      not_alone : (i : ℕ) → i < lines → wrong_alone st forth i ≡ false
      not_alone i l = not_wrong st sheet (turn i l) i (right_i st sheet (turn i l) i (single i l))

      chosen : (i : ℕ) → i < lines → LoneRoute forth parts (read_in st forth (right_read st forth true i) i)
      chosen i l = right_e st sheet (right_read st forth true i) i (taken st sheet i (not_alone i l))

      two :
          (i j : ℕ) (l : i < lines) (k : j < lines) → (i ≡ j → ⊥)
          → TogetherRoutes forth (read_in st forth (turn i l) i) (read_in st forth (turn j k) j)
      two i j l k ne =
          together_shown st sheet A.ends (read_in st forth (turn i l) i) (read_in st forth (turn j k) j)
          (subst₂ (TogetherRoutes drawn) (route i l) (route j k)
          (meets_together st sheet A.ends A.layout all A.meetings i j l k ne))

      pairs : (i j : ℕ) → i < lines → j < lines → wrong_pair st forth i j ≡ false
      pairs i j l k = go (ℕ_discrete i j)
        where
          go : Dec (i ≡ j) → wrong_pair st forth i j ≡ false
          go (yes e) = ap (wrong_pair st forth i) (sym e) ∙ itself_not_wrong st sheet i
          go (no ne) =
              pair_i st sheet (list_wired list pass) A.layout i j l (chosen i l) (chosen j k)
              (both_turned st sheet (turn i l) (right_read st forth true i) (turn j k) (right_read st forth true j) i j (single i l)
              (chosen i l) (single j k) (chosen j k) (two i j l k ne))

-- The answer

module _ (list sheet : List ℕ) where
  -- the checks of the sheet
  abbrev last_checks : List Check
  last_checks =
      record { fault = faults.OutOfLayout; finds = λ l. check19 (station_of l).parts (length (station_of l).cables) sheet }
      ∷ record { fault = faults.BrokenRule; finds = λ l. check20 (station_of l) sheet }
      ∷ []

  -- a refusal of the list is the answer
  pub list_refuses : (check : Fault) (place : ℕ) → first_refusal all_checks list ≡ refused check place → sheet_verdict list sheet ≡ refused check place
  unfolding sheet_verdict sheet_checks
  list_refuses check place h = refused_before list all_checks last_checks check place h

  -- else 19 and then 20 decide
  module _ (pass : Clear all_checks list) where
    pub sheet_decides :
        sheet_verdict list sheet
        ≡ or_else faults.OutOfLayout (check19 (station_of list).parts (length (station_of list).cables) sheet)
        (or_else faults.BrokenRule (check20 (station_of list) sheet) passed)
    unfolding sheet_verdict sheet_checks first_refusal
    sheet_decides = rest_decides list all_checks last_checks pass

    pub layout_refuses :
        (place : ℕ) → check19 (station_of list).parts (length (station_of list).cables) sheet ≡ Some place
        → sheet_verdict list sheet ≡ refused faults.OutOfLayout place
    unfolding or_else
    layout_refuses place h = sheet_decides ∙ rw h

    module _ (follows : check19 (station_of list).parts (length (station_of list).cables) sheet ≡ None) where
      pub rules_refuse : (place : ℕ) → check20 (station_of list) sheet ≡ Some place → sheet_verdict list sheet ≡ refused faults.BrokenRule place
      unfolding or_else
      rules_refuse place h = sheet_decides ∙ rw (follows, h)

      pub rules_pass : check20 (station_of list) sheet ≡ None → sheet_verdict list sheet ≡ passed
      unfolding or_else
      rules_pass h = sheet_decides ∙ rw (follows, h)

  -- a pass is a pass of each
  pub passed_all :
      sheet_verdict list sheet ≡ passed
      → Clear all_checks list × (check19 (station_of list).parts (length (station_of list).cables) sheet ≡ None)
      × (check20 (station_of list) sheet ≡ None)
  unfolding sheet_verdict sheet_checks
  passed_all h =
      let t = clear_rest list all_checks last_checks h in (
        clear_prefix list all_checks last_checks h,
        clear_each list last_checks t (Memᴰ.head refl),
        clear_each list last_checks t (Memᴰ.tail (Memᴰ.head refl)),
      )

  -- an answer that is the verdict accepts exactly what is to be accepted
  pub validates : (verdict : Verdict) → verdict ≡ sheet_verdict list sheet → Validates list sheet verdict
  validates verdict e = record {
    answers = e;
    accepts = λ p.
        let r = passed_all (sym e ∙ p) in
        (r.0, accepts list sheet r.0 (layout_e (station_of list).parts (length (station_of list).cables) sheet r.1) r.2);
    accepted = λ pass A. let r = accepted list sheet pass A in e ∙ rules_pass pass r.0 r.1;
  }
