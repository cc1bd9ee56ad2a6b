-- 'All sheets we write are accepted, in every spacing', with and without a bill: what demand 3 holds of, and so what every successful call
-- of draw leaves in the output. Assumes nothing.
use Rattle.std.specs.Prelude.{Ok, Err}
use Prim.Native.Nat.{ℕ, suc, ◌+◌, ◌<◌}
use native.Mathlib.Omega.{arith}
use mathlib.Core.Path.{◌≡◌, refl, sym, ap, subst, subst₂, ◌∙◌}
use mathlib.Core.Bool.{Bool, true, false}
use mathlib.Core.Logic.{◌⊎◌, inl, inr}
use mathlib.Core.List.{List, [], ◌∷◌, ◌++◌, map, append_assoc}
use lib.ListN.{length, get_or, take, length-append, length-map, get_or-append}
use Rattle.lists.proofs.Select.{get_d_map}
use Rattle.words.specs.Words.{line_of}
use Rattle.checks.specs.Checks.{first_refusal, Clear, Verdict, number_of}
use Rattle.station.specs.Station.{Cable, no_cable, Station, station_of}
use Rattle.geometry.specs.Spots.{Spot, origin}
use Rattle.geometry.specs.Lines.{point}
use Rattle.order.specs.Order.{order}
use Rattle.order.specs.Orientation.{lower_part, upper_part}
use Rattle.order.specs.Checks.{all_checks}
use Rattle.order.proofs.Orientation.{parts_joined}
use Rattle.drawing.specs.declared.spacing.Spacing.{Spacing}
use Rattle.drawing.specs.Drawing.{Drawing, spot_of, route_at, route_points, points_at}
use Rattle.drawing.specs.Spacing.{spaced}
use Rattle.drawing.specs.Sheet.{lengths_section, quote_section, drawing_words, sheet_words, quoted_words}
use Rattle.drawing.specs.Reading.{Endpoints, no_endpoints, drawing_in, lengths_in}
use Rattle.drawing.specs.Sizes.{Sizes}
use Rattle.drawing.proofs.ReadBack.{DrawingFits}
use Rattle.drawing.proofs.Spaced.{parts_spaced, routes_spaced}
use Rattle.hookup.specs.declared.Options.{Options}
use Rattle.hookup.specs.Checks.{call_checks}
use Rattle.hookup.specs.Reading.{ends_by, read_by, drawing_of}
use Rattle.hookup.specs.Demand.{Demand3}
use Rattle.hookup.specs.Answer.{Answer, counts, refusal, reply, Drew}
use Rattle.hookup.proofs.Drawn.{ends_of}
use Rattle.hookup.proofs.CallChecks.{checked_given, list_clear}
use Rattle.hookup.proofs.Answers.{refused_outcome}
use Rattle.validation.specs.Directions.{directed, Directed}
use Rattle.validation.specs.Layout.{Follows}
use Rattle.validation.specs.Outcome.{Accepted}
use Rattle.acceptance.proofs.Fitting.{read_fits}
use Rattle.acceptance.proofs.DrawingWords.{InHead, follows}

-- Directions: from the lower-ranked end upward is one of the two

endpoints_path : (e f : Endpoints) → e.first ≡ f.first → e.last ≡ f.last → e ≡ f
endpoints_path e f p q = λ i. record { first = p i; last = q i }

joined_directed : (parts : List ℕ) (c : Cable) → (forward : Bool) × (ends_by parts c ≡ directed forward c)
unfolding ends_by
joined_directed parts c = go (parts_joined parts c)
  where
    go :
        ((lower_part parts c ≡ c.one) × (upper_part parts c ≡ c.other)) ⊎ ((lower_part parts c ≡ c.other) × (upper_part parts c ≡ c.one))
        → (forward : Bool) × (ends_by parts c ≡ directed forward c)
    go (inl e) = (true, endpoints_path _ (directed true c) e.0 e.1)
    go (inr e) = (false, endpoints_path _ (directed false c) e.0 e.1)

upward_directed : (parts : List ℕ) (cables : List Cable) → Directed cables (map (ends_by parts) cables)
upward_directed parts cables = record {
  all = length-map cables (ends_by parts);
  each = λ i h.
      let t = joined_directed parts (get_or cables i no_cable) in (t.0, get_d_map (ends_by parts) cables i no_cable no_endpoints h ∙ t.1);
}

-- What demand 3 says of sizes keeps every point in the head

corner_point :
    (d : Drawing) (i k : ℕ) → k < length (route_at d i).corners → point (points_at d i) (suc k) ≡ get_or (route_at d i).corners k origin
unfolding points_at route_points point
corner_point d i k h = get_or-append (route_at d i).corners (spot_of d (route_at d i).last ∷ []) origin k h

points_count : (d : Drawing) (i : ℕ) → length (points_at d i) ≡ suc (length (route_at d i).corners + 1)
unfolding points_at route_points
points_count d i = ap suc (length-append (route_at d i).corners (spot_of d (route_at d i).last ∷ []))

in_head : (s : Spacing) (grid d : Drawing) (sheet : List ℕ) → Sizes s (length d.parts) (length d.routes) grid d sheet → InHead d
in_head s grid d sheet S = record {
  parts = λ p h. let w = S.parts_within p h in record { across = omega (arith, w.0); up = omega (arith, w.1) };
  corners = λ i k h g.
      let b : suc k < length (points_at d i) = omega (arith, points_count d i) in
      let e = corner_point d i k g in
      record {
        across = omega (arith, S.x_most i (suc k) h b, ap (λ (p : Spot). p.x) e);
        up = omega (arith, S.y_most i (suc k) h b, ap (λ (p : Spot). p.y) e);
      };
}

module _ (options : Options) (list sheet : List ℕ) (D : Demand3 options list sheet) where
  abbrev st : Station
  st = station_of list

  -- the drawing on the sheet
  abbrev shown : Drawing
  shown = spaced options.spacing D.grid

  -- what stands behind it
  abbrev behind : List ℕ
  behind = lengths_section D.grid ++ quote_section options.discount D.grid

  sheet_is : drawing_words shown ++ behind ≡ sheet
  unfolding quoted_words sheet_words
  sheet_is =
      sym (D.form.words ∙ append_assoc (drawing_words shown) (lengths_section D.grid) (quote_section options.discount D.grid))

  parts_are : length shown.parts ≡ st.parts
  parts_are = parts_spaced options.spacing D.grid ∙ D.form.parts

  routes_are : length shown.routes ≡ length st.cables
  routes_are = routes_spaced options.spacing D.grid ∙ D.form.cables

  -- it is read off the words, so that it fits
  read_is : drawing_in st.parts (ends_of st) sheet ≡ shown
  unfolding drawing_of read_by
  read_is = D.spacing

  fits : DrawingFits st.parts (ends_of st) shown
  fits =
      subst (λ (d : Drawing). DrawingFits st.parts (ends_of st) d) read_is
      (read_fits st.parts (ends_of st) sheet (ap (λ (d : Drawing). length d.parts) read_is ∙ parts_are))

  -- and each line number is read off the words of the lengths
  few : (i : ℕ) → i < length (ends_of st) → i < 65536
  few i h =
      let w : ℕ = get_or (lengths_in st.parts (length st.cables) sheet) i 0 in
      let e : line_of w ≡ i = D.lengths.lines i (omega (arith, length-map st.cables (ends_by (order st)))) in
      omega arith

  within : InHead shown
  within =
      let s = options.spacing in
      in_head s D.grid shown sheet
      (subst₂ (λ (n m : ℕ). Sizes s n m D.grid shown sheet) (sym parts_are) (sym routes_are)
      (subst (λ (d : Drawing). Sizes s st.parts (length st.cables) D.grid d sheet) D.spacing D.sizes))

  layout : Follows st.parts (length st.cables) sheet
  layout =
      subst₂ (λ (m : ℕ) (l : List ℕ). Follows st.parts m l) routes_are sheet_is
      (follows st.parts (ends_of st) shown fits few within behind)

  -- so the sheet is accepted
  pub own_accepted : Accepted list sheet
  unfolding drawing_of read_by
  own_accepted = record { layout = layout; ends = ends_of st; directions = upward_directed (order st) st.cables; meetings = D.meetings }

-- Every successful call of draw

module _ (options : Options) (list before after : List ℕ) (answer : Answer) (words crossings : ℕ)
    (D : Drew options list before after answer) (e : answer ≡ Ok (record { words = words; crossings = crossings })) where
  drew : Drew options list before after (Ok (record { words = words; crossings = crossings }))
  drew = subst (λ (a : Answer). Drew options list before after a) e D

  -- its list was not sent back
  pub drawn_clear : Clear all_checks list
  drawn_clear = list_clear options list (checked_given options list (go (first_refusal (call_checks options) list) refl))
    where
      go : (v : Verdict) → first_refusal (call_checks options) list ≡ v → Clear (call_checks options) list
      go (Ok u) f = f
      go (Err r) f =
          let g : counts words crossings ≡ refusal (number_of r.fault) r.place = drew.replies ∙ ap reply (refused_outcome options list (length before) r.fault r.place f) in
          let z : ◌≡◌ {A = ℕ} 0 1 = cc in
          absurd (omega arith)

  -- and its sheet is accepted
  pub drawn_accepted : Accepted list (take words after)
  drawn_accepted = own_accepted options list (take words after) drew.demands.0
