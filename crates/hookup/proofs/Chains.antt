-- Check 14 on long chains and rings (2026-06, 2026-11, 2026-14): n parts, each joined to the next, and in a ring the last to the first.
-- That those of 256 and 512 parts pass checks 1 to 6 is computed; 8 rests on the two cables of a part, 9 and 10 on paths along the chain,
-- and 14 on the head of its drawing. Assumes nothing.
use Rattle.std.specs.Prelude.{Some, None}
use Prim.Native.Nat.{ℕ, zero, suc, ◌+◌, ◌-◌, ◌*◌, ◌<◌, ◌≤◌, max}
use native.Mathlib.Omega.{arith}
use native.Mathlib.Decide.{ℕ_discrete, dec_lt}
use mathlib.Core.Path.{◌≡◌, refl, sym, ap, ap₂, subst, ◌∙◌}
use mathlib.Core.Bool.{cond, ◌||◌, true, false≢true}
use mathlib.Core.Logic.{◌⊎◌, inl, inr}
use mathlib.Core.List.{List, ◌∷◌}
use lib.ListN.{length, get_or, length-map}
use lib.Dec.{ltb, eqb}
use borrow.Author.Tests.{lt-ltb, le-ltb, eqb-true, ne_eqb}
use Rattle.lists.specs.Select.{tabulate, range, count, filter, one_if}
use Rattle.lists.proofs.Bools.{or_e}
use Rattle.lists.proofs.Seek.{First, NoneOf, seek_cases}
use Rattle.lists.proofs.Tally.{count_places, count_either}
use Rattle.lists.proofs.Select.{get_d_map, get_d_tabulate, length_tabulate}
use Rattle.words.specs.Limits.{least_parts, most_parts, most_degree, most_field}
use Rattle.words.specs.Words.{ends, cable, cable_word, ends_word, list_head_word}
use Rattle.words.proofs.Words.{fields_apart, list_head_apart}
use Rattle.prices.proofs.Discounts.{not_given}
use Rattle.station.specs.Station.{Cable, Station, no_cable, cable_of, station_of, joins, degree}
use Rattle.checks.specs.declared.Fault.TheVariants as faults
use Rattle.checks.specs.Checks.{Clear}
use Rattle.checks.proofs.FirstRefusal.{clear_more}
use Rattle.station.specs.Checks.{check8, list_checks}
use Rattle.station.specs.Code.{up_to}
use Rattle.station.proofs.Computing.{station_computing}
use Rattle.order.specs.Reach.{Joined, Path, arrived, onward, check9, check10}
use Rattle.order.specs.Checks.{all_checks}
use Rattle.order.proofs.Paths.{path_back}
use Rattle.order.proofs.Joins.{line_joined}
use Rattle.order.proofs.Checks.{Part, check9_nothing, check10_nothing}
use Rattle.order.specs.Bipolar.{Off, Bipolar}
use Rattle.order.proofs.Bipolar.{Orderable}
use Rattle.order.proofs.Passed.{list_orderable}
use Rattle.drawing.specs.Drawing.{Drawing, crossings}
use Rattle.drawing.specs.Spacing.{column_at, row_at, spaced, most_pitch, too_large, check13, check14}
use Rattle.drawing.proofs.Spaced.{passed_13, spreads_pass}
use Rattle.drawing.proofs.Quoted.{plain_words}
use Rattle.hookup.specs.declared.Options.{Options}
use Rattle.hookup.specs.Options.{plain, spaced_by}
use Rattle.hookup.specs.Checks.{given_checks}
use Rattle.hookup.specs.Drawing.{drawing}
use Rattle.hookup.specs.Demand.{rows_below, rows_above}
use Rattle.hookup.specs.Outcome.{outcome}
use Rattle.checks.specs.Outcome.{sent_back, written}
use Rattle.order.proofs.AllChecks.{all_clear}
use Rattle.hookup.proofs.CallChecks.{list_decides, refused_14, call_clear}
use Rattle.hookup.proofs.Drawn.{grid_sizes, head_alone, all_words}
use Rattle.hookup.proofs.PartRows.{bottom_rows_lem, top_rows_lem, height_is}
use Rattle.hookup.proofs.Demand3.{sheet_of}
use Rattle.hookup.proofs.Answers.{refused_outcome, short_outcome, drawn_outcome}

-- the part that a cable from part i leads to
abbrev next : ℕ → ℕ → ℕ
next n i = cond (ltb (suc i) n) (suc i) 0

-- the first m of the cables 0-1, 1-2, .. and from the last part to 0, with s = 0 and the last part for t
abbrev laid : ℕ → ℕ → List ℕ
laid n m = list_head_word n m ∷ ends_word 0 (n - 1) ∷ tabulate m (λ i. cable_word i (next n i))

abbrev pub chain : ℕ → List ℕ
chain n = laid n (n - 1)

-- a ring is a chain with one more cable
abbrev pub ring : ℕ → List ℕ
ring n = laid n n

-- a chain or a ring of so many parts and cables, within the limits
record Sized (n m : ℕ) : Type 0 where
  least : least_parts ≤ n
  most : n ≤ most_parts
  joined : n ≤ m + 1
  few : m ≤ n

module _ (n m : ℕ) (S : Sized n m) (six : Clear (up_to 6) (laid n m)) where
  abbrev st : Station
  st = station_of (laid n m)

  -- Its cables

  parts_are : st.parts ≡ n
  unfolding station_of
  parts_are = (list_head_apart n m (omega (arith, S.most)) (omega (arith, S.most))).parts_is

  source_is : st.source ≡ 0
  unfolding station_of
  source_is = (fields_apart ends 0 (n - 1) (omega arith) (omega arith) (omega (arith, S.most))).first_is

  analyser_is : st.analyser ≡ n - 1
  unfolding station_of
  analyser_is = (fields_apart ends 0 (n - 1) (omega arith) (omega arith) (omega (arith, S.most))).second_is

  cables_are : length st.cables ≡ m
  unfolding station_of
  cables_are = length-map (tabulate m (λ i. cable_word i (next n i))) cable_of ∙ length_tabulate m _

  next_inside : (i : ℕ) → suc i < n → next n i ≡ suc i
  next_inside i h = rw (lt-ltb (suc i) n h) refl

  next_small : (i : ℕ) → i < n → next n i ≤ most_field
  next_small i h = go (dec_lt (suc i) n)
    where
      go : Dec (suc i < n) → next n i ≤ most_field
      go (yes l) = omega (arith, next_inside i l, S.most)
      go (no l) = rw (le-ltb (suc i) n (omega arith)) (omega arith)

  cable_at_lem : (i : ℕ) → i < m → get_or st.cables i no_cable ≡ record { one = i; other = next n i }
  unfolding station_of cable_of
  cable_at_lem i h =
      let a = fields_apart cable i (next n i) (omega arith) (omega (arith, S.most)) (next_small i (omega arith)) in
      get_d_map cable_of (tabulate m (λ j. cable_word j (next n j))) i 0 no_cable (omega (arith, length_tabulate m (λ j. cable_word j (next n j))))
      ∙ ap cable_of (get_d_tabulate m (λ j. cable_word j (next n j)) i 0 h)
      ∙ (λ k. record { one = a.first_is k; other = a.second_is k })

  joined_next : (i j : ℕ) → i < m → next n i ≡ j → Joined st.cables i j
  joined_next i j h e =
      let c = cable_at_lem i h in
      line_joined st.cables i j i (omega (arith, cables_are)) (inl (ap (λ (z : Cable). z.one) c, ap (λ (z : Cable). z.other) c ∙ e))

  -- Part p has the cable from it and the one to it, from the part before it

  abbrev before : (p : ℕ) → Dec (p ≡ 0) → ℕ
  before p (yes e) = n - 1
  before p (no e) = p - 1

  two_ends : (p i : ℕ) → i < m → joins p (get_or st.cables i no_cable) ≡ true → (i ≡ p) ⊎ (i ≡ before p (ℕ_discrete p 0))
  unfolding joins
  two_ends p i h e =
      go (or_e (eqb i p) (eqb (next n i) p) (subst (λ (c : Cable). (eqb c.one p || eqb c.other p) ≡ true) (cable_at_lem i h) e))
    where
      back : (d : Dec (p ≡ 0)) → Dec (suc i < n) → next n i ≡ p → i ≡ before p d
      back (yes z) (yes l) f = absurd (omega (arith, next_inside i l))
      back (yes z) (no l) f = omega arith
      back (no z) (yes l) f = omega (arith, next_inside i l)
      back (no z) (no l) f = absurd (z (sym f ∙ rw (le-ltb (suc i) n (omega arith)) refl))

      go : (eqb i p ≡ true) ⊎ (eqb (next n i) p ≡ true) → (i ≡ p) ⊎ (i ≡ before p (ℕ_discrete p 0))
      go (inl f) = inl (eqb-true i p f)
      go (inr f) = inr (back (ℕ_discrete p 0) (dec_lt (suc i) n) (eqb-true (next n i) p f))

  two_cables : (p : ℕ) → degree st.cables p ≤ 2
  unfolding degree
  two_cables p =
      omega (
        arith,
        count_places (joins p) st.cables no_cable,
        ap (λ (k : ℕ). count (λ i. joins p (get_or st.cables i no_cable)) (range k)) cables_are,
        count_either (λ i. joins p (get_or st.cables i no_cable)) m p (before p (ℕ_discrete p 0)) (two_ends p),
      )

  nothing_8 : check8 (laid n m) ≡ None
  unfolding check8
  nothing_8 = go (seek_cases (λ p. ltb most_degree (degree st.cables p)) 0 st.parts)
    where
      go : ((x : ℕ) × (check8 (laid n m) ≡ Some x) × First (λ p. ltb most_degree (degree st.cables p)) 0 st.parts x)
          ⊎ ((check8 (laid n m) ≡ None) × NoneOf (λ p. ltb most_degree (degree st.cables p)) 0 st.parts)
          → check8 (laid n m) ≡ None
      go (inl f) = absurd (false≢true (sym (le-ltb most_degree (degree st.cables f.0) (omega (arith, two_cables f.0))) ∙ f.2.passes))
      go (inr f) = f.0

  eight : Clear list_checks (laid n m)
  unfolding list_checks filter
  eight = clear_more (laid n m) (up_to 6) (record { fault = faults.CrowdedPart; finds = check8 }) six nothing_8

  no_row : (p : ℕ) → one_if (eqb (degree st.cables p) 4) ≡ 0
  no_row p = ap one_if (ne_eqb (degree st.cables p) 4 (λ e. omega (arith, two_cables p)))

  source_cables : rows_below st ≡ 0
  unfolding rows_below
  source_cables = no_row st.source

  analyser_cables : rows_above st ≡ 0
  unfolding rows_above
  analyser_cables = no_row st.analyser

  -- from a part on upward, k steps, through parts of a set
  along : (P : ℕ → Type 0) (a k : ℕ) → a + k < n → ((x : ℕ) → a ≤ x → x ≤ a + k → P x) → Path st.cables P (a + k) a
  along P a zero h p = arrived (p a (omega arith) (omega arith)) (omega arith)
  along P a (suc k) h p =
      onward (suc a) (p a (omega arith) (omega arith)) (joined_next a (suc a) (omega arith) (next_inside a (omega arith)))
      (subst (λ (z : ℕ). Path st.cables P z (suc a)) (omega arith) (along P (suc a) k (omega arith) (λ x g l. p x (omega arith) (omega arith))))

  between : (P : ℕ → Type 0) (a b : ℕ) → a ≤ b → b < n → ((x : ℕ) → a ≤ x → x ≤ b → P x) → Path st.cables P b a
  between P a b h g p =
      let e : a + (b - a) ≡ b = omega arith in
      subst (λ (z : ℕ). Path st.cables P z a) e (along P a (b - a) (omega arith) (λ x l m. p x l (omega arith)))

  nine : check9 st ≡ None
  nine =
      (check9_nothing st).1
      (λ p h. between (Part st.parts) 0 p (omega arith) (omega (arith, parts_are)) (λ x g l. omega (arith, parts_are)))

  -- without part v: the parts below it go down to s, those above it up to t
  reaches : (v p : ℕ) → p < n → (p ≡ v → ⊥) → Path st.cables (Off n v) 0 p ⊎ Path st.cables (Off n v) (n - 1) p
  reaches v p h g = go (dec_lt p v)
    where
      beyond : (k : ℕ) → (k ≡ v → ⊥) → (k < v → ⊥) → v < k
      beyond k e l = omega arith

      go : Dec (p < v) → Path st.cables (Off n v) 0 p ⊎ Path st.cables (Off n v) (n - 1) p
      go (yes l) = inl (path_back st.cables (between (Off n v) 0 p (omega arith) h (λ x a b. (omega arith, λ f. omega arith))))
      go (no l) =
          let above : v < p = beyond p g l in
          inr (between (Off n v) p (n - 1) (omega arith) (omega arith) (λ x a b. (omega arith, λ f. omega arith)))

  bipolar : Bipolar st
  bipolar v p l h g =
      subst (λ (k : ℕ). Path st.cables (Off k v) st.source p ⊎ Path st.cables (Off k v) st.analyser p) (sym parts_are)
      (subst (λ (e : ℕ). Path st.cables (Off n v) e p ⊎ Path st.cables (Off n v) st.analyser p) (sym source_is)
      (subst (λ (e : ℕ). Path st.cables (Off n v) 0 p ⊎ Path st.cables (Off n v) e p) (sym analyser_is)
      (reaches v p (omega (arith, parts_are)) g)))

  ten : check10 st ≡ None
  ten = (check10_nothing st).1 bipolar

  laid_passes : Clear all_checks (laid n m)
  laid_passes = all_clear (laid n m) eight nine ten

  -- Its drawing

  orderable : Orderable st
  orderable = list_orderable (laid n m) laid_passes

  wide : (drawing st).width ≡ m + 1 - n
  wide = omega (arith, (grid_sizes st orderable).width, parts_are, cables_are)

  high : (drawing st).height ≡ n - 1
  high = omega (arith, height_is st orderable, source_cables, analyser_cables, parts_are)

  -- With column pitch 1 and no margin

  module _ (pitch : ℕ) (good : check13 (spaced_by 1 pitch 0 plain).spacing ≡ None) where
    abbrev options : Options
    options = spaced_by 1 pitch 0 plain

    abbrev sheet : Drawing
    sheet = spaced options.spacing (drawing st)

    given : Clear (given_checks options) (laid n m)
    given = list_decides options (laid n m) not_given good ∙ laid_passes

    width_there : sheet.width ≡ m + 1 - n
    unfolding spaced column_at
    width_there = omega (arith, wide)

    height_there : sheet.height ≡ (n - 1) * pitch
    unfolding spaced row_at
    height_there = ap (λ (h : ℕ). 0 + h * pitch + 0) high ∙ omega arith

    -- 14 looks at the larger of the two
    fourteen : check14 sheet ≡ cond (too_large (max (m + 1 - n) ((n - 1) * pitch))) (Some (max (m + 1 - n) ((n - 1) * pitch))) None
    fourteen =
        head_alone st orderable options.spacing (passed_13 options.spacing good)
        ∙ ap₂ (λ (w h : ℕ). cond (too_large (max w h)) (Some (max w h)) None) width_there height_there

    too_high : (place room : ℕ) → check14 sheet ≡ Some place → outcome options (laid n m) room ≡ sent_back faults.NumberTooLarge place
    too_high place room e = refused_outcome options (laid n m) room faults.NumberTooLarge place (refused_14 options (laid n m) given place e)

    words_are : length (sheet_of options (laid n m)) ≡ 4 * m + 4 - n
    words_are =
        omega (
          arith,
          ap length (plain_words options.spacing (drawing st)),
          all_words st orderable options.spacing,
          bottom_rows_lem st orderable,
          top_rows_lem st orderable,
          source_cables,
          analyser_cables,
          parts_are,
          cables_are,
        )

    fits : (room : ℕ) → check14 sheet ≡ None → 4 * m + 4 - n ≤ room → outcome options (laid n m) room ≡ written (sheet_of options (laid n m)) (crossings (drawing st))
    fits room e h = drawn_outcome options (laid n m) (call_clear options (laid n m) given e) room (omega (arith, words_are))

    short : (room : ℕ) → check14 sheet ≡ None → room < 4 * m + 4 - n → outcome options (laid n m) room ≡ sent_back faults.OutputTooShort (4 * m + 4 - n)
    short room e h = short_outcome options (laid n m) (call_clear options (laid n m) given e) room (omega (arith, words_are)) ∙ ap (sent_back faults.OutputTooShort) words_are

passes : (pitch : ℕ) → 0 < pitch → pitch ≤ most_pitch → check13 (spaced_by 1 pitch 0 plain).spacing ≡ None
passes pitch h g =
    spreads_pass (spaced_by 1 pitch 0 plain).spacing
    (record { column_some = omega arith; column_most = omega arith; row_some = h; row_most = g; margin_most = omega arith })

-- A ring of 256 parts is 255 high, and 16 is the largest pitch that fits. 64 passes 4,095, whatever the length of the output

six_256 : Clear (up_to 6) (ring 256)
unfolding station_computing
six_256 = refl

pub ring_64 : (room : ℕ) → outcome (spaced_by 1 64 0 plain) (ring 256) room ≡ sent_back faults.NumberTooLarge 16320
ring_64 room = let good = passes 64 (omega arith) (omega arith) in too_high 256 256 (omega arith) six_256 64 good 16320 room (fourteen 256 256 (omega arith) six_256 64 good)

pub ring_17 : (room : ℕ) → outcome (spaced_by 1 17 0 plain) (ring 256) room ≡ sent_back faults.NumberTooLarge 4335
ring_17 room = let good = passes 17 (omega arith) (omega arith) in too_high 256 256 (omega arith) six_256 17 good 4335 room (fourteen 256 256 (omega arith) six_256 17 good)

pub ring_16 :
    outcome (spaced_by 1 16 0 plain) (ring 256) 772 ≡ written (sheet_of (spaced_by 1 16 0 plain) (ring 256)) (crossings (drawing (station_of (ring 256))))
ring_16 = let good = passes 16 (omega arith) (omega arith) in fits 256 256 (omega arith) six_256 16 good 772 (fourteen 256 256 (omega arith) six_256 16 good) (omega arith)

pub ring_16_short : outcome (spaced_by 1 16 0 plain) (ring 256) 771 ≡ sent_back faults.OutputTooShort 772
ring_16_short = let good = passes 16 (omega arith) (omega arith) in short 256 256 (omega arith) six_256 16 good 771 (fourteen 256 256 (omega arith) six_256 16 good) (omega arith)

-- One of 512 parts is 511 high, and 8 is the largest pitch that fits (2026-11)

six_512 : Clear (up_to 6) (ring 512)
unfolding station_computing
six_512 = refl

pub ring_9 : (room : ℕ) → outcome (spaced_by 1 9 0 plain) (ring 512) room ≡ sent_back faults.NumberTooLarge 4599
ring_9 room = let good = passes 9 (omega arith) (omega arith) in too_high 512 512 (omega arith) six_512 9 good 4599 room (fourteen 512 512 (omega arith) six_512 9 good)

pub ring_8 :
    outcome (spaced_by 1 8 0 plain) (ring 512) 1540 ≡ written (sheet_of (spaced_by 1 8 0 plain) (ring 512)) (crossings (drawing (station_of (ring 512))))
ring_8 = let good = passes 8 (omega arith) (omega arith) in fits 512 512 (omega arith) six_512 8 good 1540 (fourteen 512 512 (omega arith) six_512 8 good) (omega arith)

pub ring_8_short : outcome (spaced_by 1 8 0 plain) (ring 512) 1539 ≡ sent_back faults.OutputTooShort 1540
ring_8_short = let good = passes 8 (omega arith) (omega arith) in short 512 512 (omega arith) six_512 8 good 1539 (fourteen 512 512 (omega arith) six_512 8 good) (omega arith)

-- A chain of 512 parts has width 0 and is as high (2026-14)

chain_six : Clear (up_to 6) (chain 512)
unfolding station_computing
chain_six = refl

pub chain_9 : (room : ℕ) → outcome (spaced_by 1 9 0 plain) (chain 512) room ≡ sent_back faults.NumberTooLarge 4599
chain_9 room = let good = passes 9 (omega arith) (omega arith) in too_high 512 511 (omega arith) chain_six 9 good 4599 room (fourteen 512 511 (omega arith) chain_six 9 good)

pub chain_8 :
    outcome (spaced_by 1 8 0 plain) (chain 512) 1536 ≡ written (sheet_of (spaced_by 1 8 0 plain) (chain 512)) (crossings (drawing (station_of (chain 512))))
chain_8 = let good = passes 8 (omega arith) (omega arith) in fits 512 511 (omega arith) chain_six 8 good 1536 (fourteen 512 511 (omega arith) chain_six 8 good) (omega arith)

pub chain_8_short : outcome (spaced_by 1 8 0 plain) (chain 512) 1535 ≡ sent_back faults.OutputTooShort 1536
chain_8_short = let good = passes 8 (omega arith) (omega arith) in short 512 511 (omega arith) chain_six 8 good 1535 (fourteen 512 511 (omega arith) chain_six 8 good) (omega arith)
