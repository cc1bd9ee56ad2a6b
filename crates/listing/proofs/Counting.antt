-- Counting the cables of each part, a word at a time. Assumes nothing.
use Prim.Native.Nat.{ℕ, ◌+◌, ◌-◌, ◌^◌, ◌≤◌, ◌<◌}
use mathlib.Core.Path.{◌≡◌, sym, ap, ◌∙◌}
use mathlib.Core.Bool.{Bool, true, ◌||◌, or-true}
use mathlib.Core.List.{List, map}
use native.Mathlib.Nat.{add-zero}
use native.Mathlib.Numerals.{add-one}
use native.Mathlib.Omega.{arith}
use native.Mathlib.Decide.{ℕ_discrete}
use borrow.Author.Tests.{eq-eqb, ne_eqb}
use lib.ListN.{length, get_or, set, drop, replicate, get_or-replicate, length-replicate, length-set, drop_of_length-le}
use lib.Seq.{drop-cons, get_or-set_same, get_or-set_other}
use lib.Dec.{eqb}
use Rattle.lists.specs.Select.{count, one_if}
use Rattle.lists.proofs.Sums.{count_length}
use Rattle.words.specs.Words.{first_of, second_of}
use Rattle.words.specs.Limits.{most_parts}
use Rattle.station.specs.Station.{cable_of, station_of, joins, degree}
use Rattle.checks.specs.Checks.{Clear}
use Rattle.station.specs.Code.{up_to}
use Rattle.station.proofs.Each.{words_due, parts_between, inside, different}
use Rattle.station.proofs.Cables.{cables_count}

-- the degree in the cables from word i on
abbrev pub degree_from : List ℕ → ℕ → ℕ → ℕ
degree_from list i p = degree (map cable_of (drop i list)) p

-- the word names part p
abbrev names : ℕ → ℕ → Bool
names w p = eqb (first_of w) p || eqb (second_of w) p

degree_step : (list : List ℕ) (i p : ℕ) → i < length list → degree_from list i p ≡ one_if (names (get_or list i 0) p) + degree_from list (i + 1) p
unfolding degree count joins cable_of
degree_step list i p h = rw (add-one, drop-cons list i 0 h)

degree_end : (list : List ℕ) (i p : ℕ) → length list ≤ i → degree_from list i p ≡ 0
unfolding degree count
degree_end list i p h = rw (drop_of_length-le list h)

degree_le : (list : List ℕ) (p : ℕ) → degree (station_of list).cables p ≤ length list - 2
unfolding degree
degree_le list p = rw (← cables_count list) (count_length (joins p) (station_of list).cables)

-- Of the cables before word i, counts has how many there are of each part.
pub record Counted (list counts : List ℕ) (i : ℕ) : Type 0 where
  pub from : 2 ≤ i
  pub to : i ≤ length list
  pub long : length counts ≡ most_parts
  pub rest : (p : ℕ) → p < most_parts → get_or counts p 0 + degree_from list i p ≡ degree (station_of list).cables p

-- one more at a and at b
abbrev pub incremented : List ℕ → ℕ → ℕ → List ℕ
incremented counts a b = set (set counts a (get_or counts a 0 + 1)) b (get_or (set counts a (get_or counts a 0 + 1)) b 0 + 1)

get_d_incremented : (counts : List ℕ) (a b p : ℕ) → a < length counts → b < length counts → (a ≡ b → ⊥)
    → get_or (incremented counts a b) p 0 ≡ get_or counts p 0 + one_if (eqb a p || eqb b p)
get_d_incremented counts a b p ha hb ne = go (ℕ_discrete a p) (ℕ_discrete b p)
  where
    once : List ℕ
    once = set counts a (get_or counts a 0 + 1)

    go : Dec (a ≡ p) → Dec (b ≡ p) → get_or (incremented counts a b) p 0 ≡ get_or counts p 0 + one_if (eqb a p || eqb b p)
    go (yes e) (yes f) = absurd (ne (e ∙ sym f))
    go (yes e) (no g) =
        rw (eq-eqb a p e)
        (get_or-set_other once b p _ 0 (λ z. g (sym z)) ∙ rw (← e) (get_or-set_same counts a (get_or counts a 0 + 1) 0 ha))
    go (no g) (yes f) =
        rw (ne_eqb a p g, eq-eqb b p f, ← f)
        (get_or-set_same once b _ 0 (simp length-set hb) ∙ ap (λ (x : ℕ). x + 1) (get_or-set_other counts a b _ 0 (λ z. ne (sym z))))
    go (no g) (no k) =
        rw (ne_eqb a p g, ne_eqb b p k, add-zero)
        (get_or-set_other once b p _ 0 (λ z. k (sym z)) ∙ get_or-set_other counts a p _ 0 (λ z. g (sym z)))

pub counted_start : (list : List ℕ) (k : ℕ) → k ≡ most_parts → 2 ≤ length list → Counted list (replicate k 0) 2
unfolding station_of
counted_start list k e h = record {
  from = omega arith;
  to = h;
  long = length-replicate {A = ℕ} k 0 ∙ e;
  rest = λ p l. rw (get_or-replicate {A = ℕ} k p 0 0 (omega arith)) (omega arith);
}

-- What a turn of the loop needs for the cable at i between parts a and b.
pub record CountStep (list counts : List ℕ) (i a b : ℕ) : Type 0 where
  pub a_below : a < most_parts
  pub b_below : b < most_parts
  pub a_fits : get_or counts a 0 + 1 < 2 ^ 16
  pub b_fits : get_or (set counts a (get_or counts a 0 + 1)) b 0 + 1 < 2 ^ 16
  pub next : Counted list (incremented counts a b) (i + 1)

module _ (list counts : List ℕ) (i : ℕ) (t : Counted list counts i) (h : i < length list) where
  -- a part that the word at i names is counted, with this cable, at most as often as there are cables
  count_fits : (p : ℕ) → p < most_parts → names (get_or list i 0) p ≡ true → get_or counts p 0 + 1 ≤ length list - 2
  count_fits p l e =
      let s : degree_from list i p ≡ 1 + degree_from list (i + 1) p = degree_step list i p h ∙ rw e in
      omega (arith, t.rest p l, degree_le list p)

  counted_more : (a b : ℕ) → a ≡ first_of (get_or list i 0) → b ≡ second_of (get_or list i 0) → a < most_parts → b < most_parts → (a ≡ b → ⊥)
      → Counted list (incremented counts a b) (i + 1)
  counted_more a b ea eb ha hb ne = record {
    from = omega (arith, t.from);
    to = omega arith;
    long = simp length-set t.long;
    rest = λ p l. next p l;
  }
    where
      next : (p : ℕ) → p < most_parts → get_or (incremented counts a b) p 0 + degree_from list (i + 1) p ≡ degree (station_of list).cables p
      next p l =
          let q : one_if (eqb a p || eqb b p) ≡ one_if (names (get_or list i 0) p) = rw (ea, eb) in
          omega (arith, q, get_d_incremented counts a b p (omega (arith, t.long)) (omega (arith, t.long)) ne, degree_step list i p h, t.rest p l)

  pub count_step : Clear (up_to 6) list → (a b : ℕ) → a ≡ first_of (get_or list i 0) → b ≡ second_of (get_or list i 0) → CountStep list counts i a b
  count_step C a b ea eb =
      let w = get_or list i 0 in
      let n = parts_between list 6 C (omega arith) in
      let l = inside list 6 C (omega arith) i (omega (arith, t.from)) h in
      let ne : a ≡ b → ⊥ = λ q. different list 6 C (omega arith) i (omega (arith, t.from)) h (sym ea ∙ q ∙ eb) in
      let ha : a < most_parts = omega (arith, n.1, l.0) in
      let hb : b < most_parts = omega (arith, n.1, l.1) in
      let fa = count_fits a ha (rw (eq-eqb (first_of w) a (sym ea))) in
      let fb = count_fits b hb (rw (eq-eqb (second_of w) b (sym eb)) (or-true (eqb (first_of w) b))) in
      let kept : get_or (set counts a (get_or counts a 0 + 1)) b 0 ≡ get_or counts b 0 = get_or-set_other counts a b _ 0 (λ z. ne (sym z)) in
      record {
        a_below = ha;
        b_below = hb;
        a_fits = omega (arith, fa, words_due list 6 C (omega arith));
        b_fits = omega (arith, fb, kept, words_due list 6 C (omega arith));
        next = counted_more a b ea eb ha hb ne;
      }

pub counted_end : (list counts : List ℕ) (i : ℕ) → Counted list counts i → length list ≤ i → (p : ℕ) → p < most_parts → get_or counts p 0 ≡ degree (station_of list).cables p
counted_end list counts i t h p l = omega (arith, t.rest p l, degree_end list i p h)
