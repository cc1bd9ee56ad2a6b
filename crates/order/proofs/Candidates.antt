-- Document 01, 'The order of parts': 'this never sticks'. While a part other than t is unranked, there is a candidate. Assumes nothing.
use Prim.Native.Nat.{ℕ, zero, suc, ◌<◌, ◌≤◌}
use native.Mathlib.Omega.{arith}
use mathlib.Core.Path.{◌≡◌, refl, sym, ap, ◌∙◌, subst}
use mathlib.Core.Logic.{◌⊎◌, inl, inr, ◌↔◌}
use mathlib.Core.Bool.{Bool, true, not, ◌&&◌, false≢true}
use mathlib.Core.List.{List, [], ◌∷◌, Memᴰ}
use lib.Dec.{eqb}
use borrow.Author.Tests.{eqb-false, ne_eqb, not-true}
use Rattle.lists.specs.Select.{range, member, any, without, count}
use Rattle.lists.proofs.Bools.{and_e, and_i}
use Rattle.lists.proofs.Select.{range_e, range_i, Distinct, distinct_range}
use Rattle.lists.proofs.Sort.{Rising}
use Rattle.lists.proofs.Sets.{member_e, member_i, dec_mem, member_absent, without_e, without_i, any_e, any_i, count_less, distinct_without, rising_without, rising_range}
use Rattle.station.specs.Station.{Cable, Station}
use Rattle.order.specs.Reach.{neighbours, Joined, Path, arrived, onward, unreached, connected}
use Rattle.order.specs.Order.{candidate}
use Rattle.order.proofs.Paths.{path_start, path_end, path_wider, path_on, path_back, path_off, path_last, path_leaves}
use Rattle.order.proofs.Reach.{Among, reached, unreached_iff, AllJoined, connected_iff}
use Rattle.order.specs.Bipolar.{Off}
use Rattle.order.proofs.Bipolar.{Orderable}

-- 'an unranked part, other than t, that is joined to a ranked part and whose removal from the unranked parts leaves those that remain
-- joined to each other'
pub record Candidate (cs : List Cable) (t : ℕ) (unranked : List ℕ) (w : ℕ) : Type 0 where
  pub other : w ≡ t → ⊥
  pub joined : (q : ℕ) × Joined cs w q × (Memᴰ q unranked → ⊥)
  pub keeps : AllJoined cs (without w unranked)

pub candidate_iff : (cs : List Cable) (t : ℕ) (unranked : List ℕ) (w : ℕ) → (candidate cs t unranked w ≡ true) ↔ Candidate cs t unranked w
unfolding candidate
candidate_iff cs t unranked w = (to, fro)
  where
    apart : Bool
    apart = not (eqb w t)

    outside : Bool
    outside = any (λ q. not (member q unranked)) (neighbours cs w)

    to : (apart && outside && connected cs (without w unranked)) ≡ true → Candidate cs t unranked w
    to e =
        let h : (apart && outside ≡ true) × (connected cs (without w unranked) ≡ true) = and_e (apart && outside) (connected cs (without w unranked)) e in
        let g : (apart ≡ true) × (outside ≡ true) = and_e apart outside h.0 in
        let a : (q : ℕ) × Memᴰ q (neighbours cs w) × (not (member q unranked) ≡ true) = any_e (λ q. not (member q unranked)) (neighbours cs w) g.1 in
        record {
          other = eqb-false w t (not-true (eqb w t) g.0);
          joined = (a.0, a.1, λ m. false≢true (sym (not-true (member a.0 unranked) a.2) ∙ member_i unranked m));
          keeps = (connected_iff cs (without w unranked)).0 h.1;
        }

    fro : Candidate cs t unranked w → (apart && outside && connected cs (without w unranked)) ≡ true
    fro c =
        and_i (apart && outside) (connected cs (without w unranked))
        (and_i apart outside (ap not (ne_eqb w t c.other))
        (any_i (λ q. not (member q unranked)) (neighbours cs w) c.joined.1 (ap not (member_absent c.joined.0 unranked c.joined.2))))
        ((connected_iff cs (without w unranked)).1 c.keeps)

-- what holds of the unranked parts from rank 1 on
pub record Rest (st : Station) (unranked : List ℕ) : Type 0 where
  pub rising : Rising (λ x. x) unranked
  pub distinct : Distinct unranked
  pub inside : (x : ℕ) → Memᴰ x unranked → x < st.parts
  pub analyser : Memᴰ st.analyser unranked
  pub source : Memᴰ st.source unranked → ⊥
  pub reaches : (x : ℕ) → Memᴰ x unranked → Path st.cables (Among unranked) st.analyser x

-- an unranked part other than v, joined to a ranked part
record Front (st : Station) (unranked : List ℕ) (v w : ℕ) : Type 0 where
  unrank : Memᴰ w unranked
  other : w ≡ v → ⊥
  joined : (q : ℕ) × Joined st.cables w q × (Memᴰ q unranked → ⊥)

module _ (st : Station) (unranked : List ℕ) (R : Rest st unranked) where
  -- x remains without w and has then no path to t
  abbrev Stuck : ℕ → ℕ → Type 0
  Stuck w x = Memᴰ x (without w unranked) × (Path st.cables (Among (without w unranked)) st.analyser x → ⊥)

  -- the parts that are stuck without w, tested and counted
  stuck_test : ℕ → ℕ → Bool
  stuck_test w x = member x (unreached st.cables (without w unranked) (st.analyser ∷ []))

  size : ℕ → ℕ
  size w = count (stuck_test w) unranked

  stuck_e : (w : ℕ) {x : ℕ} → Memᴰ x (unreached st.cables (without w unranked) (st.analyser ∷ [])) → Stuck w x
  stuck_e w {x} m =
      let h : Memᴰ x (without w unranked) × (Path st.cables (Among (without w unranked)) x st.analyser → ⊥) =
      (unreached_iff st.cables (without w unranked) st.analyser x).0 m in
      (h.0, λ r. h.1 (path_back st.cables r))

  stuck_i : (w : ℕ) {x : ℕ} → Stuck w x → Memᴰ x (unreached st.cables (without w unranked) (st.analyser ∷ []))
  stuck_i w {x} h =
      (unreached_iff st.cables (without w unranked) st.analyser x).1 (h.0, λ r. h.1 (path_back st.cables r))

  -- Where w' is stuck without w, what is stuck without w' is stuck without w.
  shrinks : (w w' x : ℕ) → Memᴰ w unranked → (w ≡ st.analyser → ⊥) → Stuck w w' → Stuck w' x → Stuck w x
  shrinks w w' x m n a b = (without_i w unranked (without_e w' unranked b.0).0 x_off, λ r. b.1 (keep r))
    where
      cs : List Cable
      cs = st.cables

      swap : (y : ℕ) → Among (without w unranked) y × (y ≡ w' → ⊥) → Among (without w' unranked) y
      swap y h = without_i w' unranked (without_e w unranked h.0).0 h.1

      -- what has a path to t without w has one without w'
      keep : {y : ℕ} → Path cs (Among (without w unranked)) st.analyser y → Path cs (Among (without w' unranked)) st.analyser y
      keep r = path_wider cs swap (path_off cs w' r a.1)

      off : (y : ℕ) → Among unranked y × (y ≡ w → ⊥) → Among (without w unranked) y
      off y h = without_i w unranked h.0 h.1

      -- and so has w
      own : Path cs (λ y. Among unranked y × (y ≡ w → ⊥)) st.analyser w
          ⊎ ((v : ℕ) × Joined cs w v × Path cs (λ y. Among unranked y × (y ≡ w → ⊥)) st.analyser v) → Path cs (Among (without w' unranked)) st.analyser w
      own (inl r) = absurd ((path_start cs r).1 refl)
      own (inr h) = onward h.0 (without_i w' unranked m (λ e. (without_e w unranked a.0).1 (sym e))) h.1 (keep (path_wider cs off h.2))

      x_off : x ≡ w → ⊥
      x_off e = b.1 (subst (Path cs (Among (without w' unranked)) st.analyser) (sym e) (own (path_last cs w (λ q. n (sym q)) (R.reaches w m))))

  smaller : (w w' : ℕ) → Memᴰ w unranked → (w ≡ st.analyser → ⊥) → Stuck w w' → size w' < size w
  unfolding size stuck_test
  smaller w w' m n a =
      count_less (stuck_test w') (stuck_test w) sub unranked (without_e w unranked a.0).0
      (member_absent w' (left w') (λ k. (without_e w' unranked (stuck_e w' k).0).1 refl))
      (member_i (left w) (stuck_i w a))
    where
      left : ℕ → List ℕ
      left v = unreached st.cables (without v unranked) (st.analyser ∷ [])

      sub : (x : ℕ) → stuck_test w' x ≡ true → stuck_test w x ≡ true
      sub x e = member_i (left w) (stuck_i w (shrinks w w' x m n a (stuck_e w' (member_e x (left w') e))))

  module _ (H : Orderable st) where
    -- A path to s, or one without w to t, from a part that is stuck without w leaves the unranked parts.
    leaves : (v c e : ℕ) → Memᴰ c unranked → Path st.cables (Off st.parts v) e c
        → (Path st.cables (λ x. Off st.parts v x × Among unranked x) e c → ⊥)
        → (w : ℕ) × Front st unranked v w × Path st.cables (λ x. Off st.parts v x × Among unranked x) w c
    leaves v c e m r no_way = go (path_leaves st.cables (λ x. dec_mem x unranked) m r)
      where
        Q : ℕ → Type 0
        Q x = Off st.parts v x × Among unranked x

        go : Path st.cables Q e c ⊎ ((w q : ℕ) × Path st.cables Q w c × Joined st.cables w q × (Memᴰ q unranked → ⊥))
            → (w : ℕ) × Front st unranked v w × Path st.cables Q w c
        go (inl h) = absurd (no_way h)
        go (inr h) = (h.0, record { unrank = (path_end st.cables h.2).1; other = (path_end st.cables h.2).0.1; joined = (h.1, h.3, h.4) }, h.2)

    -- Where c is stuck without w, some part joined to a ranked one is.
    next_stuck : (w c : ℕ) → Memᴰ w unranked → (w ≡ st.analyser → ⊥) → Stuck w c → (w' : ℕ) × Stuck w w' × Front st unranked w w'
    next_stuck w c m n a = to (H.bipolar w c (R.inside w m) (R.inside c b.0) b.1)
      where
        b : Memᴰ c unranked × (c ≡ w → ⊥)
        b = without_e w unranked a.0

        Q : ℕ → Type 0
        Q x = Off st.parts w x × Among unranked x

        in_rest : (x : ℕ) → Q x → Among (without w unranked) x
        in_rest x h = without_i w unranked h.1 h.0.1

        made : (w' : ℕ) × Front st unranked w w' × Path st.cables Q w' c → (w' : ℕ) × Stuck w w' × Front st unranked w w'
        made f =
            (f.0, (in_rest f.0 (path_end st.cables f.2), λ r. a.1 (path_on st.cables (path_wider st.cables in_rest f.2) r)), f.1)

        to : Path st.cables (Off st.parts w) st.source c ⊎ Path st.cables (Off st.parts w) st.analyser c → (w' : ℕ) × Stuck w w' × Front st unranked w w'
        to (inl r) = made (leaves w c st.source b.0 r (λ q. R.source (path_end st.cables q).1))
        to (inr r) = made (leaves w c st.analyser b.0 r (λ q. a.1 (path_wider st.cables in_rest q)))

    first_front : (x : ℕ) → Memᴰ x unranked → (x ≡ st.analyser → ⊥) → (w : ℕ) × Front st unranked st.analyser w
    first_front x m n = to (H.bipolar st.analyser x H.wired.analyser (R.inside x m) n)
      where
        to : Path st.cables (Off st.parts st.analyser) st.source x ⊎ Path st.cables (Off st.parts st.analyser) st.analyser x
            → (w : ℕ) × Front st unranked st.analyser w
        to (inl r) =
            let f : (w : ℕ) × Front st unranked st.analyser w × Path st.cables (λ y. Off st.parts st.analyser y × Among unranked y) w x =
            leaves st.analyser x st.source m r (λ q. R.source (path_end st.cables q).1) in
            (f.0, f.1)
        to (inr r) = absurd ((path_end st.cables r).1 refl)

    -- The one without which nothing is stuck is a candidate.
    none_stuck : (w : ℕ) → Front st unranked st.analyser w → unreached st.cables (without w unranked) (st.analyser ∷ []) ≡ []
        → Candidate st.cables st.analyser unranked w
    none_stuck w f e =
        record {
          other = f.other;
          joined = f.joined;
          keeps = λ u v m n. path_on st.cables (path_back st.cables (to u (reached st.cables rest st.analyser m))) (to v (reached st.cables rest st.analyser n));
        }
      where
        rest : List ℕ
        rest = without w unranked

        to : (x : ℕ) → Memᴰ x (unreached st.cables rest (st.analyser ∷ [])) ⊎ Path st.cables (Among rest) x st.analyser → Path st.cables (Among rest) x st.analyser
        to x (inl h) = absurd (mathlib.Core.List.Memᴰ.not-nil (subst (Memᴰ x) e h))
        to x (inr r) = r

    -- a candidate, or a part joined to a ranked one without which fewer are stuck
    nearer : (w : ℕ) (l : List ℕ) → unreached st.cables (without w unranked) (st.analyser ∷ []) ≡ l → Front st unranked st.analyser w
        → ((w' : ℕ) × Memᴰ w' unranked × Candidate st.cables st.analyser unranked w') ⊎ ((w' : ℕ) × (size w' < size w) × Front st unranked st.analyser w')
    nearer w [] e f = inl (w, f.unrank, none_stuck w f e)
    nearer w (c ∷ l) e f = inr (made (next_stuck w c f.unrank f.other (stuck_e w (subst (Memᴰ c) (sym e) (mathlib.Core.List.Memᴰ.head refl)))))
      where
        made : (w' : ℕ) × Stuck w w' × Front st unranked w w' → (w' : ℕ) × (size w' < size w) × Front st unranked st.analyser w'
        made g = (
          g.0,
          smaller w g.0 f.unrank f.other g.1,
          record { unrank = g.2.unrank; other = λ q. g.1.1 (arrived g.1.0 q); joined = g.2.joined },
        )

    find : (k w : ℕ) → size w ≤ k → Front st unranked st.analyser w
        → (w' : ℕ) × Memᴰ w' unranked × Candidate st.cables st.analyser unranked w'
    find zero w h f = go (nearer w (unreached st.cables (without w unranked) (st.analyser ∷ [])) refl f)
      where
        go : ((w' : ℕ) × Memᴰ w' unranked × Candidate st.cables st.analyser unranked w') ⊎ ((w' : ℕ) × (size w' < size w) × Front st unranked st.analyser w')
            → (w' : ℕ) × Memᴰ w' unranked × Candidate st.cables st.analyser unranked w'
        go (inl c) = c
        go (inr g) = absurd (omega (arith, g.1))
    find (suc k) w h f = go (λ w' g i. find k w' g i) (nearer w (unreached st.cables (without w unranked) (st.analyser ∷ [])) refl f)
      where
        go : ((w' : ℕ) → size w' ≤ k → Front st unranked st.analyser w' → (w'' : ℕ) × Memᴰ w'' unranked × Candidate st.cables st.analyser unranked w'')
            → ((w' : ℕ) × Memᴰ w' unranked × Candidate st.cables st.analyser unranked w') ⊎ ((w' : ℕ) × (size w' < size w) × Front st unranked st.analyser w')
            → (w' : ℕ) × Memᴰ w' unranked × Candidate st.cables st.analyser unranked w'
        go below (inl c) = c
        go below (inr g) = below g.0 (omega (arith, g.1)) g.2

    -- 'this never sticks'
    pub never_sticks : (x : ℕ) → Memᴰ x unranked → (x ≡ st.analyser → ⊥)
        → (w : ℕ) × Memᴰ w unranked × Candidate st.cables st.analyser unranked w
    never_sticks x m n =
        let f : (w : ℕ) × Front st unranked st.analyser w = first_front x m n in
        find (size f.0) f.0 (omega arith) f.1

-- The unranked parts at rank 1, and after a candidate is ranked.

pub rest_start : (st : Station) → Orderable st → Rest st (without st.source (range st.parts))
rest_start st H =
    record {
      rising = rising_without (λ x. x) st.source (range st.parts) (rising_range st.parts);
      distinct = distinct_without st.source (range st.parts) (distinct_range st.parts);
      inside = λ x m. range_e st.parts (without_e st.source (range st.parts) m).0;
      analyser = without_i st.source (range st.parts) (range_i st.analyser st.parts H.wired.analyser) (λ e. H.wired.apart (sym e));
      source = λ m. (without_e st.source (range st.parts) m).1 refl;
      reaches = λ x m. to x (without_e st.source (range st.parts) m);
    }
  where
    set : List ℕ
    set = without st.source (range st.parts)

    in_set : (x : ℕ) → Off st.parts st.source x → Among set x
    in_set x h = without_i st.source (range st.parts) (range_i x st.parts h.0) h.1

    on : (x : ℕ) → Path st.cables (Off st.parts st.source) st.source x ⊎ Path st.cables (Off st.parts st.source) st.analyser x
        → Path st.cables (Among set) st.analyser x
    on x (inl r) = absurd ((path_end st.cables r).1 refl)
    on x (inr r) = path_wider st.cables in_set r

    to : (x : ℕ) → Memᴰ x (range st.parts) × (x ≡ st.source → ⊥) → Path st.cables (Among set) st.analyser x
    to x h = on x (H.bipolar st.source x H.wired.source (range_e st.parts h.0) h.1)

pub rest_step : (st : Station) (unranked : List ℕ) (w : ℕ) → Rest st unranked → Candidate st.cables st.analyser unranked w → Rest st (without w unranked)
rest_step st unranked w R c =
    record {
      rising = rising_without (λ x. x) w unranked R.rising;
      distinct = distinct_without w unranked R.distinct;
      inside = λ x m. R.inside x (without_e w unranked m).0;
      analyser = without_i w unranked R.analyser (λ e. c.other (sym e));
      source = λ m. R.source (without_e w unranked m).0;
      reaches = λ x m. c.keeps x st.analyser m (without_i w unranked R.analyser (λ e. c.other (sym e)));
    }
