-- The part that a search for one that is cut off from t finds: laws of what a walk leaves of a set. Assumes nothing.
use Rattle.std.specs.Prelude.{Option, Some, None}
use Prim.Native.Nat.{ℕ, ◌^◌, ◌<◌}
use native.Mathlib.Omega.{arith}
use mathlib.Core.Path.{◌≡◌, refl, sym, ap, ◌∙◌, subst}
use mathlib.Core.Logic.{◌⊎◌, inl, inr}
use mathlib.Core.Bool.{Bool, beq, true, false, not, false≢true}
use mathlib.Core.List.{List, [], ◌∷◌, Memᴰ}
use lib.ListN.{length, get_or, set}
use Rattle.lists.specs.Search.{seek}
use Rattle.lists.specs.Select.{without}
use Rattle.lists.proofs.Select.{get_d_mem}
use Rattle.lists.proofs.Seek.{seek_found}
use Rattle.lists.proofs.Sets.{without_e}
use Rattle.station.specs.Station.{station_of}
use Rattle.station.specs.Code.{Wired}
use Rattle.order.specs.Reach.{Path, arrived, unreached, null, connected}
use Rattle.words.specs.declared.Part.{Part}
use Rattle.reachability.specs.declared.adjacency.Neighbours.{Neighbours}
use Rattle.reachability.specs.Tables.{numbers, number_at, neighbours_in, Adjacent, set_of, Across, CutOff}
use Rattle.order.proofs.Paths.{path_end, path_on, path_back}
use Rattle.order.proofs.Reach.{Among, reached, unreached_iff}
use Rattle.words.specs.Limits.{most_parts}
use Rattle.reachability.proofs.AdjacencyTable.{numbers_length, numbers_at, joined_inside}
use Rattle.reachability.proofs.Flags.{flagged_e, flagged_i, without_flagged, front_flagged}
use Rattle.reachability.proofs.Connected.{front_mem, connected_empty, connected_from, null_none, null_mem}

at_nothing : {x : ℕ} → None ≡ Some x → ⊥
at_nothing e = let z : ◌≡◌ {A = ℕ} 0 1 = cc in omega arith

at_one : {x y : ℕ} → Some x ≡ Some y → x ≡ y
at_one e = cc

unequal : (a b : Bool) → not (beq a b) ≡ true → a ≡ not b
unequal true true e = absurd (false≢true e)
unequal true false e = refl
unequal false true e = refl
unequal false false e = absurd (false≢true e)

-- a part that was found is one

module _ (list : List ℕ) {n p : ℕ} {r : Option ℕ} (test : ℕ → Bool) (W : Wired (station_of list)) (c : n ≡ (station_of list).parts) (s : r ≡ seek test 0 n) (e : r ≡ Some p) where
  pub found_inside : p < (station_of list).parts
  found_inside = omega (arith, c, (seek_found test 0 n (sym s ∙ e)).below)

  pub found_fits : p < 2 ^ 16
  found_fits = omega (arith, found_inside, W.most)

-- a neighbour that a look at all of them comes to is a part
pub looked_inside : {list : List ℕ} {table : List Neighbours} (v : ℕ) (parts : List Part) (j : ℕ) → Adjacent list table → numbers parts ≡ neighbours_in table v → j < length parts
    → number_at parts j < (station_of list).parts
looked_inside v parts j A e h =
    joined_inside A.wired v (subst (λ (l : List ℕ). Memᴰ (number_at parts j) l) (e ∙ A.by_line v)
    (subst (λ (x : ℕ). Memᴰ x (numbers parts)) (numbers_at parts j) (get_d_mem (numbers parts) j 0 (omega (arith, numbers_length parts)))))

pub looked_below : {list : List ℕ} {table : List Neighbours} (v : ℕ) (parts : List Part) (j : ℕ) → Adjacent list table → numbers parts ≡ neighbours_in table v → j < length parts
    → number_at parts j < most_parts
looked_below v parts j A e h = omega (arith, looked_inside v parts j A e h, A.wired.most)

-- and one that passes the tests is across
pub across_here : {list : List ℕ} {flags left : List Bool} {a x : ℕ} → a ≡ (station_of list).analyser → x < (station_of list).parts → get_or flags x false ≡ true
    → not (beq (get_or left x false) (get_or left a false)) ≡ true → Across list flags left x
across_here {left = left} {a} e i m t = record { inside = i; member = m; across = unequal _ (get_or left a false) t ∙ ap (λ (y : ℕ). not (get_or left y false)) e }

-- The answers of a search for a part that is cut off: what it found is what the set, and what the walk from there leaves, start with; or a
-- part that the walk divides from t

module _ (list : List ℕ) (flags : List Bool) {n : ℕ} {r : Option ℕ} (c : n ≡ (station_of list).parts) (s : r ≡ seek (λ p. get_or flags p false) 0 n) where
  pub cut_none : r ≡ None → CutOff list (set_of list flags) None
  cut_none e =
      record {
        test = ap not (sym (connected_empty (station_of list).cables (set_of list flags) (front_flagged flags c s e)));
        inside = λ q a. absurd (at_nothing a);
        apart = λ q a. absurd (at_nothing a);
      }

  module _ {p : ℕ} (e : r ≡ Some p) (left : List Bool) (u : set_of list left ≡ unreached (station_of list).cables (set_of list flags) (p ∷ [])) where
    from : connected (station_of list).cables (set_of list flags) ≡ null (set_of list left)
    from = connected_from (station_of list).cables (set_of list flags) (front_flagged flags c s e) ∙ ap null (sym u)

    start_mem : Memᴰ p (set_of list flags)
    start_mem = front_mem (set_of list flags) (front_flagged flags c s e)

    apart_of : {q : ℕ} → Memᴰ q (set_of list left) → Memᴰ q (set_of list flags) × (Path (station_of list).cables (Among (set_of list flags)) q p → ⊥)
    apart_of {q} m = (unreached_iff (station_of list).cables (set_of list flags) p q).0 (subst (Memᴰ q) u m)

    -- a part that the walk did not leave has a path from its start
    path_from : {q : ℕ} → Memᴰ q (set_of list flags) → get_or left q false ≡ false → Path (station_of list).cables (Among (set_of list flags)) q p
    path_from {q} m l = go (reached (station_of list).cables (set_of list flags) p m)
      where
        go : Memᴰ q (unreached (station_of list).cables (set_of list flags) (p ∷ [])) ⊎ Path (station_of list).cables (Among (set_of list flags)) q p
            → Path (station_of list).cables (Among (set_of list flags)) q p
        go (inl g) = absurd (false≢true (sym l ∙ (flagged_e (station_of list).parts left (subst (Memᴰ q) (sym u) g)).1))
        go (inr g) = g

    -- the walk reached its start
    start_reached : get_or left p false ≡ false
    start_reached = go (get_or left p false) refl
      where
        go : (b : Bool) → get_or left p false ≡ b → get_or left p false ≡ false
        go false l = l
        go true l =
            absurd ((apart_of (flagged_i (station_of list).parts left p (flagged_e _ flags start_mem).0 l)).1 (arrived start_mem refl))

    module _ {a : ℕ} (ea : a ≡ (station_of list).analyser) where
      at_t : (b : Bool) → get_or left a false ≡ b → get_or left (station_of list).analyser false ≡ b
      at_t b l = sym (ap (λ (x : ℕ). get_or left x false) ea) ∙ l

      -- t is left: the walk's start is across
      pub across_start : get_or left a false ≡ true → Across list flags left p
      across_start l =
          let h = flagged_e (station_of list).parts flags start_mem in
          record { inside = h.0; member = h.1; across = start_reached ∙ ap not (sym (at_t true l)) }

      module _ (l : get_or left a false ≡ false) {found : Option ℕ} (f : found ≡ seek (λ q. get_or left q false) 0 n) where
        -- t is reached: a part that is left is across
        pub across_left : {q : ℕ} → found ≡ Some q → Across list flags left q
        across_left {q} g =
            let k : Memᴰ q (set_of list left) = front_mem (set_of list left) (front_flagged left c f g) in
            let h = flagged_e (station_of list).parts flags (apart_of k).0 in
            record { inside = h.0; member = h.1; across = (flagged_e (station_of list).parts left k).1 ∙ ap not (sym (at_t false l)) }

        -- and where none is left the parts are joined to each other
        pub cut_not : found ≡ None → CutOff list (set_of list flags) None
        cut_not g =
            record {
              test = ap not (sym (from ∙ null_none (set_of list left) (front_flagged left c f g)));
              inside = λ q b. absurd (at_nothing b);
              apart = λ q b. absurd (at_nothing b);
            }

    -- a part across the walk from t is cut off
    pub cut_across : {q : ℕ} → Wired (station_of list) → Across list flags left q → CutOff list (set_of list flags) (Some q)
    cut_across {q} W A = go (get_or left (station_of list).analyser false) refl
      where
        mq : Memᴰ q (set_of list flags)
        mq = flagged_i (station_of list).parts flags q A.inside A.member

        cut : {x : ℕ} → Memᴰ x (set_of list left) → (Path (station_of list).cables (Among (set_of list flags)) (station_of list).analyser q → ⊥)
            → CutOff list (set_of list flags) (Some q)
        cut m none = record {
          test = ap not (sym (from ∙ null_mem (set_of list left) m));
          inside = λ y b. subst (λ (z : ℕ). Memᴰ z (set_of list flags)) (at_one b) mq;
          apart = λ y b g. none (subst (Path (station_of list).cables (Among (set_of list flags)) (station_of list).analyser) (sym (at_one b)) g);
        }

        go : (b : Bool) → get_or left (station_of list).analyser false ≡ b → CutOff list (set_of list flags) (Some q)
        go true l =
            let mt : Memᴰ (station_of list).analyser (set_of list left) = flagged_i (station_of list).parts left (station_of list).analyser W.analyser l in
            cut mt (λ g. (apart_of mt).1 (path_on (station_of list).cables (path_from mq (A.across ∙ ap not l)) g))
        go false l =
            let k : Memᴰ q (set_of list left) = flagged_i (station_of list).parts left q A.inside (A.across ∙ ap not l) in
            cut k
            (λ g. (apart_of k).1 (path_on (station_of list).cables (path_from (path_end (station_of list).cables g) l) (path_back (station_of list).cables g)))

-- the set without v, as flags
pub cut_without : {list : List ℕ} {found : Option ℕ} (flags : List Bool) (v : ℕ) → CutOff list (set_of list (set flags v false)) found → CutOff list (without v (set_of list flags)) found
cut_without {list} {found} flags v C = subst (λ (l : List ℕ). CutOff list l found) (sym (without_flagged (station_of list).parts flags v)) C

pub cut_fits : {list : List ℕ} {found : Option ℕ} {q : ℕ} (flags : List Bool) (v : ℕ) → Wired (station_of list) → CutOff list (without v (set_of list flags)) found → found ≡ Some q → q < 2 ^ 16
cut_fits {list} {q = q} flags v W C e = omega (arith, (flagged_e _ flags (without_e v (set_of list flags) (C.inside q e)).0).0, W.most)
