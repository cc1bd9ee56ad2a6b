-- The first refusal of any list of checks: a prefix that finds nothing leaves it to the rest, the first check that finds a place gives it,
-- and a pass is a pass of each check; a check taken out, or put in another's place; checks made on another list. Assumes nothing.
use Rattle.checks.specs.declared.Refusal.{Refusal}
use Rattle.checks.specs.declared.Fault.{Fault}
use Rattle.std.specs.Prelude.{Option, Some, None, Ok, Err, Result, ⊤}
use Prim.Native.Nat.{ℕ}
use native.Mathlib.Omega.{arith}
use mathlib.Core.Path.{◌≡◌, refl, sym, ap, ap₂, ◌∙◌}
use mathlib.Core.Logic.{◌⊎◌, inl, inr}
use mathlib.Core.Bool.{Bool, true, false}
use mathlib.Core.List.Memᴰ
use mathlib.Core.List.{List, [], ◌∷◌, ◌++◌, map, Memᴰ}
use Rattle.checks.specs.Checks.{Check, or_else, first_refusal, Clear, at_when, made_on, Verdict, passed, refused, number_of}

-- what a refusal has; on a pass, something else
abbrev fault_of : {A : Type 0} → Fault → Result A Refusal → Fault
fault_of d (Ok x) = d
fault_of d (Err r) = r.fault

abbrev place_of : {A : Type 0} → ℕ → Result A Refusal → ℕ
place_of d (Ok x) = d
place_of d (Err r) = r.place

-- refusals that are the same have the same fault and the same place
pub same_fault : {A : Type 0} {c k : Fault} {p q : ℕ} → refused {A = A} c p ≡ refused k q → c ≡ k
same_fault {c = c} e = ap (fault_of c) e

pub same_place : {A : Type 0} {c k : Fault} {p q : ℕ} → refused {A = A} c p ≡ refused k q → p ≡ q
same_place {p = p} e = ap (place_of p) e

or_else_at : (k : Fault) (later : Verdict) {f : Option ℕ} {p : ℕ} → f ≡ Some p → or_else k f later ≡ refused k p
unfolding or_else
or_else_at k later e = rw e

or_else_nothing : (k : Fault) (later : Verdict) {f : Option ℕ} → f ≡ None → or_else k f later ≡ later
unfolding or_else
or_else_nothing k later e = rw e

-- a pass is a pass of this check and of the later ones
or_else_passed : (k : Fault) (f : Option ℕ) (later : Verdict) → or_else k f later ≡ passed → (f ≡ None) × (later ≡ passed)
unfolding or_else
or_else_passed k (Some p) later e = let z : ◌≡◌ {A = ℕ} 0 1 = cc in absurd (omega arith)
or_else_passed k None later e = (refl, e)

-- a refusal stays where the later checks are others that refuse alike
or_else_refused : (k n : Fault) (p : ℕ) (f : Option ℕ) (v w : Verdict) → (v ≡ refused n p → w ≡ refused n p) → or_else k f v ≡ refused n p → or_else k f w ≡ refused n p
unfolding or_else
or_else_refused k n p (Some q) v w h e = e
or_else_refused k n p None v w h e = h e

-- a refusal is this check's or a later one's
or_else_number : (k : Fault) (f : Option ℕ) (later : Verdict) {n : Fault} {p : ℕ} → or_else k f later ≡ refused n p → (n ≡ k) ⊎ (later ≡ refused n p)
unfolding or_else
or_else_number k (Some q) later e = inl (sym (same_fault e))
or_else_number k None later e = inr e

module _ (list : List ℕ) where
  -- nothing is found in a prefix: the rest decides
  pub rest_decides : (cs ds : List Check) → Clear cs list → first_refusal (cs ++ ds) list ≡ first_refusal ds list
  unfolding first_refusal
  rest_decides [] ds h = refl
  rest_decides (c ∷ cs) ds h =
      let e = or_else_passed c.fault (c.finds list) (first_refusal cs list) h in
      or_else_nothing c.fault (first_refusal (cs ++ ds) list) e.0 ∙ rest_decides cs ds e.1

  -- 'The first that applies is the refusal'
  pub first_found : (cs : List Check) (c : Check) (ds : List Check) (p : ℕ) → Clear cs list → c.finds list ≡ Some p → first_refusal (cs ++ c ∷ ds) list ≡ refused c.fault p
  unfolding first_refusal
  first_found cs c ds p h e = rest_decides cs (c ∷ ds) h ∙ or_else_at c.fault (first_refusal ds list) e

  -- a refusal of a prefix is the refusal
  pub refused_before : (cs ds : List Check) (n : Fault) (p : ℕ) → first_refusal cs list ≡ refused n p → first_refusal (cs ++ ds) list ≡ refused n p
  unfolding first_refusal
  refused_before [] ds n p h = let z : ◌≡◌ {A = ℕ} 0 1 = cc in absurd (omega arith)
  refused_before (c ∷ cs) ds n p h =
      or_else_refused c.fault n p (c.finds list) (first_refusal cs list) (first_refusal (cs ++ ds) list) (refused_before cs ds n p) h

  -- a refusal has the number of one of the checks
  pub refused_number : (cs : List Check) {n : Fault} {p : ℕ} → first_refusal cs list ≡ refused n p → Memᴰ (number_of n) (map (λ (c : Check). number_of c.fault) cs)
  unfolding first_refusal
  refused_number [] h = let z : ◌≡◌ {A = ℕ} 0 1 = cc in absurd (omega arith)
  refused_number (c ∷ cs) {n} {p} h = go (λ e. refused_number cs e) (or_else_number c.fault (c.finds list) (first_refusal cs list) h)
    where
      go : (first_refusal cs list ≡ refused n p → Memᴰ (number_of n) (map (λ (d : Check). number_of d.fault) cs)) → (n ≡ c.fault) ⊎ (first_refusal cs list ≡ refused n p)
          → Memᴰ (number_of n) (map (λ (d : Check). number_of d.fault) (c ∷ cs))
      go later (inl e) = Memᴰ.head (ap number_of e)
      go later (inr e) = Memᴰ.tail (later e)

  pub clear_each : (cs : List Check) {c : Check} → Clear cs list → Memᴰ c cs → c.finds list ≡ None
  unfolding first_refusal
  clear_each [] {c = c} h m = elim m [ ]
  clear_each (d ∷ cs) h (Memᴰ.head e) = rw e (or_else_passed d.fault (d.finds list) (first_refusal cs list) h).0
  clear_each (d ∷ cs) h (Memᴰ.tail m) = clear_each cs (or_else_passed d.fault (d.finds list) (first_refusal cs list) h).1 m

  pub each_clear : (cs : List Check) → ((c : Check) → Memᴰ c cs → c.finds list ≡ None) → Clear cs list
  unfolding first_refusal
  each_clear [] h = refl
  each_clear (c ∷ cs) h = or_else_nothing c.fault (first_refusal cs list) (h c (Memᴰ.head refl)) ∙ each_clear cs (λ d m. h d (Memᴰ.tail m))

  -- a longer list is clear exactly if its prefix and the rest are
  pub clear_append : (cs ds : List Check) → Clear cs list → Clear ds list → Clear (cs ++ ds) list
  clear_append cs ds h k = rest_decides cs ds h ∙ k

  pub clear_prefix : (cs ds : List Check) → Clear (cs ++ ds) list → Clear cs list
  unfolding first_refusal
  clear_prefix [] ds h = refl
  clear_prefix (c ∷ cs) ds h =
      let e = or_else_passed c.fault (c.finds list) (first_refusal (cs ++ ds) list) h in
      or_else_nothing c.fault (first_refusal cs list) e.0 ∙ clear_prefix cs ds e.1

  pub clear_rest : (cs ds : List Check) → Clear (cs ++ ds) list → Clear ds list
  clear_rest cs ds h = sym (rest_decides cs ds (clear_prefix cs ds h)) ∙ h

  -- one check more that finds nothing
  pub clear_more : (cs : List Check) (c : Check) → Clear cs list → c.finds list ≡ None → Clear (cs ++ c ∷ []) list
  unfolding first_refusal
  clear_more cs c h e = clear_append cs (c ∷ []) h (or_else_nothing c.fault passed e)

  -- a check c taken out from between others
  module _ (cs : List Check) (c : Check) (ds : List Check) where
    -- where one before it refuses, or it finds nothing, nothing changes
    refused_first : (n : Fault) (p : ℕ) → first_refusal cs list ≡ refused n p → first_refusal (cs ++ ds) list ≡ first_refusal (cs ++ c ∷ ds) list
    refused_first n p e = refused_before cs ds n p e ∙ sym (refused_before cs (c ∷ ds) n p e)

    pub found_nothing : c.finds list ≡ None → first_refusal (cs ++ ds) list ≡ first_refusal (cs ++ c ∷ ds) list
    unfolding first_refusal
    found_nothing e = go (first_refusal cs list) refl
      where
        go : (v : Verdict) → first_refusal cs list ≡ v → first_refusal (cs ++ ds) list ≡ first_refusal (cs ++ c ∷ ds) list
        go (Err r) h = refused_first r.fault r.place h
        go (Ok u) h = rest_decides cs ds h ∙ sym (rest_decides cs (c ∷ ds) h ∙ or_else_nothing c.fault (first_refusal ds list) e)

    -- so it gave the refusal, or nothing changes
    pub taken_out :
        ((p : ℕ) × (first_refusal (cs ++ c ∷ ds) list ≡ refused c.fault p)) ⊎ (first_refusal (cs ++ ds) list ≡ first_refusal (cs ++ c ∷ ds) list)
    taken_out = go (first_refusal cs list) refl (c.finds list) refl
      where
        go : (v : Verdict) → first_refusal cs list ≡ v → (f : Option ℕ) → c.finds list ≡ f
            → ((p : ℕ) × (first_refusal (cs ++ c ∷ ds) list ≡ refused c.fault p)) ⊎ (first_refusal (cs ++ ds) list ≡ first_refusal (cs ++ c ∷ ds) list)
        go (Err r) e f g = inr (refused_first r.fault r.place e)
        go (Ok u) e (Some p) g = inl (p, first_found cs c ds p e g)
        go (Ok u) e None g = inr (found_nothing g)

  -- a check c in the place of another of its number
  module _ (c d : Check) (same : c.fault ≡ d.fault) (ds : List Check) where
    -- where they find the same, nothing changes
    pub found_same : c.finds list ≡ d.finds list → (cs : List Check) → first_refusal (cs ++ c ∷ ds) list ≡ first_refusal (cs ++ d ∷ ds) list
    unfolding first_refusal
    found_same e [] = ap₂ (λ (k : Fault) (f : Option ℕ). or_else k f (first_refusal ds list)) same e
    found_same e (b ∷ cs) = ap (or_else b.fault (b.finds list)) (found_same e cs)

    -- where c finds a place, it gives the refusal, or nothing changes, since one before it refuses
    pub refused_or_same :
        (p : ℕ) → c.finds list ≡ Some p → (cs : List Check)
        → (first_refusal (cs ++ c ∷ ds) list ≡ refused c.fault p) ⊎ (first_refusal (cs ++ c ∷ ds) list ≡ first_refusal (cs ++ d ∷ ds) list)
    refused_or_same p e cs = go (first_refusal cs list) refl
      where
        go : (v : Verdict) → first_refusal cs list ≡ v
            → (first_refusal (cs ++ c ∷ ds) list ≡ refused c.fault p) ⊎ (first_refusal (cs ++ c ∷ ds) list ≡ first_refusal (cs ++ d ∷ ds) list)
        go (Err r) h = inr (refused_before cs (c ∷ ds) r.fault r.place h ∙ sym (refused_before cs (d ∷ ds) r.fault r.place h))
        go (Ok u) h = inl (first_found cs c ds p h e)

  pub no_check : Clear [] list
  no_check = each_clear [] (λ c m. absurd (Memᴰ.not-nil m))

pub at_when_nothing : (b : Bool) (place : ℕ) → at_when b place ≡ None → b ≡ false
unfolding at_when
at_when_nothing true place e = let z : ◌≡◌ {A = ℕ} 0 1 = cc in absurd (omega arith)
at_when_nothing false place e = refl

-- checks made on another list are that list's
pub made_on_lem : (other : List ℕ → List ℕ) (checks : List Check) (list : List ℕ) → first_refusal (made_on other checks) list ≡ first_refusal checks (other list)
unfolding made_on first_refusal
made_on_lem other [] list = refl
made_on_lem other (c ∷ cs) list = ap (or_else c.fault (c.finds (other list))) (made_on_lem other cs list)

-- What `?` behind `Fault::refuse` knows: a check that finds a place behind others that find nothing is the refusal, and else it is clear too.
module _ {list : List ℕ} {found : Option ℕ} {r : Verdict} (cs : List Check) (c : Check) (before : Clear cs list) (finds : found ≡ c.finds list)
    (is : r ≡ or_else c.fault found passed) where
  found_next : (f : Option ℕ) → found ≡ f → (e : Refusal) → r ≡ Err e → (ds : List Check) → first_refusal (cs ++ c ∷ ds) list ≡ Err e
  unfolding or_else
  found_next (Some p) q e h ds = first_found list cs c ds p before (sym finds ∙ q) ∙ (sym (is ∙ ap (λ (g : Option ℕ). or_else c.fault g passed) q) ∙ h)
  found_next None q e h ds = let z : ◌≡◌ {A = ℕ} 0 1 = let k : passed ≡ Err e = sym (is ∙ ap (λ (g : Option ℕ). or_else c.fault g passed) q) ∙ h in cc in absurd (omega arith)

  pub refused_next : (ds : List Check) {e : Refusal} → r ≡ Err e → Err e ≡ first_refusal (cs ++ c ∷ ds) list
  refused_next ds {e} h = sym (found_next found refl e h ds)

  pub clear_next : {u : ⊤} → r ≡ Ok u → Clear (cs ++ c ∷ []) list
  clear_next {u} h = clear_more list cs c before (sym finds ∙ (or_else_passed c.fault found passed (sym is ∙ h)).0)

  pub decided_next : r ≡ first_refusal (cs ++ c ∷ []) list
  unfolding first_refusal
  decided_next = is ∙ ap (λ (g : Option ℕ). or_else c.fault g passed) finds ∙ sym (rest_decides list cs (c ∷ []) before)
