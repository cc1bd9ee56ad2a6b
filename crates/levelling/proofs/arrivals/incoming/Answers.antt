-- `levelling::arrivals::incoming` meets its contract. Assumes nothing.
use Rattle.std.proofs.Common.{ℕ, ◌≡◌, Option, List, [], ◌∷◌, get_or, length, ◌<◌, arith, rules, Bool, true, false, map, refl, sym, ap, ◌∙◌}
use mathlib.Core.Path.{ap₂, subst}
use Rattle.std.proofs.lemmas.List.{get_or_default}
use borrow.Author.Tests.{tests}
use Rattle.std.specs.List.{reduce}
use Rattle.std.specs.Option.{unwrap_or}
use Rattle.std.proofs.iter.Serving.{serving}
use Rattle.std.proofs.lemmas.Iterator.{YieldsList-from_slice, YieldsList-from_map}
use Rattle.std.proofs.lemmas.Iterator.Consumers.{YieldsList-at, YieldsList-from_filter}
use Rattle.words.specs.declared.Part.{Part}
use Rattle.lists.specs.Select.{filter, cons_if}
use Rattle.lists.proofs.StdWords.{filter_is_filter, reduced}
use Rattle.words.specs.Limits.{most_parts}
use Rattle.reachability.specs.Tables.{numbers, TableFits}
use Rattle.reachability.proofs.Testing.{neighbour_below}
use Rattle.levels.specs.declared.Levels.{Levels}
use Rattle.levels.specs.Readings.{together}
use Rattle.levelling.specs.Pass.{levels_in, incoming}
use Rattle.levelling.proofs.arrivals.incoming.Goals as goal

-- the flagged parts by their numbers
numbered : {A : Type 0} (f : ℕ → A) (p : ℕ → Bool) (l : List Part) → map f (filter p (numbers l)) ≡ map (λ (q : Part). f q.0) (filter (λ (q : Part). p q.0) l)
unfolding numbers filter
numbered f p [] = refl
numbered {A} f p (x ∷ l) = go (p x.0) (numbered f p l)
  where
    go : (b : Bool) → map f (filter p (numbers l)) ≡ map (λ (q : Part). f q.0) (filter (λ (q : Part). p q.0) l)
        → map f (cons_if b x.0 (filter p (numbers l))) ≡ map (λ (q : Part). f q.0) (cons_if b x (filter (λ (q : Part). p q.0) l))
    go true e = ap (λ (r : List A). f x.0 ∷ r) e
    go false e = e

pub returns : goal.returns
unfolding incoming
returns c =
    c.unwrap_or.ensures
    ∙ ap₂ (λ (o : Option Levels) (d : Levels). unwrap_or o d)
    (reduced together _ (λ x y r f k. search (rules, tests)) c.map.result _ c.reduce.ensures.ran
    (YieldsList-from_map _ (λ (q : Part). levels_in c.args.row.now q.0)
    (YieldsList-at c.map.ensures.source
    (YieldsList-from_filter _ (λ (q : Part). get_or c.args.flags.now q.0 false) (YieldsList-from_slice c.neighbours.result.now cc) c.filter.ensures.closure (λ x b q k. search (rules, tests))))
    c.map.ensures.closure (λ x r q k. search (rules, tests)))
    ∙ ap (λ (l : List Part). reduce together (map (λ (q : Part). levels_in c.args.row.now q.0) l)) (sym (filter_is_filter _ _))
    ∙ ap (reduce together) (sym (numbered (levels_in c.args.row.now) (λ q. get_or c.args.flags.now q false) c.neighbours.result.now))
    ∙ ap (λ (l : List ℕ). reduce together (map (levels_in c.args.row.now) (filter (λ q. get_or c.args.flags.now q false) l))) c.neighbours.ensures)
    c.zero.ensures

pub reduce-requires-clause-can : goal.reduce-requires-clause-can
reduce-requires-clause-can c =
    let formed : TableFits c.args.adjacency.now.table = search rules in
    let inside : (j : ℕ) (d : Part) → j < length c.neighbours.result.now → (get_or c.neighbours.result.now j d).0 < most_parts =
    λ j d h. subst (λ (q : Part). q.0 < most_parts) (get_or_default c.neighbours.result.now j (record { 0 = 0 }) d h) (neighbour_below formed _ c.neighbours.result.now c.neighbours.ensures j h) in
    grind (arith, serving, inside)
