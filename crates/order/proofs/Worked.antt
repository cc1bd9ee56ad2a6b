-- Checks 9 and 10 and the order of document 01's examples, of chains and blocks and of stations B and C. Assumes nothing.
use Rattle.std.specs.Prelude.{Some, None}
use Prim.Native.Nat.{ℕ}
use mathlib.Core.Path.{◌≡◌, refl}
use mathlib.Core.List.{List, [], ◌∷◌}
use Rattle.station.specs.Station.{Cable, Station}
use Rattle.order.specs.Reach.{check9, separated, check10}
use Rattle.order.specs.CutParts.{cut_part}
use Rattle.order.specs.Order.{order}
use Rattle.order.proofs.Computing.{order_computing}

abbrev join : ℕ → ℕ → Cable
join a b = record { one = a; other = b }

abbrev with_cables : ℕ → ℕ → ℕ → List Cable → Station
with_cables n s t cs = record { parts = n; source = s; analyser = t; cables = cs }

-- 0 - 1 - 2, between s and t
abbrev chain : ℕ → ℕ → Station
chain s t = with_cables 3 s t (join 0 1 ∷ join 1 2 ∷ [])

-- two rings with part 2 in common, from 0 to 4
abbrev blocks : Station
blocks = with_cables 5 0 4 (join 0 1 ∷ join 0 2 ∷ join 1 2 ∷ join 2 3 ∷ join 2 4 ∷ join 3 4 ∷ [])

-- a ring with part 3 hanging on part 1
abbrev pendant : Station
pendant = with_cables 4 0 2 (join 0 1 ∷ join 1 2 ∷ join 2 0 ∷ join 1 3 ∷ [])

abbrev square : Station
square = with_cables 4 0 2 (join 0 1 ∷ join 1 2 ∷ join 2 3 ∷ join 3 0 ∷ [])

abbrev station_c : Station
station_c = with_cables 4 0 2 (join 0 1 ∷ join 0 3 ∷ join 1 3 ∷ join 1 2 ∷ join 0 2 ∷ [])

record Worked : Type 0 where
  refusal_9 : check9 (with_cables 3 0 2 (join 0 1 ∷ [])) ≡ Some 2
  -- check 10 of document 01 and of request 2026-14
  chain_cut : cut_part (chain 0 2) ≡ Some 1
  chain_9 : check9 (chain 0 2) ≡ None
  chain_10 : check10 (chain 0 2) ≡ None
  chain_order : order (chain 0 2) ≡ 0 ∷ 1 ∷ 2 ∷ []
  chain_back : check10 (chain 2 0) ≡ None
  chain_separated : separated (chain 0 1) 1 ≡ 2 ∷ []
  refusal_10 : check10 (chain 0 1) ≡ Some 1
  refusal_10_source : check10 (chain 1 2) ≡ Some 1
  blocks_cut : cut_part blocks ≡ Some 2
  blocks_10 : check10 blocks ≡ None
  blocks_order : order blocks ≡ 0 ∷ 1 ∷ 2 ∷ 3 ∷ 4 ∷ []
  pendant_10 : check10 pendant ≡ Some 1
  b_9 : check9 square ≡ None
  b_10 : check10 square ≡ None
  b_order : order square ≡ 0 ∷ 1 ∷ 3 ∷ 2 ∷ []
  c_order : order station_c ≡ 0 ∷ 3 ∷ 1 ∷ 2 ∷ []

worked : Worked
unfolding order_computing
worked = record {
  refusal_9 = refl;
  chain_cut = refl;
  chain_9 = refl;
  chain_10 = refl;
  chain_order = refl;
  chain_back = refl;
  chain_separated = refl;
  refusal_10 = refl;
  refusal_10_source = refl;
  blocks_cut = refl;
  blocks_10 = refl;
  blocks_order = refl;
  pendant_10 = refl;
  b_9 = refl;
  b_10 = refl;
  b_order = refl;
  c_order = refl;
}
