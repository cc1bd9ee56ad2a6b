-- Every rank of an st-graph has a drawing of figures 2 and 3, which gives each of its cables a port. Assumes nothing.
use Prim.Native.Nat.{ℕ, ◌+◌, ◌<◌, ◌≤◌}
use native.Mathlib.Omega.{arith}
use native.Mathlib.Decide.{dec_lt}
use mathlib.Core.Path.{◌≡◌}
use mathlib.Core.Logic.{◌↔◌}
use lib.ListN.{length}
use Rattle.order.specs.Graph.{StGraph}
use Rattle.order.specs.RankedGraphs.{Ranked}
use Rattle.layout.specs.Ports.{in_ports, out_ports, Depicted}
use Rattle.layout.proofs.Ports.{all_in, all_out}
use Rattle.layout.proofs.Step.{outs, ins, in_at_comes, degree}
use Rattle.layout.proofs.Width.{goes_out, comes_in}

-- The counts of rank k are those of a drawing, of figure 2 at s and of figure 3 elsewhere, and no cable is left over
pub record Complete (k ins outs : ℕ) : Type 0 where
  pub depicted : Depicted ins outs
  pub source : (ins ≡ 0) ↔ (k ≡ 0)
  pub all_in : length (in_ports ins) ≡ ins
  pub all_out : length (out_ports ins outs) ≡ outs

module _ (G : StGraph) (R : Ranked G) where
  none_in : ins G 0 ≡ 0
  none_in = go (dec_lt 0 (ins G 0))
    where
      go : Dec (0 < ins G 0) → ins G 0 ≡ 0
      go (yes l) = let c = in_at_comes G 0 0 l in absurd (omega (arith, R.rises _ c.0, c.1))
      go (no l) = omega arith

  pub complete : (k : ℕ) → 2 ≤ G.parts → k < G.parts → Complete k (ins G k) (outs G k)
  complete k two h = record {
    depicted = record { some = some (dec_lt 0 k); four = degree G R k };
    source = (source (dec_lt 0 k), λ e. rw e none_in);
    all_in = all_in (ins G k) (outs G k) (degree G R k);
    all_out = all_out (ins G k) (outs G k) (degree G R k);
  }
    where
      some : Dec (0 < k) → 0 < ins G k + outs G k
      some (yes l) = omega (arith, comes_in G R k l h)
      some (no l) = omega (arith, goes_out G R k (omega arith))

      source : Dec (0 < k) → ins G k ≡ 0 → k ≡ 0
      source (yes l) e = omega (arith, comes_in G R k l h)
      source (no l) e = omega arith
