-- The sum of the arcs passed.
use mathlib.Core.Path.{◌≡◌}
use Prim.Native.Nat.{◌*◌, ◌≤◌}
use lib.IntN.{nat_abs}
use lib.ListN.{take}
use Rattle.walks.specs.Walk.{atℤ}
use Rattle.walks.specs.Weight.{sum}
use Rattle.ratio.proofs.fraction.cost_sum.Given as goal

abbrev pub invariant-loop-e : goal.invariant-loop-e
invariant-loop-e l = (l.z ≡ sum (atℤ l.cost) (take l.e-index l.cycle)) × (nat_abs l.z ≤ 32768 * l.e-index)
