-- The sum of the arcs passed.
use mathlib.Core.Path.{◌≡◌}
use Prim.Native.Nat.{◌*◌, ◌≤◌}
use lib.ListN.{take}
use Rattle.walks.specs.Walk.{at}
use Rattle.walks.specs.Weight.{total}
use Rattle.ratio.proofs.fraction.reward_sum.Given as goal

abbrev pub invariant-loop-e : goal.invariant-loop-e
invariant-loop-e l = (l.x ≡ total (at l.reward) (take l.e-index l.cycle)) × (l.x ≤ 65536 * l.e-index)
