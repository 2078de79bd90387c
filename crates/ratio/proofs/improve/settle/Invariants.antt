-- A simple cycle that earns is in hand, and its height falls.
use mathlib.Core.Path.{◌≡◌}
use Rattle.ratio.specs.Turns.{InHand, Earns}
use lib.ListN.{length, take}
use Rattle.walks.specs.Walk.{at, atℤ}
use Rattle.walks.specs.Weight.{sum, total}
use Rattle.ratio.proofs.Heights.{height}
use Rattle.ratio.proofs.improve.settle.Given as goal

abbrev pub invariant-loop-j : goal.invariant-loop-j
invariant-loop-j l = (InHand l.arcs.from.now l.arcs.to.now l.nodes l.hand l.k × Earns l.arcs.reward.now l.hand l.k) × ((length l.hand ≡ length l.initial.hand) × (l.potential ≡ l.initial.potential))

abbrev pub decreases-loop-j : goal.decreases-loop-j
decreases-loop-j l = height (sum (atℤ l.arcs.cost.now) (take l.k l.hand)) (total (at l.arcs.reward.now) (take l.k l.hand))
