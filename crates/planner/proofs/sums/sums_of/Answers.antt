-- The sums of the arcs passed.
use mathlib.Core.Path.{◌≡◌}
use Prim.Native.Nat.{◌≤◌, ◌<◌}
use lib.IntN.{nat_abs}
use Rattle.std.proofs.Common.{rules}
use Rattle.walks.specs.Walk.{at, atℤ}
use Rattle.planner.proofs.SumLaws.{summed_more}
use Rattle.planner.proofs.sums.sums_of.Goals as goal

pub loop-e-preserved : goal.loop-e-preserved
loop-e-preserved c =
    let g = c.args.graph in
    let e = at c.args.cycle.now c.loop-e.e-index in
    let cost : c.from-cost.result ≡ atℤ g.arcs.cost.now e = search rules in
    let cost_small : nat_abs c.from-cost.result ≤ 32768 = search rules in
    let reward : c.from-reward.result ≡ at g.arcs.reward.now e = search rules in
    let reward_small : c.from-reward.result < 65536 = search rules in
    summed_more c.requires c.loop-e.invariant c.loop-e-test.true c.units_of-units.ensures.value c.units_of-units.ensures.small cost cost_small reward reward_small
