-- The sum of the arcs passed.
use native.Mathlib.Omega.{arith}
use Rattle.walks.specs.Walk.{at}
use Rattle.ratio.proofs.SumLaws.{total_more}
use Rattle.ratio.proofs.fraction.reward_sum.Goals as goal

pub loop-e-preserved : goal.loop-e-preserved
loop-e-preserved c =
    let l = c.loop-e in (
      omega (arith, c.from-x.ensures, l.invariant.0, total_more c.args.cycle.now l.e-index c.loop-e-test.true (at c.args.reward.now)),
      omega (arith, c.from-x.ensures, l.invariant.1, c.type_inv.reward (at c.args.cycle.now l.e-index)),
    )
