-- The sums of the arcs passed.
use Rattle.planner.proofs.SumLaws.{SumsTo}
use Rattle.planner.proofs.sums.sums_of.Given as goal

abbrev pub invariant-loop-e : goal.invariant-loop-e
invariant-loop-e l = SumsTo l.graph.code.now l.graph.arcs.cost.now l.graph.arcs.reward.now l.cycle l.e-index l.units l.cost l.reward
