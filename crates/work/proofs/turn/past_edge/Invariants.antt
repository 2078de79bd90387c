-- Up to place i there is no edge.
use Rattle.work.proofs.EdgeSearch.{Before}
use Rattle.work.proofs.turn.past_edge.Given as goal

abbrev pub invariant-loop-i : goal.invariant-loop-i
invariant-loop-i l = Before l.codes l.i
