-- `graph::climb::climb` meets its contract. The loop's invariant is `Marks` and, whatever the rest of the graph is, `Climbing`.
use Rattle.walks.proofs.Climbs.{Marks}
use Rattle.walks.proofs.ClimbTurns.{Climbs}
use Rattle.graph.proofs.climb.climb.Given as goal

abbrev pub invariant-loop-mark : goal.invariant-loop-mark
invariant-loop-mark l = Marks l.mark l.climbed 2048 l.x l.top × Climbs l.from l.parent l.mark l.climbed 2048 l.v l.x l.top

abbrev pub decreases-loop-mark : goal.decreases-loop-mark
decreases-loop-mark l = l.top
