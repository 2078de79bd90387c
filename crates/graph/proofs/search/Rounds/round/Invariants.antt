-- The loop's invariant is `Turn`.
use lib.ListN.{length}
use Rattle.walks.specs.SearchNumbers.{raised_all, start}
use Rattle.walks.specs.SearchTerms.{raised_weight}
use Rattle.graph.proofs.Turns.{TurnAt}
use Rattle.graph.proofs.search.Rounds.round.Given as goal

abbrev pub invariant-loop-e : goal.invariant-loop-e
invariant-loop-e l = TurnAt l.arcs.from.now l.arcs.to.now (raised_weight l.k.a l.k.b l.k.c l.arcs.cost.now l.arcs.reward.now) (length l.arcs.from.now) (raised_all start l.self.potential) l.self.parent l.self.stamp l.b l.e 2048 l.fell
