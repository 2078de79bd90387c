-- `Running` at a round's start, and the buffers are as they were.
use mathlib.Core.Path.{◌≡◌}
use Prim.Native.Nat.{◌-◌, ◌*◌}
use lib.ListN.{length}
use Rattle.walks.specs.SearchNumbers.{per_round}
use Rattle.walks.specs.SearchTerms.{Running}
use Rattle.graph.proofs.search.search.Given as goal

abbrev pub invariant-loop-v : goal.invariant-loop-v
invariant-loop-v l = Running l.arcs.from.now l.arcs.to.now l.arcs.cost.now l.arcs.reward.now l.k.a l.k.b l.k.c l.rounds.potential l.rounds.parent l.rounds.stamp l.b 0 × (length l.climbed ≡ 2048) × (l.potential ≡ l.initial.potential) × (l.cycle ≡ l.initial.cycle)

abbrev pub decreases-loop-v : goal.decreases-loop-v
decreases-loop-v l = per_round * 2049 - l.b
