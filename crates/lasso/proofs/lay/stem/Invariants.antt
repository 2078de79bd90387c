-- The arcs from x to h stand at the end of the list.
use mathlib.Core.Path.{◌≡◌}
use Prim.Native.Nat.{◌+◌, ◌≤◌, ◌<◌}
use lib.ListN.{length}
use lib.Seq.{slice}
use Rattle.walks.specs.Lasso.{Tree, Stem}
use Rattle.lasso.specs.Answer.{AlongTree}
use Rattle.lasso.proofs.lay.stem.Given as goal

abbrev pub invariant-loop-x : goal.invariant-loop-x
invariant-loop-x l = (l.x < length l.tree) × ((length l.path ≡ length l.initial.path) × ((l.x + length l.initial.path ≤ l.top + l.h) × ((l.top ≤ length l.initial.path)
    × ((g : Tree l.from l.tree (length l.tree)) → Stem l.from g.T g.m l.x (slice l.top (length l.path) l.path) l.h × AlongTree g.T l.tree (slice l.top (length l.path) l.path)))))

abbrev pub decreases-loop-x : goal.decreases-loop-x
decreases-loop-x l = l.x
