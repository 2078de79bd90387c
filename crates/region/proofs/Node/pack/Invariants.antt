-- The corner and the clocks passed are packed.
use Rattle.nodes.specs.Numbers.{layout_at}
use Rattle.region.proofs.PackLaws.{Packed}
use Rattle.region.proofs.Node.pack.Given as goal

abbrev pub invariant-loop-j : goal.invariant-loop-j
invariant-loop-j g l = Packed (layout_at g.row.EDITION) l.self l.j l.x
