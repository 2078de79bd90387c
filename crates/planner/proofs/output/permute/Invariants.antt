-- The entries passed are picked.
use lib.IntN.{pos}
use Rattle.planner.specs.PrivatePromises.{Picked}
use Rattle.planner.proofs.output.permute.Given as goal

abbrev pub invariant-loop-i : goal.invariant-loop-i
invariant-loop-i l = Picked (pos 0) l.potential l.order l.i l.initial.potentials l.potentials
