-- The entries passed are picked.
use Rattle.planner.specs.PrivatePromises.{Picked}
use Rattle.planner.proofs.output.write_codes.Given as goal

abbrev pub invariant-loop-i : goal.invariant-loop-i
invariant-loop-i l = Picked 0 l.code l.arcs l.i l.initial.steps l.steps
