-- The bounds passed are above 0.
use mathlib.Core.Path.{◌≡◌}
use mathlib.Core.Bool.{true}
use lib.Dec.{ltb}
use Rattle.sheet.specs.Records.{bound_at}
use Rattle.sheet.specs.Questions.{each}
use Rattle.reader.proofs.questions.check_start.Given as goal

abbrev pub invariant-loop-j : goal.invariant-loop-j
invariant-loop-j l = each l.j (λ i. ltb 0 (bound_at l.sheet 4 i)) ≡ true
