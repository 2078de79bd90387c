-- Every record before the one in hand has passed.
use mathlib.Core.Path.{◌≡◌}
use Rattle.sheet.specs.Records.{record_at}
use Rattle.sheet.specs.Questions.{first_of, record_refusal}
use Rattle.reader.proofs.questions.check_each.Given as goal

abbrev pub invariant-loop-i : goal.invariant-loop-i
invariant-loop-i l = (l.at ≡ record_at l.kind l.sheet l.from l.i)
    × (first_of l.i (λ i. record_refusal l.kind l.counts.clocks l.counts.locations l.sheet (record_at l.kind l.sheet l.from i)) ≡ 0)
