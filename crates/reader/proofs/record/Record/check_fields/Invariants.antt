-- The fields passed are absent or in range.
use mathlib.Core.Path.{◌≡◌}
use mathlib.Core.Bool.{true}
use Rattle.sheet.specs.Questions.{each, field_good}
use Rattle.reader.proofs.record.Record.check_fields.Given as goal

abbrev pub invariant-loop-b : goal.invariant-loop-b
invariant-loop-b l = let r = l.self in each l.b (field_good r.kind l.counts.clocks r.sheet.now r.at) ≡ true
