-- The fields passed are absent or in range.
use mathlib.Core.Path.{sym, ◌∙◌}
use native.Mathlib.Omega.{arith}
use Rattle.sheet.specs.Questions.{field_good, fields_refusal}
use Rattle.sheet.proofs.QuestionLaws.{each_none, each_more, answer_no, answer_yes}
use Rattle.reader.proofs.record.Record.check_fields.Goals as goal

pub loop-b-init : goal.loop-b-init
loop-b-init c = each_none _

pub loop-b-preserved : goal.loop-b-preserved
loop-b-preserved c =
    let r = c.args.self.now in
    each_more c.loop-b.b (field_good r.kind c.args.counts.clocks r.sheet.now r.at) c.loop-b.invariant (sym c.field_good.ensures ∙ c.if-not-field_good.false)

pub returns-then-not-field_good : goal.returns-then-not-field_good
unfolding fields_refusal
returns-then-not-field_good c =
    let r = c.args.self.now in
    answer_no 8 16 (field_good r.kind c.args.counts.clocks r.sheet.now r.at) c.loop-b.b (omega arith) (sym c.field_good.ensures ∙ c.if-not-field_good.true)

pub returns-after-loop-b : goal.returns-after-loop-b
unfolding fields_refusal
returns-after-loop-b c =
    let r = c.args.self.now in
    answer_yes 8 16 (field_good r.kind c.args.counts.clocks r.sheet.now r.at) c.loop-b.b (omega arith) (omega arith) c.loop-b.invariant
