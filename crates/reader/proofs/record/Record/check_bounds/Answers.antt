-- The bits passed are set.
use mathlib.Core.Path.{sym, ap, ◌∙◌}
use Prim.Native.Nat.{◌+◌}
use native.Mathlib.Omega.{arith}
use Rattle.sheet.specs.Maps.{stands}
use Rattle.sheet.specs.Fields.{bound_bit}
use Rattle.sheet.specs.Records.{map_of}
use Rattle.sheet.specs.Questions.{bounds_refusal}
use Rattle.sheet.specs.declared.fields.Kind.TheVariants.{LocationRecord}
use Rattle.sheet.proofs.QuestionLaws.{each_none, each_more, answer_no, answer_yes}
use Rattle.reader.proofs.record.Record.check_bounds.Goals as goal

pub loop-j-init : goal.loop-j-init
loop-j-init c = each_none _

pub loop-j-preserved : goal.loop-j-preserved
loop-j-preserved c =
    let r = c.args.self.now in
    each_more c.loop-j.j (λ i. stands (map_of LocationRecord r.sheet.now r.at) (bound_bit + i)) c.loop-j.invariant
    (ap (λ k. stands (map_of k r.sheet.now r.at) (bound_bit + c.loop-j.j)) (sym c.requires) ∙ sym c.has.ensures ∙ c.if-not-has.false)

pub returns-then-not-has : goal.returns-then-not-has
unfolding bounds_refusal
returns-then-not-has c =
    let r = c.args.self.now in
    answer_no 7 c.args.counts.clocks (λ i. stands (map_of LocationRecord r.sheet.now r.at) (bound_bit + i)) c.loop-j.j (omega arith)
    (ap (λ k. stands (map_of k r.sheet.now r.at) (bound_bit + c.loop-j.j)) (sym c.requires) ∙ sym c.has.ensures ∙ c.if-not-has.true)

pub returns-after-loop-j : goal.returns-after-loop-j
unfolding bounds_refusal
returns-after-loop-j c =
    let r = c.args.self.now in
    answer_yes 7 c.args.counts.clocks (λ i. stands (map_of LocationRecord r.sheet.now r.at) (bound_bit + i)) c.loop-j.j (omega arith) (omega arith) c.loop-j.invariant
