-- Every record before the one in hand has passed.
use mathlib.Core.Path.{refl, sym, ap, ◌∙◌}
use Prim.Native.Nat.{ℕ, ◌+◌}
use native.Mathlib.Omega.{arith}
use Rattle.refusals.proofs.Laws.{never_0}
use Rattle.sheet.specs.Records.{record_at, record_length}
use Rattle.sheet.specs.Questions.{record_refusal}
use Rattle.sheet.proofs.RecordLaws.{at_le, at_more}
use Rattle.sheet.proofs.QuestionLaws.{first_none, first_more, first_is}
use Rattle.reader.proofs.questions.check_each.Goals as goal

pub loop-i-init : goal.loop-i-init
unfolding record_at
loop-i-init c = (refl, first_none _)

pub map_at-map-requires : goal.map_at-map-requires
map_at-map-requires c = let a = c.args in omega (arith, at_le a.kind a.sheet.now a.from c.loop-i.i)

pub invariant_of-record : goal.invariant_of-record
invariant_of-record c = let a = c.args in record { near = omega (arith, at_le a.kind a.sheet.now a.from c.loop-i.i); mapped = c.map_at-map.ensures }

pub loop-i-preserved : goal.loop-i-preserved
loop-i-preserved c =
    let a = c.args in
    let l = c.loop-i in
    let f : ℕ → ℕ = λ p. record_refusal a.kind a.counts.clocks a.counts.locations a.sheet.now p in (
      c.end-at.ensures ∙ ap (λ (p : ℕ). p + record_length a.kind a.sheet.now p) l.invariant.0 ∙ sym (at_more a.kind a.sheet.now a.from l.i),
      first_more l.i (λ i. f (record_at a.kind a.sheet.now a.from i)) l.invariant.1 (ap f (sym l.invariant.0) ∙ sym c.in_default.ensures),
    )

pub returns-in-Err-clause-refused : goal.returns-in-Err-clause-refused
returns-in-Err-clause-refused c =
    let a = c.args in
    let l = c.loop-i in
    let f : ℕ → ℕ = λ p. record_refusal a.kind a.counts.clocks a.counts.locations a.sheet.now p in
    let p = c.in-Err.ensures ∙ ap f l.invariant.0 in
    p ∙ sym (first_is a.count (λ i. f (record_at a.kind a.sheet.now a.from i)) l.i (omega arith) l.invariant.1 (λ z. never_0 _ (p ∙ z)))
