-- The sheet's refusal, question 15, question 16.
use mathlib.Core.Path.{◌≡◌, sym, ap, ◌∙◌}
use Prim.Native.Nat.{ℕ, ◌≤◌}
use Rattle.std.specs.declared.option.Option.{Option}
use Rattle.refusals.specs.Numbers.{number_in, refusal_at}
use Rattle.refusals.specs.declared.Refusal.{Refusal}
use Rattle.refusals.proofs.Laws.{never_0, refusal_back}
use Rattle.region.specs.Answers.{refused_step}
use Rattle.step.proofs.SheetLaws.{step_refused, step_nowhere, step_answered}
use Rattle.step.proofs.step_in.Goals as goal

-- what was found of a number up to 18 has that number
numbered : (n : ℕ) {o r : Option Refusal} → n ≤ 18 → o ≡ refusal_at n → o ≡ r → n ≡ number_in r
numbered n h e f = sym (refusal_back n h) ∙ ap number_in (sym e ∙ f)

pub returns-in-Some : goal.returns-in-Some
returns-in-Some c =
    let args = c.args in
    let is = numbered args.sheet.refusal c.requires c.numbered.ensures c.in-Some.is in
    ap refused_step (sym is) ∙ step_refused args.sheet args.number args.code (λ z. never_0 _ (sym is ∙ z))

pub returns-then-not-is_number_of : goal.returns-then-not-is_number_of
returns-then-not-is_number_of c =
    let args = c.args in
    let is_number_of = c.is_number_of in
    let if2 = c.if-not-is_number_of in
    step_nowhere args.sheet args.number args.code (numbered args.sheet.refusal c.requires c.numbered.ensures c.in_default.is)
    (sym is_number_of.ensures ∙ if2.true)

pub returns : goal.returns
returns c =
    let args = c.args in
    let is_number_of = c.is_number_of in
    let if2 = c.if-not-is_number_of in
    c.step_from.ensures ∙ step_answered args.sheet args.number args.code (numbered args.sheet.refusal c.requires c.numbered.ensures c.in_default.is)
    (sym is_number_of.ensures ∙ if2.false)
