-- The plan, then question 18, and the pairs of the lasso.
use mathlib.Core.Path.{◌≡◌, refl, sym, ap, ap₂, ◌∙◌, subst}
use Prim.Native.Nat.{ℕ, ◌+◌, ◌≤◌}
use native.Mathlib.Omega.{arith}
use lib.IntN.{pos}
use lib.ListN.{length, take, drop, replicate}
use lib.Seq.{take-take, length-take-le}
use Rattle.sheet.specs.declared.Sheet.{Sheet}
use Rattle.nodes.specs.Meaning.{meaning}
use Rattle.nodes.specs.Decoded.{decoded_meaning}
use Rattle.explore.specs.Explorable.{CountsInRange}
use Rattle.schedules.specs.Closed.{is_closed}
use Rattle.contract.specs.Answers.{PlanAnswers}
use Rattle.contract.specs.Plan.{Buffers, LongEnough}
use Rattle.planner.specs.ContractTerms.{lent_buffers, answer_of}
use Rattle.work.proofs.ClosedSheet.{counts_in_range, read_closed}
use Rattle.work.proofs.PlanRuns.{lasso_short, lasso_there}
use Rattle.work.proofs.LassoSteps.{written_as}
use Rattle.work.proofs.Exits.{answers_all, strict_somewhere, work_given}
use Rattle.work.proofs.plan_pairs.Goals as goal

-- the plan's buffers as they are lent, and as it leaves them
abbrev lent : Buffers
lent = lent_buffers (replicate 2048 0) (replicate 2048 (pos 0)) (replicate 2048 0)

long : LongEnough lent
long = record { nodes = omega arith; potentials = omega arith; steps = omega arith }

pub is_closed-requires : goal.is_closed-requires
is_closed-requires c =
    subst (λ (x : Sheet). CountsInRange x.edition x.locations x.clocks x.edges) (sym c.requires.read_so) (counts_in_range c.args.sheet.now c.requires.passed)

pub returns-then-not-is_closed : goal.returns-then-not-is_closed
returns-then-not-is_closed c =
    let accepts : (answer_of c.plan-answer.result).refusal ≡ 0 = grind arith in
    let told : is_closed (meaning c.args.sheet.now) ≡ c.is_closed.result =
    sym (read_closed c.args.sheet.now c.requires.passed) ∙ ap (λ (x : Sheet). is_closed (decoded_meaning x)) (sym c.requires.read_so) ∙ sym c.is_closed.ensures in
    λ o. strict_somewhere o.is (o.room, c.requires.passed) refl (subst (PlanAnswers c.args.sheet.now) accepts (answers_all long c.plan-answer.ensures.judged)) (told ∙ c.if-not-is_closed.true)

-- the lasso's place in the plan's steps
pub slice_bounds-codes-end : goal.slice_bounds-codes-end
slice_bounds-codes-end c = omega (arith, lasso_there {b = lent} {b' = lent_buffers c.plan-answer.new.nodes c.plan-answer.new.potentials c.plan-answer.new.steps} c.in_ok-plan.ensures refl, c.from-s.ensures, c.from-m.ensures)

pub slice_bounds-split_at-end : goal.slice_bounds-split_at-end
slice_bounds-split_at-end c = sym (length-take-le _ c.plan-answer.new.steps (omega (arith, lasso_there {b = lent} {b' = lent_buffers c.plan-answer.new.nodes c.plan-answer.new.potentials c.plan-answer.new.steps} c.in_ok-plan.ensures refl, c.from-s.ensures, c.from-m.ensures)))

pub split_at-requires : goal.split_at-requires
split_at-requires c =
    let short : c.from-s.result + c.from-m.result ≤ length c.plan-answer.new.steps = omega (arith, lasso_there {b = lent} {b' = lent_buffers c.plan-answer.new.nodes c.plan-answer.new.potentials c.plan-answer.new.steps} c.in_ok-plan.ensures refl, c.from-s.ensures, c.from-m.ensures) in
    omega (arith, length-take-le _ c.plan-answer.new.steps short)

pub write_lasso-requires-clause-few : goal.write_lasso-requires-clause-few
write_lasso-requires-clause-few c =
    let parts = c.split_at.ensures in
    let short : c.from-s.result + c.from-m.result ≤ length c.plan-answer.new.steps = omega (arith, lasso_there {b = lent} {b' = lent_buffers c.plan-answer.new.nodes c.plan-answer.new.potentials c.plan-answer.new.steps} c.in_ok-plan.ensures refl, c.from-s.ensures, c.from-m.ensures) in
    omega (
      arith,
      lasso_short {b = lent} {b' = lent_buffers c.plan-answer.new.nodes c.plan-answer.new.potentials c.plan-answer.new.steps} c.in_ok-plan.ensures refl,
      parts.front_len,
      parts.back_len,
      length-take-le _ c.plan-answer.new.steps short,
      c.from-s.ensures,
      c.from-m.ensures,
    )

pub returns : goal.returns
returns c =
    let told : is_closed (meaning c.args.sheet.now) ≡ c.is_closed.result =
    sym (read_closed c.args.sheet.now c.requires.passed) ∙ ap (λ (x : Sheet). is_closed (decoded_meaning x)) (sym c.requires.read_so) ∙ sym c.is_closed.ensures in
    λ o. work_given o.is (o.room, c.requires.passed) {b = lent} {b' = lent_buffers c.plan-answer.new.nodes c.plan-answer.new.potentials c.plan-answer.new.steps} long c.in_ok-plan.ensures refl (told ∙ c.if-not-is_closed.false)
    (written_as (c.split_at.ensures.front ∙ take-take _ _ c.plan-answer.new.steps (omega arith) ∙ ap (λ (s : ℕ). take s c.plan-answer.new.steps) c.from-s.ensures)
    (c.split_at.ensures.back ∙ ap₂ (λ (s m : ℕ). drop s (take (s + m) c.plan-answer.new.steps)) c.from-s.ensures c.from-m.ensures) c.write_lasso.ensures)
