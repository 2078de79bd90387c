-- Each number on its stated condition and on no other.
use mathlib.Core.Path.{◌≡◌, refl, sym, ap, ◌∙◌, subst}
use mathlib.Core.Logic.{◌≢◌}
use mathlib.Core.Bool.{true, false}
use mathlib.Core.List.{List}
use Prim.Native.Nat.{ℕ, ◌<◌}
use native.Mathlib.Omega.{arith}
use lib.IntN.{pos}
use lib.ListN.{replicate}
use Rattle.automaton.specs.Tests.{occurs}
use Rattle.automaton.proofs.Tests.{clash}
use Rattle.automaton.proofs.Lists.{occurs_tail}
use Rattle.nodes.specs.Meaning.{meaning}
use Rattle.schedules.specs.Closed.{is_closed}
use Rattle.contract.specs.Answers.{PlanAnswers}
use Rattle.contract.specs.Conditions.{plan_numbers}
use Rattle.contract.specs.Plan.{Buffers, LongEnough}
use Rattle.contract.proofs.JustWhen as Plan
use Rattle.work.specs.Work.{PairBuffers, RoomForPairs, WorkJudged, no_room, no_plan, strict, all_closed}
use Rattle.work.specs.Conditions.{work_numbers, WorkOnItsCondition}

-- ---- a plan answers one number

some_buffers : Buffers
some_buffers = record { nodes = replicate 2048 0; potentials = replicate 2048 (pos 0); steps = replicate 2048 0 }

long : LongEnough some_buffers
unfolding some_buffers
long = record { nodes = omega arith; potentials = omega arith; steps = omega arith }

one_answer : (bytes : List ℕ) (r t : ℕ) → PlanAnswers bytes r → PlanAnswers bytes t → r ≡ t
one_answer bytes r t h k = Plan.refusal_unique bytes some_buffers some_buffers (record { nodes = refl; potentials = refl; steps = refl }) r t
    (h some_buffers long) (k some_buffers long)

of_a_plan : (bytes : List ℕ) (r : ℕ) → PlanAnswers bytes r → occurs r plan_numbers ≡ true
of_a_plan bytes r h = (Plan.on_its_condition bytes some_buffers r (h some_buffers long)).one_of

not_18 : (bytes : List ℕ) → PlanAnswers bytes 18 → ⊥
not_18 bytes h = clash (of_a_plan bytes 18 h) refl

-- with long buffers it is not 1
not_1 : (bytes : List ℕ) → PlanAnswers bytes 1 → ⊥
not_1 bytes h = (Plan.on_its_condition bytes some_buffers 1 (h some_buffers long)).just_1.0 refl long

-- ---- each number

module _ (bytes : List ℕ) (b : PairBuffers) (r : ℕ) where
  one_of_these : WorkJudged bytes b r → occurs r work_numbers ≡ true
  one_of_these (no_room e h) = ap (λ (k : ℕ). occurs k work_numbers) e
  one_of_these (no_plan h p) = occurs_tail r 18 plan_numbers (of_a_plan bytes r p.judged)
  one_of_these (strict e h p c) = ap (λ (k : ℕ). occurs k work_numbers) e
  one_of_these (all_closed e h p c) = ap (λ (k : ℕ). occurs k work_numbers) e

  short_of : r ≡ 1 → WorkJudged bytes b r → ¬ RoomForPairs b
  short_of q (no_room e h) = h
  short_of q (no_plan h p) = absurd (not_1 bytes (subst (PlanAnswers bytes) q p.judged))
  short_of q (strict e h p c) = absurd (omega arith)
  short_of q (all_closed e h p c) = absurd (omega arith)

  short_told : ¬ RoomForPairs b → WorkJudged bytes b r → r ≡ 1
  short_told n (no_room e h) = e
  short_told n (no_plan h p) = absurd (n h)
  short_told n (strict e h p c) = absurd (n h)
  short_told n (all_closed e h p c) = absurd (n h)

  module _ (k : ℕ) (some : 1 < k) (other : k ≢ 18) where
    planned_of : r ≡ k → WorkJudged bytes b r → RoomForPairs b × PlanAnswers bytes k
    planned_of q (no_room e h) = absurd (omega arith)
    planned_of q (no_plan h p) = (h, subst (PlanAnswers bytes) q p.judged)
    planned_of q (strict e h p c) = absurd (other (sym q ∙ e))
    planned_of q (all_closed e h p c) = absurd (omega arith)

    planned_told : RoomForPairs b × PlanAnswers bytes k → WorkJudged bytes b r → r ≡ k
    planned_told x (no_room e h) = absurd (h x.0)
    planned_told x (no_plan h p) = one_answer bytes r k p.judged x.1
    planned_told x (strict e h p c) = absurd (omega (arith, one_answer bytes 0 k p x.1))
    planned_told x (all_closed e h p c) = absurd (omega (arith, one_answer bytes 0 k p x.1))

  strict_of : r ≡ 18 → WorkJudged bytes b r → RoomForPairs b × PlanAnswers bytes 0 × (is_closed (meaning bytes) ≡ false)
  strict_of q (no_room e h) = absurd (omega arith)
  strict_of q (no_plan h p) = absurd (not_18 bytes (subst (PlanAnswers bytes) q p.judged))
  strict_of q (strict e h p c) = (h, p, c)
  strict_of q (all_closed e h p c) = absurd (omega arith)

  strict_told : RoomForPairs b × PlanAnswers bytes 0 × (is_closed (meaning bytes) ≡ false) → WorkJudged bytes b r → r ≡ 18
  strict_told x (no_room e h) = absurd (h x.0)
  strict_told x (no_plan h p) = absurd (omega (arith, p.some_number, one_answer bytes r 0 p.judged x.1))
  strict_told x (strict e h p c) = e
  strict_told x (all_closed e h p c) = clash c x.2

  closed_of : r ≡ 0 → WorkJudged bytes b r → RoomForPairs b × PlanAnswers bytes 0 × (is_closed (meaning bytes) ≡ true)
  closed_of q (no_room e h) = absurd (omega arith)
  closed_of q (no_plan h p) = absurd (omega (arith, p.some_number))
  closed_of q (strict e h p c) = absurd (omega arith)
  closed_of q (all_closed e h p c) = (h, p, c)

  closed_told : RoomForPairs b × PlanAnswers bytes 0 × (is_closed (meaning bytes) ≡ true) → WorkJudged bytes b r → r ≡ 0
  closed_told x (no_room e h) = absurd (h x.0)
  closed_told x (no_plan h p) = absurd (omega (arith, p.some_number, one_answer bytes r 0 p.judged x.1))
  closed_told x (strict e h p c) = clash x.2 c
  closed_told x (all_closed e h p c) = e

  pub on_its_condition : WorkJudged bytes b r → WorkOnItsCondition bytes b r
  on_its_condition j = record {
    one_of = one_of_these j;
    just_1 = (λ q. short_of q j, λ h. short_told h j);
    just_planned = λ k some other. (λ q. planned_of k some other q j, λ h. planned_told k some other h j);
    just_18 = (λ q. strict_of q j, λ h. strict_told h j);
    just_0 = (λ q. closed_of q j, λ h. closed_told h j);
  }
