-- The numbers that a work plan can answer, each on its stated condition and on no other. It is proved of whatever meets the contract (JustWhen.antt).
use Rattle.std.specs.Prelude.{◌≡◌, ◌≢◌, true, false, List, ◌∷◌, ℕ, ◌<◌}
use Rattle.automaton.specs.Tests.{occurs}
use Rattle.sheet.specs.Questions.{JustWhere}
use Rattle.nodes.specs.Meaning.{meaning}
use Rattle.schedules.specs.Closed.{is_closed}
use Rattle.contract.specs.Answers.{PlanAnswers}
use Rattle.contract.specs.Conditions.{plan_numbers}
use Rattle.work.specs.Work.{PairBuffers, RoomForPairs}

-- those of a plan, and 18
abbrev pub work_numbers : List ℕ
work_numbers = 18 ∷ plan_numbers

pub record WorkOnItsCondition (bytes : List ℕ) (b : PairBuffers) (r : ℕ) : Type 0 where
  pub one_of : occurs r work_numbers ≡ true
  pub just_1 : JustWhere r 1 (¬ RoomForPairs b)
  -- 2 to 14 and 17: what a plan is refused with, each on the condition that it has there
  pub just_planned : (k : ℕ) → 1 < k → k ≢ 18 → JustWhere r k (RoomForPairs b × PlanAnswers bytes k)
  pub just_18 : JustWhere r 18 (RoomForPairs b × PlanAnswers bytes 0 × (is_closed (meaning bytes) ≡ false))
  pub just_0 : JustWhere r 0 (RoomForPairs b × PlanAnswers bytes 0 × (is_closed (meaning bytes) ≡ true))
