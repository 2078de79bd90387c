-- The numbers that a plan can answer, each on its stated condition and on no other. It is proved of whatever meets the contract (JustWhen.antt).
use Rattle.std.specs.Prelude.{◌≡◌, ◌≢◌, true, List, [], ◌∷◌, ◌++◌, ℕ}
use Rattle.automaton.specs.Tests.{occurs}
use Rattle.sheet.specs.Questions.{check_of, check_numbers, JustWhere}
use Rattle.contract.specs.Questions.{TooMany, EarningCycle, IdleGain}
use Rattle.contract.specs.Plan.{Buffers, LongEnough, Passed, step_on, start_of}

-- 1, those of the check, and 12 to 14
abbrev pub plan_numbers : List ℕ
plan_numbers = 1 ∷ check_numbers ++ 12 ∷ 13 ∷ 14 ∷ []

pub record OnItsCondition (bytes : List ℕ) (b : Buffers) (r : ℕ) : Type 0 where
  pub one_of : occurs r plan_numbers ≡ true
  pub just_1 : JustWhere r 1 (¬ LongEnough b)
  pub just_checked : (k : ℕ) → occurs k check_numbers ≡ true → k ≢ 0 → JustWhere r k (LongEnough b × (check_of bytes ≡ k))
  pub just_12 : JustWhere r 12 (Passed bytes b × TooMany (step_on bytes) (start_of bytes))
  pub just_13 : JustWhere r 13 (Passed bytes b × (¬ TooMany (step_on bytes) (start_of bytes)) × (¬ EarningCycle (step_on bytes) (start_of bytes)))
  pub just_14 : JustWhere r 14
      (Passed bytes b × (¬ TooMany (step_on bytes) (start_of bytes)) × EarningCycle (step_on bytes) (start_of bytes) × IdleGain (step_on bytes) (start_of bytes))
  pub just_0 : JustWhere r 0
      (Passed bytes b × (¬ TooMany (step_on bytes) (start_of bytes)) × EarningCycle (step_on bytes) (start_of bytes) × (¬ IdleGain (step_on bytes) (start_of bytes)))
