-- The numbers that a single step can answer, each on its stated condition and on no other. It is proved of the step (StepNumberLaws.antt).
use Rattle.std.specs.Prelude.{◌≡◌, ◌≢◌, Bool, true, false, List, [], ◌∷◌, ◌++◌, ℕ}
use Rattle.std.proofs.Math.Option.{Option, none}
use Rattle.automaton.specs.Tests.{occurs}
use Rattle.automaton.specs.Priced.{Priced}
use Rattle.sheet.specs.Questions.{check_of, check_numbers, JustWhere}
use Rattle.nodes.specs.Numbers.{is_number, step_by}
use Rattle.nodes.specs.Meaning.{meaning, layout_of}
use Rattle.step.specs.Step.{step_of}

-- those of the check, and 15 and 16
abbrev pub step_numbers : List ℕ
step_numbers = check_numbers ++ 15 ∷ 16 ∷ []

-- r is the number where the check answers `check`, question 15 is answered as `is_node` says, and `leads` is where the code leads
pub record StepConditions (check : ℕ) (is_node : Bool) (leads : Option (Priced ℕ)) (r : ℕ) : Type 0 where
  pub one_of : occurs r step_numbers ≡ true
  pub just_checked : (k : ℕ) → occurs k check_numbers ≡ true → k ≢ 0 → JustWhere r k (check ≡ k)
  pub just_15 : JustWhere r 15 ((check ≡ 0) × (is_node ≡ false))
  pub just_16 : JustWhere r 16 ((check ≡ 0) × (is_node ≡ true) × (leads ≡ none))
  pub just_0 : JustWhere r 0 ((check ≡ 0) × (is_node ≡ true) × (leads ≢ none))

abbrev pub StepOnItsCondition : List ℕ → ℕ → ℕ → Type 0
StepOnItsCondition s x code =
    StepConditions (check_of s) (is_number (layout_of s) (meaning s) x) (step_by (layout_of s) (meaning s) x code) (step_of s x code).refusal
