-- A single step: what it answers for every byte string, number and code.
use Rattle.std.specs.Prelude.{cond, List, [], ◌∷◌, ℕ, ◌+◌, eqb}
use Rattle.std.proofs.Math.Option.{Option}
use Rattle.std.specs.declared.result.Result.{Result}
use Rattle.std.specs.declared.result.Result.TheVariants.{Ok, Err}
use Rattle.automaton.specs.Tests.{only}
use Rattle.automaton.specs.Automaton.{Automaton}
use Rattle.automaton.specs.Priced.{Priced}
use Rattle.refusals.specs.Numbers.{number_of}
use Rattle.refusals.specs.declared.Refusal.{Refusal}
use Rattle.sheet.specs.Questions.{check_of}
use Rattle.sheet.specs.declared.Sheet.{Sheet}
use Rattle.nodes.specs.Numbers.{Layout, is_number, step_by}
use Rattle.nodes.specs.Meaning.{meaning, layout_of}
use Rattle.nodes.specs.Decoded.{decoded_meaning, layout_in}
use Rattle.region.specs.Answers.{Stepped, refused_step, allowed_step, answered}
use Rattle.region.specs.declared.Step.{Step}

-- what a single step gave, by the number of its refusal
abbrev pub step_answer : Result Step Refusal → Stepped
step_answer (Ok s) = allowed_step s
step_answer (Err r) = refused_step (number_of r)

-- "For a single step, after 2 to 11": 15. "Is the number that of a node of this sheet?", and then 16
unfoldable pub answer_at : Layout → Automaton → ℕ → ℕ → Stepped
answer_at y A x code = cond (is_number y A x) (answered code (step_by y A x code)) (refused_step 15)

-- the questions of the check, then 15 and 16
unfoldable pub step_of : List ℕ → ℕ → ℕ → Stepped
step_of s x code = cond (eqb (check_of s) 0) (answer_at (layout_of s) (meaning s) x code) (refused_step (check_of s))

-- the same of a decoded sheet
unfoldable pub step_in : Sheet → ℕ → ℕ → Stepped
step_in s x code = cond (eqb s.refusal 0) (answer_at (layout_in s) (decoded_meaning s) x code) (refused_step s.refusal)

-- a single step as walks are made of: where it leads, or nothing where it is refused
abbrev pub asked : List ℕ → ℕ → ℕ → Option (Priced ℕ)
asked s x code = let a = step_of s x code in only (eqb a.refusal 0) (record { to = a.number; cost = a.cost; reward = a.reward })

-- the units that single steps answer, each asked where the one before led, added up
unfoldable pub units_asked : List ℕ → ℕ → List ℕ → ℕ
units_asked s x [] = 0
units_asked s x (code ∷ codes) = let a = step_of s x code in a.units + units_asked s a.number codes
