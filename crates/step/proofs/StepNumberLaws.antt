-- A single step answers one of its own numbers, each if and only if its condition holds.
use mathlib.Core.Path.{◌≡◌, refl, sym, ap, subst}
use mathlib.Core.Logic.{◌≢◌}
use mathlib.Core.Bool.{Bool, true, false}
use mathlib.Core.List.{List}
use mathlib.Core.Option.{Option, none, some}
use Prim.Native.Nat.{ℕ, zero, suc}
use native.Mathlib.Omega.{arith}
use borrow.Author.Tests.{ne_eqb}
use lib.Dec.{eqb}
use Rattle.automaton.specs.Tests.{occurs, every}
use Rattle.automaton.specs.Priced.{Priced}
use Rattle.automaton.proofs.Tests.{clash}
use Rattle.sheet.specs.Questions.{check_of, check_numbers}
use Rattle.nodes.specs.Numbers.{is_number, step_by}
use Rattle.nodes.specs.Meaning.{meaning, layout_of}
use Rattle.nodes.proofs.CheckNumberLaws.{check_number, passes, absent}
use Rattle.step.specs.Step.{answer_at, step_of}
use Rattle.step.specs.Conditions.{step_numbers, StepConditions, StepOnItsCondition}
use Rattle.step.proofs.UnitLaws.{answer}

abbrev number : ℕ → ℕ → Bool → Option (Priced ℕ) → ℕ
number code k b o = (answer (eqb k 0) b k code o).refusal

somewhere : (v : Priced ℕ) → some v ≡ none → ⊥
somewhere v e = let z : ◌≡◌ {A = ℕ} 0 1 = cc in omega arith

-- a refusal of the check is handed on
handed_on : (k : ℕ) (b : Bool) (o : Option (Priced ℕ)) → k ≢ 0 → occurs k check_numbers ≡ true → StepConditions k b o k
unfolding every
handed_on k b o not-0 one = record {
  one_of = passes (λ x. occurs x step_numbers) check_numbers refl k one;
  just_checked = λ j m any. (λ q. q, λ h. h);
  just_15 = (λ q. absurd (absent k 15 refl q one), λ h. absurd (not-0 h.0));
  just_16 = (λ q. absurd (absent k 16 refl q one), λ h. absurd (not-0 h.0));
  just_0 = (λ q. absurd (not-0 q), λ h. absurd (not-0 h.0));
}

conditions : (code k : ℕ) (b : Bool) (o : Option (Priced ℕ)) → occurs k check_numbers ≡ true → StepConditions k b o (number code k b o)
conditions code (suc n) b o one =
    let is = ap (λ (t : Bool). (answer t b (suc n) code o).refusal) (ne_eqb (suc n) 0 (λ e. omega arith)) in
    subst (StepConditions (suc n) b o) (sym is) (handed_on (suc n) b o (λ e. omega arith) one)
conditions code zero false o one = record {
  one_of = refl;
  just_checked = λ k m other. (λ q. absurd (absent k 15 refl (sym q) m), λ h. absurd (other (sym h)));
  just_15 = (λ q. (refl, refl), λ h. refl);
  just_16 = (λ q. absurd (omega arith), λ h. clash h.1 refl);
  just_0 = (λ q. absurd (omega arith), λ h. clash h.1 refl);
}
conditions code zero true none one = record {
  one_of = refl;
  just_checked = λ k m other. (λ q. absurd (absent k 16 refl (sym q) m), λ h. absurd (other (sym h)));
  just_15 = (λ q. absurd (omega arith), λ h. clash refl h.1);
  just_16 = (λ q. (refl, refl, refl), λ h. refl);
  just_0 = (λ q. absurd (omega arith), λ h. absurd (h.2 refl));
}
conditions code zero true (some v) one = record {
  one_of = refl;
  just_checked = λ k m other. (λ q. absurd (other (sym q)), λ h. absurd (other (sym h)));
  just_15 = (λ q. absurd (omega arith), λ h. clash refl h.1);
  just_16 = (λ q. absurd (omega arith), λ h. absurd (somewhere v h.2));
  just_0 = (λ q. (refl, refl, somewhere v), λ h. refl);
}

pub step_on_its_condition : (s : List ℕ) (x code : ℕ) → StepOnItsCondition s x code
unfolding step_of answer_at
step_on_its_condition s x code =
    conditions code (check_of s) (is_number (layout_of s) (meaning s) x) (step_by (layout_of s) (meaning s) x code) (check_number s)
