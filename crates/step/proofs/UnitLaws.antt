-- The units that single steps answer along a walk add up to those of its codes.
use mathlib.Core.Path.{◌≡◌, refl, ap, ap₂, ◌∙◌}
use mathlib.Core.Logic.{◌≢◌}
use mathlib.Core.Bool.{Bool, true, false, cond}
use mathlib.Core.List.{List, [], ◌∷◌}
use mathlib.Core.Option.{Option, none, some}
use Prim.Native.Nat.{ℕ, ◌+◌}
use native.Mathlib.Omega.{arith}
use borrow.Author.Tests.{eqb-true, eqb-false}
use lib.Dec.{eqb}
use lib.IntN.{ℤ}
use Rattle.automaton.specs.Priced.{Priced, chain}
use Rattle.automaton.specs.Walks.{Walk}
use Rattle.automaton.specs.Times.{units_of, units_along}
use Rattle.automaton.proofs.Tests.{only_test, only_value}
use Rattle.automaton.proofs.Chains.{then_split}
use Rattle.sheet.specs.Questions.{check_of}
use Rattle.nodes.specs.Numbers.{is_number, step_by}
use Rattle.nodes.specs.Meaning.{meaning, layout_of}
use Rattle.region.specs.Answers.{Stepped, refused_step, answered}
use Rattle.step.specs.Step.{answer_at, step_of, asked, units_asked}

-- an answer, by how the check and question 15 were answered
abbrev pub answer : Bool → Bool → ℕ → ℕ → Option (Priced ℕ) → Stepped
answer passed is_node check code o = cond passed (cond is_node (answered code o) (refused_step 15)) (refused_step check)

units_by : (t b : Bool) (k code : ℕ) (o : Option (Priced ℕ)) → (t ≡ false → k ≢ 0) → (answer t b k code o).refusal ≡ 0 → (answer t b k code o).units ≡ units_of code
units_by true true k code none f e = absurd (omega arith)
units_by true true k code (some v) f e = refl
units_by true false k code o f e = absurd (omega arith)
units_by false b k code o f e = absurd (f refl e)

module _ (s : List ℕ) where
  pub step_units : (x code : ℕ) → (step_of s x code).refusal ≡ 0 → (step_of s x code).units ≡ units_of code
  unfolding step_of answer_at
  step_units x code = units_by (eqb (check_of s) 0) (is_number (layout_of s) (meaning s) x) (check_of s) code (step_by (layout_of s) (meaning s) x code)
      (eqb-false (check_of s) 0)

  along : (codes : List ℕ) (x : ℕ) (v : Priced ℕ) → chain (asked s) x codes ≡ some v → units_asked s x codes ≡ units_along codes
  unfolding chain units_asked units_along
  along [] x v e = refl
  along (code ∷ codes) x v e =
      let t = then_split (asked s x code) (λ y. chain (asked s) y codes) v e in
      let a = step_of s x code in
      let led : Priced ℕ = record { to = a.number; cost = a.cost; reward = a.reward } in
      let yes = only_test (eqb a.refusal 0) led t.took in
      let to = ap (λ (y : Priced ℕ). y.to) (only_value (eqb a.refusal 0) led t.took) in
      ap₂ ◌+◌ (step_units x code (eqb-true a.refusal 0 yes))
      (ap (λ (y : ℕ). units_asked s y codes) to ∙ along codes t.first.to t.second t.went)

  pub units_asked_lem : {x : ℕ} {codes : List ℕ} {z : ℕ} {c : ℤ} {r : ℕ} → Walk (asked s) x codes z c r → units_asked s x codes ≡ units_along codes
  units_asked_lem {x} {codes} {z} {c} {r} w = along codes x (record { to = z; cost = c; reward = r }) w.walks
