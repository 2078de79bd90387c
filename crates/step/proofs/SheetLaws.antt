-- Question 15 of a decoded sheet by the record of a location, a whole step, and that what was read steps as its bytes do.
use mathlib.Core.Path.{◌≡◌, sym, ap, ap₂, ◌∙◌}
use mathlib.Core.Bool.{Bool, true, false, cond, ◌&&◌}
use mathlib.Core.List.{List}
use Prim.Native.Nat.{ℕ, ◌≤◌, ◌<◌}
use borrow.Author.Tests.{eqb-true, eq-eqb, ne_eqb, lt-ltb, le-ltb}
use lib.Dec.{eqb}
use Rattle.automaton.proofs.Tests.{by_bool}
use Rattle.sheet.specs.Questions.{check_of}
use Rattle.sheet.specs.Decoded.{blank_edge, read_of}
use Rattle.sheet.specs.declared.Location.{Location}
use Rattle.sheet.specs.declared.Sheet.{Sheet}
use Rattle.nodes.specs.Numbers.{Layout, bits_of, node_of, is_number, step_by}
use Rattle.nodes.specs.Meaning.{meaning, layout_of}
use Rattle.nodes.specs.Decoded.{layout_in, location_in, decoded_meaning, alone}
use Rattle.nodes.proofs.CheckedLaws.{sound, room}
use Rattle.nodes.proofs.NumberLaws.{node_there}
use Rattle.nodes.proofs.AgreeLaws.{Agree, numbers_agree, number_steps_agree}
use Rattle.nodes.proofs.DecodedLaws.{read_layout, read_refusal, read_agrees, number_alone}
use Rattle.region.specs.Answers.{Stepped, refused_step, answered}
use Rattle.step.specs.Step.{answer_at, step_of, step_in}

module _ (s : Sheet) (x : ℕ) where
  abbrev y : Layout
  y = layout_in s

  abbrev location : ℕ
  location = bits_of x 4 y.location

  -- question 15
  pub no_location : s.locations ≤ location → false ≡ is_number y (decoded_meaning s) x
  unfolding node_of
  no_location h = sym (number_alone y s x blank_edge
      ∙ ap (λ (b : Bool). b && is_number y (alone s.edition s.clocks blank_edge (location_in s location)) x) (le-ltb _ _ h))

  pub by_location : location < s.locations → (l : Location) → l ≡ location_in s location
      → is_number y (alone s.edition s.clocks blank_edge l) x ≡ is_number y (decoded_meaning s) x
  unfolding node_of
  by_location h l q = ap (λ (l : Location). is_number y (alone s.edition s.clocks blank_edge l) x) q
      ∙ sym (number_alone y s x blank_edge
      ∙ ap (λ (b : Bool). b && is_number y (alone s.edition s.clocks blank_edge (location_in s location)) x) (lt-ltb _ _ h))

  -- ---- a whole step

  module _ (code : ℕ) where
    pub step_refused : (s.refusal ≡ 0 → ⊥) → refused_step s.refusal ≡ step_in s x code
    unfolding step_in
    step_refused n = sym (simp (ne_eqb _ _ n))

    pub step_nowhere : s.refusal ≡ 0 → is_number y (decoded_meaning s) x ≡ false → refused_step 15 ≡ step_in s x code
    unfolding step_in answer_at
    step_nowhere z h = sym (simp (eq-eqb _ _ z, h))

    pub step_answered : s.refusal ≡ 0 → is_number y (decoded_meaning s) x ≡ true
        → answered code (step_by y (decoded_meaning s) x code) ≡ step_in s x code
    unfolding step_in answer_at
    step_answered z h = sym (simp (eq-eqb _ _ z, h))

-- ---- what was read steps as its bytes do

answers_agree : (bytes : List ℕ) → check_of bytes ≡ 0 → (x code : ℕ)
    → answer_at (layout_in (read_of bytes)) (decoded_meaning (read_of bytes)) x code ≡ answer_at (layout_of bytes) (meaning bytes) x code
unfolding answer_at
answers_agree bytes ok x code = ap (λ (y : Layout). answer_at y (decoded_meaning (read_of bytes)) x code) (read_layout bytes ok)
    ∙ sym (by_bool (is_number (layout_of bytes) (meaning bytes) x)
    (λ t. ap₂ (λ (b : Bool) (v : Stepped). cond b v (refused_step 15)) same
    (ap (answered code) (number_steps_agree (layout_of bytes) (meaning bytes) (decoded_meaning (read_of bytes)) agree (sound bytes ok) x code
    (node_there (layout_of bytes) (meaning bytes) (room bytes ok) x t))))
    (λ f. ap (λ (b : Bool). cond b (answered code (step_by (layout_of bytes) (meaning bytes) x code)) (refused_step 15)) f
    ∙ sym (ap (λ (b : Bool). cond b (answered code (step_by (layout_of bytes) (decoded_meaning (read_of bytes)) x code)) (refused_step 15)) (sym same ∙ f))))
  where
    agree : Agree (meaning bytes) (decoded_meaning (read_of bytes))
    agree = read_agrees bytes ok

    same : is_number (layout_of bytes) (meaning bytes) x ≡ is_number (layout_of bytes) (decoded_meaning (read_of bytes)) x
    same = numbers_agree (layout_of bytes) (meaning bytes) (decoded_meaning (read_of bytes)) agree x

pub read_steps : (bytes : List ℕ) (x code : ℕ) → step_in (read_of bytes) x code ≡ step_of bytes x code
unfolding step_in step_of
read_steps bytes x code = by_bool (eqb (check_of bytes) 0)
    (λ t. ap₂ (λ (r : ℕ) (v : Stepped). cond (eqb r 0) v (refused_step r)) (read_refusal bytes) (answers_agree bytes (eqb-true (check_of bytes) 0 t) x code))
    (λ f. ap (λ (r : ℕ). cond (eqb r 0) (answer_at (layout_in (read_of bytes)) (decoded_meaning (read_of bytes)) x code) (refused_step r)) (read_refusal bytes)
    ∙ ap (λ (b : Bool). cond b (answer_at (layout_in (read_of bytes)) (decoded_meaning (read_of bytes)) x code) (refused_step (check_of bytes))) f
    ∙ sym (ap (λ (b : Bool). cond b (answer_at (layout_of bytes) (meaning bytes) x code) (refused_step (check_of bytes))) f))
