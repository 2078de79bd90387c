-- The cause of a refusal by its number: what an explored sheet is refused with is 12 to 14, and nothing else is.
use mathlib.Core.Path.{◌≡◌, refl, sym, ap, ◌∙◌}
use mathlib.Core.Bool.{Bool, true, not, ◌||◌}
use mathlib.Core.List.{List}
use Prim.Native.Nat.{ℕ, ◌≤◌, ◌<◌}
use native.Mathlib.Omega.{arith}
use borrow.Author.Tests.{ne_eqb, le-leb}
use lib.Dec.{eqb}
use Rattle.automaton.specs.Tests.{every}
use Rattle.automaton.proofs.Tests.{clash}
use Rattle.sheet.specs.Fields.{is_within}
use Rattle.sheet.specs.Questions.{check_of, check_numbers}
use Rattle.sheet.proofs.FieldLaws.{bounds}
use Rattle.nodes.proofs.CheckNumberLaws.{check_number, passes}
use Rattle.contract.specs.Plan.{Buffers, Passed, step_on, start_of, Judged, too_short, faulty, explored}
use Rattle.contract.proofs.JustWhen.{verdict_number}

module _ {bytes : List ℕ} {b : Buffers} {r : ℕ} where
  pub explored_numbers : Passed bytes b → 0 < r → Judged bytes b r → (12 ≤ r) × (r ≤ 14)
  explored_numbers p some (too_short e h) = absurd (h p.0)
  explored_numbers p some (faulty e l c) = absurd (c p.1)
  explored_numbers p some (explored l c v) =
      let t = verdict_number (step_on bytes) (start_of bytes) r (λ x. eqb x 0 || is_within x 12 14) refl refl refl refl v in
      bounds r 12 14 (sym (ap (λ (x : Bool). x || is_within r 12 14) (ne_eqb r 0 (λ e. omega arith))) ∙ t)

  pub numbers_explored : 12 ≤ r → r ≤ 14 → Judged bytes b r → Passed bytes b
  unfolding every
  numbers_explored low high (too_short e h) = absurd (omega arith)
  numbers_explored low high (faulty e l c) =
      let within : is_within (check_of bytes) 12 14 ≡ true = simp (le-leb 12 (check_of bytes) (omega arith), le-leb (check_of bytes) 14 (omega arith)) in
      clash (passes (λ x. not (is_within x 12 14)) check_numbers refl (check_of bytes) (check_number bytes)) (ap not within)
  numbers_explored low high (explored l c v) = (l, c)
