-- What holds where the questions are answered yes, taken apart.
use mathlib.Core.Path.{◌≡◌, refl, sym, ap, ◌∙◌}
use mathlib.Core.Bool.{Bool, true, false, ◌&&◌}
use mathlib.Core.Option.{Option, none, some, get_or}
use Prim.Native.Nat.{ℕ, zero, suc, ◌<◌}
use native.Mathlib.Decide.{ℕ_discrete}
use native.Mathlib.Omega.{arith}
use borrow.Author.Tests.{eqb-true, eqb-false}
use lib.Dec.{eqb}
use Rattle.automaton.proofs.Tests.{by_bool, clash}
use Rattle.sheet.specs.Questions.{or_else, each, first_of, where_there}

-- both are 0
pub or_left : (a b : ℕ) → or_else a b ≡ 0 → a ≡ 0
or_left a b h = by_bool (eqb a 0) (λ t. eqb-true a 0 t) (λ f. rw f at h)

pub or_right : (a b : ℕ) → or_else a b ≡ 0 → b ≡ 0
or_right a b h = by_bool (eqb a 0) (λ t. rw t at h) (λ f. absurd (eqb-false a 0 f (rw f at h)))

pub first_at : (n : ℕ) (f : ℕ → ℕ) → first_of n f ≡ 0 → (i : ℕ) → i < n → f i ≡ 0
unfolding first_of
first_at zero f h i l = absurd (omega arith)
first_at (suc n) f h i l = elim (ℕ_discrete i n) [
  | yes e ↦ ap f e ∙ or_right (first_of n f) (f n) h
  | no e ↦ first_at n f (or_left (first_of n f) (f n) h) i (omega arith)
]

-- one that is answered no can be found
pub each_not : (n : ℕ) (p : ℕ → Bool) → each n p ≡ false → (i : ℕ) × (i < n) × (p i ≡ false)
unfolding each
each_not zero p h = clash refl h
each_not (suc n) p h =
    let earlier = each_not n p in
    by_bool (each n p)
    (λ t. (n, omega arith, ap (λ (b : Bool). b && p n) (sym t) ∙ h))
    (λ f. ((earlier f).0, omega (arith, (earlier f).1), (earlier f).2))

-- a field that passed, or what stands for an absent one
pub or_absent : {P : ℕ → Type 0} (p : ℕ → Bool) (o : Option ℕ) (d : ℕ) → where_there p o ≡ true → ((v : ℕ) → p v ≡ true → P v) → P d → P (get_or o d)
or_absent p none d h f k = k
or_absent p (some v) d h f k = f v h
