-- Laws of tests: going by cases, tests that agree, conjunctions, one more, and `only`.
use mathlib.Core.Path.{◌≡◌, refl, sym, ap, ◌∙◌}
use mathlib.Core.Bool.{Bool, true, false, ◌&&◌, true≢false, false≢true}
use mathlib.Core.Option.{some}
use Prim.Native.Nat.{ℕ, ◌+◌, ◌≤◌, ◌<◌}
use native.Mathlib.Omega.{arith}
use borrow.Author.Tests.{ltb-true, ltb-false}
use lib.Dec.{ltb}
use Rattle.automaton.specs.Tests.{only, one_more_if}

pub by_bool {ℓ} : {X : Type ℓ} (b : Bool) → (b ≡ true → X) → (b ≡ false → X) → X
by_bool true f g = f refl
by_bool false f g = g refl

pub by_order {ℓ} : {X : Type ℓ} (a b : ℕ) → (a < b → X) → (a ≡ b → X) → (b < a → X) → X
by_order a b f g h = by_bool (ltb a b) (λ e. f (ltb-true a b e)) (λ e. by_bool (ltb b a) (λ d. h (ltb-true b a d))
    (λ d. g (omega (arith, ltb-false a b e, ltb-false b a d))))

pub clash {ℓ} : {X : Type ℓ} {b : Bool} → b ≡ true → b ≡ false → X
clash p q = absurd (true≢false (sym p ∙ q))

-- two tests are equal if each passes where the other does
pub same_test : (a b : Bool) → (a ≡ true → b ≡ true) → (b ≡ true → a ≡ true) → a ≡ b
same_test true b f g = sym (f refl)
same_test false true f g = g refl
same_test false false f g = refl

pub fails : (b : Bool) → (b ≡ true → ⊥) → b ≡ false
fails true f = absurd (f refl)
fails false f = refl

pub &&-left : (a b : Bool) → a && b ≡ true → a ≡ true
&&-left true b e = refl
&&-left false b e = e

pub &&-right : (a b : Bool) → a && b ≡ true → b ≡ true
&&-right true b e = e
&&-right false b e = absurd (false≢true e)

pub &&-intro : {a b : Bool} → a ≡ true → b ≡ true → a && b ≡ true
&&-intro {b = b} p q = ap (λ (x : Bool). x && b) p ∙ q

-- ---- one more

pub one_more_if_lem : (b : Bool) (k : ℕ) → one_more_if b k ≡ k + one_more_if b 0
one_more_if_lem true k = omega arith
one_more_if_lem false k = omega arith

pub one_at_most : (b : Bool) → one_more_if b 0 ≤ 1
one_at_most true = omega arith
one_at_most false = omega arith

-- ---- `only`

pub only_test : {A : Type 0} (b : Bool) (x : A) {y : A} → only b x ≡ some y → b ≡ true
only_test true x e = refl
only_test false x e = cc

pub only_value : {A : Type 0} (b : Bool) (x : A) {y : A} → only b x ≡ some y → x ≡ y
only_value true x e = cc
only_value false x e = cc

pub only_yes : {A : Type 0} {b : Bool} {x y : A} → b ≡ true → x ≡ y → only b x ≡ some y
only_yes {x = x} e q = ap (λ b. only b x) e ∙ ap some q
