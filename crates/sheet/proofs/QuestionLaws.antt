-- Questions asked in a loop: of each number below n, or of each record in turn.
use mathlib.Core.Path.{◌≡◌, refl, sym, ap, ap₂, subst, ◌∙◌}
use mathlib.Core.Bool.{Bool, true, false, not, ◌&&◌}
use Prim.Native.Nat.{ℕ, zero, suc, ◌+◌, ◌≤◌, ◌<◌}
use native.Mathlib.Numerals.{add-one}
use native.Mathlib.Decide.{ℕ_discrete}
use native.Mathlib.Omega.{arith}
use borrow.Author.Tests.{eq-eqb, ne_eqb, not-true}
use Rattle.refusals.specs.Numbers.{number_of}
use Rattle.refusals.specs.declared.Refusal.{Refusal}
use Rattle.refusals.proofs.Laws.{never_0}
use Rattle.sheet.specs.Questions.{ask, or_else, each, first_of}
use Rattle.sheet.proofs.AcceptedLaws.{left, right}

-- ---- each number passes

pub each_none : (p : ℕ → Bool) → each 0 p ≡ true
unfolding each
each_none p = refl

pub each_more : (i : ℕ) (p : ℕ → Bool) → each i p ≡ true → p i ≡ true → each (i + 1) p ≡ true
unfolding each
each_more i p h k = ap (λ (n : ℕ). each n p) (add-one i) ∙ ap₂ ◌&&◌ h k

no_more : (b : Bool) → b && false ≡ false
no_more true = refl
no_more false = refl

pub each_fails : (n : ℕ) (p : ℕ → Bool) (i : ℕ) → i < n → p i ≡ false → each n p ≡ false
unfolding each
each_fails zero p i h k = absurd (omega arith)
each_fails (suc n) p i h k = elim (ℕ_discrete i n) [
  | yes e ↦ ap (λ (b : Bool). each n p && b) (subst (λ (j : ℕ). p j ≡ false) e k) ∙ no_more (each n p)
  | no e ↦ ap (λ (b : Bool). b && p n) (each_fails n p i (omega arith) k)
]

pub each_at : (n : ℕ) (p : ℕ → Bool) → each n p ≡ true → (i : ℕ) → i < n → p i ≡ true
unfolding each
each_at zero p h i l = absurd (omega arith)
each_at (suc n) p h i l = elim (ℕ_discrete i n) [
  | yes e ↦ ap p e ∙ right (each n p) (p n) h
  | no e ↦ each_at n p (left (each n p) (p n) h) i (omega arith)
]

pub each_true : (n : ℕ) (p : ℕ → Bool) → ((i : ℕ) → i < n → p i ≡ true) → each n p ≡ true
unfolding each
each_true zero p h = refl
each_true (suc n) p h = ap₂ ◌&&◌ (each_true n p (λ i l. h i (omega arith))) (h n (omega arith))

-- ---- the first that is not 0

or_zero : (a b : ℕ) → a ≡ 0 → or_else a b ≡ b
or_zero a b h = simp (eq-eqb _ _ h)

or_first : (a b : ℕ) → (a ≡ 0 → ⊥) → or_else a b ≡ a
or_first a b h = simp (ne_eqb _ _ h)

pub first_none : (f : ℕ → ℕ) → first_of 0 f ≡ 0
unfolding first_of
first_none f = refl

pub first_more : (i : ℕ) (f : ℕ → ℕ) → first_of i f ≡ 0 → f i ≡ 0 → first_of (i + 1) f ≡ 0
unfolding first_of
first_more i f h k = ap (λ (n : ℕ). first_of n f) (add-one i) ∙ or_zero (first_of i f) (f i) h ∙ k

pub first_is : (n : ℕ) (f : ℕ → ℕ) (i : ℕ) → i < n → first_of i f ≡ 0 → (f i ≡ 0 → ⊥) → first_of n f ≡ f i
unfolding first_of
first_is zero f i h z k = absurd (omega arith)
first_is (suc n) f i h z k = elim (ℕ_discrete i n) [
  | yes e ↦ or_zero (first_of n f) (f n) (subst (λ (j : ℕ). first_of j f ≡ 0) e z) ∙ ap f (sym e)
  | no e ↦ (let d : first_of n f ≡ f i = first_is n f i (omega arith) z k in or_first (first_of n f) (f n) (λ q. k (sym d ∙ q)) ∙ d)
]

-- ---- a question asked of each number below k

pub answer_no : (n k : ℕ) (p : ℕ → Bool) (i : ℕ) → i < k → p i ≡ false → n ≡ ask n (each k p) 0
answer_no n k p i h f = sym (ap (λ (t : Bool). ask n t 0) (each_fails k p i h f))

-- all that were asked
pub each_all : (k : ℕ) (p : ℕ → Bool) (i : ℕ) → i ≤ k → k ≤ i → each i p ≡ true → each k p ≡ true
each_all k p i h l e = let q : k ≡ i = omega arith in ap (λ (j : ℕ). each j p) q ∙ e

pub answer_yes : (n k : ℕ) (p : ℕ → Bool) (i : ℕ) → i ≤ k → k ≤ i → each i p ≡ true → 0 ≡ ask n (each k p) 0
answer_yes n k p i h l e = sym (ap (λ (t : Bool). ask n t 0) (each_all k p i h l e))

-- ---- one question after another: the first refusal answers

pub stops : (r : Refusal) (a b : ℕ) → number_of r ≡ a → number_of r ≡ or_else a b
stops r a b h = h ∙ sym (or_first a b (λ z. never_0 r (h ∙ z)))

pub goes_on : (x a b : ℕ) → 0 ≡ a → x ≡ b → x ≡ or_else a b
goes_on x a b z h = h ∙ sym (or_zero a b (sym z))

-- ---- a test that a function answered: docs/PORT.md names this; no proof cites it

pub denied : (r t : Bool) → r ≡ t → not r ≡ true → t ≡ false
denied r t p h = sym p ∙ not-true r h
