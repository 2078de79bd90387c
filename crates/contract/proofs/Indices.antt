-- The first place of a number in a list.
use mathlib.Core.Path.{◌≡◌, ap, ◌∙◌}
use mathlib.Core.Bool.{Bool, true, false, cond}
use mathlib.Core.List.{List, [], ◌∷◌}
use Prim.Native.Nat.{ℕ, zero, suc, ◌≤◌, ◌<◌}
use native.Mathlib.Omega.{arith}
use borrow.Author.Tests.{eqb-true, eqb-false}
use lib.Dec.{eqb}
use lib.ListN.{length}
use Rattle.automaton.proofs.Tests.{by_bool}
use Rattle.walks.specs.Walk.{at}
use Rattle.contract.specs.Rules.{index_of}

-- where x stands at i, its first place is no later, and x stands there
pub record First (l : List ℕ) (x i : ℕ) : Type 0 where
  pub first : index_of l x ≤ i
  pub is : at l (index_of l x) ≡ x

hit : (z : ℕ) (l : List ℕ) (x : ℕ) → eqb z x ≡ true → index_of (z ∷ l) x ≡ 0
unfolding index_of
hit z l x t = ap (λ (b : Bool). cond b 0 (suc (index_of l x))) t

miss : (z : ℕ) (l : List ℕ) (x : ℕ) → eqb z x ≡ false → index_of (z ∷ l) x ≡ suc (index_of l x)
unfolding index_of
miss z l x f = ap (λ (b : Bool). cond b 0 (suc (index_of l x))) f

-- not at the head, so in the tail
later : (z : ℕ) (l : List ℕ) (x i : ℕ) → ((j : ℕ) → at l j ≡ x → First l x j) → at (z ∷ l) i ≡ x → eqb z x ≡ false → First (z ∷ l) x i
later z l x zero rest e f = absurd (eqb-false z x f e)
later z l x (suc i) rest e f = let r = rest i e in let k = miss z l x f in record { first = omega (arith, r.first); is = ap (at (z ∷ l)) k ∙ r.is }

pub first_at : (l : List ℕ) (x i : ℕ) → at l i ≡ x → First l x i
first_at [] x i e = record { first = unfold index_of in omega arith; is = e }
first_at (z ∷ l) x i e = by_bool (eqb z x)
    (λ t. let k = hit z l x t in record { first = omega arith; is = ap (at (z ∷ l)) k ∙ eqb-true z x t })
    (later z l x i (first_at l x) e)

-- a place before the end is the place of x
pub index_is : (l : List ℕ) (x : ℕ) → index_of l x < length l → at l (index_of l x) ≡ x
index_is [] x h = absurd (omega arith)
index_is (z ∷ l) x h = by_bool (eqb z x)
    (λ t. ap (at (z ∷ l)) (hit z l x t) ∙ eqb-true z x t)
    (λ f. let k = miss z l x f in ap (at (z ∷ l)) k ∙ index_is l x (omega arith))
