-- The least number of a list: none of the list is below it, and it is in the list.
use mathlib.Core.Path.{◌≡◌, refl, sym, ap, ◌∙◌, subst}
use mathlib.Core.Bool.{Bool, true, false, cond}
use mathlib.Core.List.{List, [], ◌∷◌}
use Prim.Native.Nat.{ℕ, zero, suc, ◌≤◌, ◌<◌}
use native.Mathlib.Omega.{arith}
use lib.IntN.{ℤ}
use lib.ListN.{length, take}
use lib.Seq.{length-take-le, get_or-take}
use lib.Signed.{◌≤ℤ◌, le_z, ≤ℤ_refl}
use Rattle.integers.proofs.Parts.{le_of, le_chain, at_most, not_at_most}
use Rattle.automaton.proofs.Tests.{by_bool}
use Rattle.walks.specs.Walk.{atℤ}
use Rattle.contract.specs.Smallest.{lesser, least_of, smallest_potential}

chosen : (y z : ℤ) (b : Bool) → le_z y z ≡ b → (cond b y z ≤ℤ y) × (cond b y z ≤ℤ z)
chosen y z true t = (≤ℤ_refl y, le_of y z (at_most y z t))
chosen y z false f = (le_of z y (omega (arith, not_at_most y z f)), ≤ℤ_refl z)

lesser_below : (y z : ℤ) → (lesser y z ≤ℤ y) × (lesser y z ≤ℤ z)
lesser_below y z = chosen y z (le_z y z) refl

pub least_below : (l : List ℤ) (i : ℕ) → i < length l → least_of l ≤ℤ atℤ l i
unfolding least_of
least_below [] i h = absurd (omega arith)
least_below (z ∷ []) zero h = ≤ℤ_refl z
least_below (z ∷ []) (suc i) h = absurd (omega arith)
least_below (z ∷ y ∷ l) zero h = (lesser_below z (least_of (y ∷ l))).0
least_below (z ∷ y ∷ l) (suc i) h =
    let r = least_of (y ∷ l) in le_chain (lesser z r) r (atℤ (y ∷ l) i) (lesser_below z r).1 (least_below (y ∷ l) i (omega arith))

first_lesser : (y z : ℤ) → le_z y z ≡ true → lesser y z ≡ y
first_lesser y z t = ap (λ (b : Bool). cond b y z) t

second_lesser : (y z : ℤ) → le_z y z ≡ false → lesser y z ≡ z
second_lesser y z f = ap (λ (b : Bool). cond b y z) f

-- z is among the first n entries of the list, as `Listed` has it of numbers
pub record Among (l : List ℤ) (n : ℕ) (z : ℤ) : Type 0 where
  pub index : ℕ
  pub below : index < n
  pub is : atℤ l index ≡ z

pub least_among : (l : List ℤ) → 0 < length l → Among l (length l) (least_of l)
unfolding least_of
least_among [] h = absurd (omega arith)
least_among (z ∷ []) h = record { index = 0; below = omega arith; is = refl }
least_among (z ∷ y ∷ l) h = let r = least_of (y ∷ l) in by_bool (le_z z r)
    (λ t. record { index = 0; below = omega arith; is = sym (first_lesser z r t) })
    (λ f. let a = least_among (y ∷ l) (omega arith) in
    record { index = suc a.index; below = omega (arith, a.below); is = a.is ∙ sym (second_lesser z r f) })

-- ---- of the first n entries

module _ (n : ℕ) (potentials : List ℤ) (room : n ≤ length potentials) where
  pub smallest_entry_below : (i : ℕ) → i < n → smallest_potential n potentials ≤ℤ atℤ potentials i
  smallest_entry_below i h = subst (λ (z : ℤ). smallest_potential n potentials ≤ℤ z) (get_or-take n potentials i _ h)
      (least_below (take n potentials) i (omega (arith, length-take-le n potentials room)))

  pub smallest_among : 0 < n → Among potentials n (smallest_potential n potentials)
  smallest_among some =
      let l : length (take n potentials) ≡ n = length-take-le n potentials room in
      let a = least_among (take n potentials) (omega arith) in
      record { index = a.index; below = omega (arith, a.below); is = sym (get_or-take n potentials a.index _ (omega (arith, a.below))) ∙ a.is }
