-- A fraction divided by the greatest common divisor is in lowest terms.
use mathlib.Core.Path.{◌≡◌, refl, sym, ap, subst, subst⁻¹, ◌∙◌}
use Prim.Native.Nat.{ℕ, zero, suc, ◌*◌, ◌/◌, ◌≤◌, ◌<◌, ◌∣◌}
use native.Mathlib.Nat.{mul_comm, mul_assoc, mul-one, mul-zero, mul-div_cancel', pos_of_dvd_of_pos, mul-dvd-mul_left, dvd_of_mul-dvd-mul_left, eq-one_of_dvd-one, div-le_self}
use native.Mathlib.Omega.{arith}
use lib.IntN.{ℤ, pos, negsuc, neg_ℤ, nat_abs, ◌*ℤ◌}
use Rattle.integers.specs.Lowest.{Gcd, Lowest, signed_as}
use Rattle.integers.proofs.Parts.{ext, neg_up, neg_dn}
use Rattle.integers.proofs.Products.{up_times, dn_times}

pub abs_as : (n : ℕ) (z : ℤ) → nat_abs (signed_as n z) ≡ n
abs_as n (pos m) = refl
abs_as zero (negsuc m) = refl
abs_as (suc n) (negsuc m) = refl

-- a product by a natural, with the sign of z
scaled : (k n m j : ℕ) (z : ℤ) → nat_abs z ≡ m → k * n ≡ j * m → pos k *ℤ signed_as n z ≡ pos j *ℤ z
scaled k n m j (pos a) e h = ap pos (h ∙ ap (λ (x : ℕ). j * x) (sym e))
scaled k n m j (negsuc a) e h = ext (pos k *ℤ neg_ℤ (pos n)) (pos j *ℤ negsuc a) (omega (
  arith,
  up_times k (neg_ℤ (pos n)),
  dn_times k (neg_ℤ (pos n)),
  up_times j (negsuc a),
  dn_times j (negsuc a),
  ap (λ (x : ℕ). k * x) (neg_up (pos n)),
  ap (λ (x : ℕ). k * x) (neg_dn (pos n)),
  h ∙ ap (λ (x : ℕ). j * x) (sym e),
  mul-zero k,
  mul-zero j,
))

-- cost / reward, divided by their greatest common divisor g
module _ (cost : ℤ) (reward g : ℕ) (h : Gcd (nat_abs cost) reward g) (r : 0 < reward) where
  pub divisor_pos : 0 < g
  divisor_pos = pos_of_dvd_of_pos h.right r

  abbrev pub reduced_cost : ℤ
  reduced_cost = signed_as (nat_abs cost / g) cost

  whole_cost : g * (nat_abs cost / g) ≡ nat_abs cost
  whole_cost = mul-div_cancel' g h.left

  whole_reward : g * (reward / g) ≡ reward
  whole_reward = mul-div_cancel' g h.right

  cross : reward * (nat_abs cost / g) ≡ reward / g * nat_abs cost
  cross =
      ap (λ (x : ℕ). x * (nat_abs cost / g)) (sym whole_reward ∙ mul_comm g (reward / g))
      ∙ mul_assoc (reward / g) g (nat_abs cost / g) ∙ ap (λ (x : ℕ). reward / g * x) whole_cost

  above : (q : ℕ) → g * q ≡ reward → 0 < q
  above zero e = absurd (omega (arith, mul-zero g))
  above (suc q) e = omega arith

  pub lowest : Lowest reduced_cost (reward / g)
  lowest = record {
    positive = above (reward / g) whole_reward;
    coprime = λ d a b. eq-one_of_dvd-one (dvd_of_mul-dvd-mul_left {k = g} d {n = 1} divisor_pos
        (subst⁻¹ (λ (x : ℕ). g * d ∣ x) (mul-one g)
        (h.greatest (g * d)
        (subst (λ (x : ℕ). g * d ∣ x) whole_cost (mul-dvd-mul_left d g (subst (λ (x : ℕ). d ∣ x) (abs_as (nat_abs cost / g) cost) a)))
        (subst (λ (x : ℕ). g * d ∣ x) whole_reward (mul-dvd-mul_left d g b)))));
  }

  pub same_ratio : pos reward *ℤ reduced_cost ≡ pos (reward / g) *ℤ cost
  same_ratio = scaled reward (nat_abs cost / g) (nat_abs cost) (reward / g) cost refl cross

  pub no_larger : (nat_abs reduced_cost ≤ nat_abs cost) × (reward / g ≤ reward)
  no_larger = (omega (arith, abs_as (nat_abs cost / g) cost, div-le_self (nat_abs cost) g), div-le_self reward g)
