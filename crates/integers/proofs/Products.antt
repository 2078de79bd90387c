-- Products of integers: distributivity, absolute values, multiples by a natural number.
use mathlib.Core.Path.{◌≡◌, refl, sym, ap, ◌∙◌}
use Prim.Native.Nat.{ℕ, suc, ◌+◌, ◌*◌, ◌≤◌, ◌<◌}
use native.Mathlib.Omega.{arith}
use native.Mathlib.Nat.{mul-zero, mul-add, mul-suc, mul_left_comm, mul-le-mul_left}
use native.Mathlib.Decide.{dec_le}
use lib.IntN.{ℤ, pos, negsuc, neg_ℤ, nat_abs, ◌+ℤ◌, ◌*ℤ◌, +ℤ_idl, zero-*ℤ, suc_ℤ-*ℤ}
use lib.Signed.{◌≤ℤ◌}
use Rattle.integers.proofs.Parts.{up, dn, abs_parts, add_parts, mul_parts, neg_up, neg_dn, ext, le_of, le_parts}

-- ---- the absolute value

abs_neg : (n : ℕ) → nat_abs (neg_ℤ (pos n)) ≡ n
abs_neg n = omega (arith, abs_parts (neg_ℤ (pos n)), neg_up (pos n), neg_dn (pos n))

pub abs_mul : (x y : ℤ) → nat_abs (x *ℤ y) ≡ nat_abs x * nat_abs y
abs_mul (pos a) (pos b) = refl
abs_mul (pos a) (negsuc b) = abs_neg (a * suc b)
abs_mul (negsuc a) (pos b) = abs_neg (suc a * b)
abs_mul (negsuc a) (negsuc b) = refl

pub abs_add : (x y : ℤ) → nat_abs (x +ℤ y) ≤ nat_abs x + nat_abs y
abs_add x y = omega (arith, add_parts x y, abs_parts (x +ℤ y), abs_parts x, abs_parts y)

-- ---- a natural number times an integer

pub up_times : (n : ℕ) (x : ℤ) → up (pos n *ℤ x) ≡ n * up x
up_times n (pos m) = refl
up_times n (negsuc m) = neg_up (pos (n * suc m)) ∙ sym (mul-zero n)

pub dn_times : (n : ℕ) (x : ℤ) → dn (pos n *ℤ x) ≡ n * dn x
dn_times n (pos m) = sym (mul-zero n)
dn_times n (negsuc m) = neg_dn (pos (n * suc m))

pub times_suc : (n : ℕ) (c : ℤ) → pos (suc n) *ℤ c ≡ pos n *ℤ c +ℤ c
times_suc n c = suc_ℤ-*ℤ (pos n) c

pub one_times : (z : ℤ) → pos 1 *ℤ z ≡ z
one_times z = times_suc 0 z ∙ ap (λ (y : ℤ). y +ℤ z) (zero-*ℤ z) ∙ +ℤ_idl z

pub times_swap : (a b : ℕ) (z : ℤ) → pos a *ℤ (pos b *ℤ z) ≡ pos b *ℤ (pos a *ℤ z)
times_swap a b z = ext (pos a *ℤ (pos b *ℤ z)) (pos b *ℤ (pos a *ℤ z)) (omega (
  arith,
  up_times a (pos b *ℤ z) ∙ ap (λ (k : ℕ). a * k) (up_times b z),
  dn_times a (pos b *ℤ z) ∙ ap (λ (k : ℕ). a * k) (dn_times b z),
  up_times b (pos a *ℤ z) ∙ ap (λ (k : ℕ). b * k) (up_times a z),
  dn_times b (pos a *ℤ z) ∙ ap (λ (k : ℕ). b * k) (dn_times a z),
  mul_left_comm a b (up z),
  mul_left_comm a b (dn z),
))

-- ---- distributivity

scaled : (p s d e t u v : ℕ) → s + (d + e) ≡ t + (u + v) → p * s + (p * d + p * e) ≡ p * t + (p * u + p * v)
scaled p s d e t u v h = sym (mul-add p s (d + e) ∙ ap (λ (z : ℕ). p * s + z) (mul-add p d e)) ∙ ap (λ (z : ℕ). p * z) h
    ∙ mul-add p t (u + v) ∙ ap (λ (z : ℕ). p * t + z) (mul-add p u v)

pub mul-sum : (a x y : ℤ) → a *ℤ (x +ℤ y) ≡ a *ℤ x +ℤ a *ℤ y
mul-sum a x y = ext (a *ℤ (x +ℤ y)) (a *ℤ x +ℤ a *ℤ y) (omega (
  arith,
  mul_parts a (x +ℤ y),
  mul_parts a x,
  mul_parts a y,
  add_parts (a *ℤ x) (a *ℤ y),
  scaled (up a) (up (x +ℤ y)) (dn x) (dn y) (dn (x +ℤ y)) (up x) (up y) (add_parts x y).is,
  scaled (dn a) (up (x +ℤ y)) (dn x) (dn y) (dn (x +ℤ y)) (up x) (up y) (add_parts x y).is,
))

pub times_mono : (n : ℕ) {x y : ℤ} → x ≤ℤ y → (pos n *ℤ x) ≤ℤ (pos n *ℤ y)
times_mono n {x} {y} h = le_of (pos n *ℤ x) (pos n *ℤ y) (omega (
  arith,
  up_times n x,
  dn_times n x,
  up_times n y,
  dn_times n y,
  mul-le-mul_left n (le_parts x y h),
  mul-add n (up x) (dn y),
  mul-add n (up y) (dn x),
))

-- and back, for a number above 0
pub times_cancel : (n : ℕ) → 0 < n → (x y : ℤ) → (pos n *ℤ x) ≤ℤ (pos n *ℤ y) → x ≤ℤ y
times_cancel n hn x y h = elim (dec_le (up x + dn y) (up y + dn x)) [
  | yes l ↦ le_of x y l
  | no k ↦ absurd (let l : up y + dn x < up x + dn y = omega arith in omega (
    arith,
    up_times n x,
    dn_times n x,
    up_times n y,
    dn_times n y,
    le_parts (pos n *ℤ x) (pos n *ℤ y) h,
    mul-le-mul_left n l,
    mul-suc n (up y + dn x),
    mul-add n (up x) (dn y),
    mul-add n (up y) (dn x),
  ))
]
