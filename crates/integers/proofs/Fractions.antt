-- A falling sequence of fractions with bounded denominators ends.
use mathlib.Core.Path.{◌≡◌, sym, ap, ◌∙◌}
use Prim.Native.Nat.{ℕ, ◌+◌, ◌*◌, ◌/◌, ◌≤◌, ◌<◌}
use native.Mathlib.Omega.{arith}
use native.Mathlib.Nat.{mul-le-mul_right, mul_comm, mul_assoc, add-mul, div-mul-le_self, le-div_iff_mul-le, le_of_mul-le-mul_right, suc-mul}

pub swap : (a b c : ℕ) → a * b * c ≡ a * c * b
swap a b c = mul_assoc a b c ∙ ap (λ (z : ℕ). a * z) (mul_comm b c) ∙ sym (mul_assoc a c b)

-- the fraction x over q, in units of one over s
abbrev pub units : ℕ → ℕ → ℕ → ℕ
units s x q = x * s / q

pub units_fall : (s x q y p : ℕ) → 0 < q → 0 < p → q * p ≤ s → y * q < x * p → units s y p < units s x q
units_fall s x q y p hq hp room less = (le-div_iff_mul-le hq).1 (le_of_mul-le-mul_right {k = p} (omega (
  arith,
  mul-le-mul_right q (div-mul-le_self (y * s) p),
  mul-le-mul_right s less,
  suc-mul (y * s / p) q,
  ap (λ (z : ℕ). z * p) (suc-mul (y * s / p) q),
  add-mul (y * s / p * q) q p,
  suc-mul (y * q) s,
  swap (y * s / p) q p,
  swap y s q,
  swap x p s,
)) hp)

-- C over R is below P over q, where q * C < P * R, with C = u - d and P = v - w: so are y over R and x over q, the two raised by b
pub raised : (u d v w q R b x y : ℕ) → u * q + w * R < v * R + d * q → y + d ≡ u + b * R → x + w ≡ v + b * q → y * q < x * R
raised u d v w q R b x y h p e = omega (
  arith,
  h,
  sym (add-mul y d q) ∙ ap (λ (z : ℕ). z * q) p ∙ add-mul u (b * R) q,
  sym (add-mul x w R) ∙ ap (λ (z : ℕ). z * R) e ∙ add-mul v (b * q) R,
  swap b R q,
)
