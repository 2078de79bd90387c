-- The loop ends: from a cycle to a cheaper one the height of its ratio falls, a natural number.
use mathlib.Core.Path.{◌≡◌, sym, ap, ◌∙◌}
use Prim.Native.Nat.{ℕ, ◌+◌, ◌*◌, ◌-◌, ◌≤◌, ◌<◌}
use native.Mathlib.Nat.{mul-le-mul, mul-le-mul_right, mul_comm, mul_assoc, add-mul, mul-zero, lt_of_mul-lt-mul_right, suc-mul}
use native.Mathlib.Omega.{arith}
use lib.IntN.{ℤ, pos, neg_ℤ, nat_abs, ◌+ℤ◌, ◌*ℤ◌}
use lib.Signed.{◌<ℤ◌}
use Rattle.integers.proofs.Parts.{up, dn, abs_parts, neg_up, neg_dn, lt_of, lt_parts, add_parts, mul_parts}
use Rattle.integers.proofs.Products.{up_times, dn_times}
use Rattle.integers.proofs.Fractions.{swap, units, units_fall, raised}

-- c / r + 20480000, which is not below 0, in parts of 20480000 squared: two different ratios with denominators up to 20480000 differ by such a part
unfoldable pub height : ℤ → ℕ → ℕ
height c r = units 419430400000000 (up c + 20480000 * r - dn c) r

-- an integer times a natural number, by parts
right_times : (z : ℤ) (n : ℕ) → up (z *ℤ pos n) + dn z * n ≡ dn (z *ℤ pos n) + up z * n
right_times z n = omega (arith, mul_parts z (pos n), mul-zero (up z), mul-zero (dn z))

pub height_falls : (C c : ℤ) (R r : ℕ) → 0 < R → 0 < r → R ≤ 20480000 → r ≤ 20480000 → nat_abs C ≤ 20480000 → nat_abs c ≤ 20480000
    → (C *ℤ pos r) <ℤ (c *ℤ pos R) → height C R < height c r
unfolding height
height_falls C c R r hR hr bR br bC bc h =
    let room : r * R ≤ 419430400000000 = mul-le-mul br bR in
    units_fall 419430400000000 (up c + 20480000 * r - dn c) r (up C + 20480000 * R - dn C) R hr hR room
    (raised (up C) (dn C) (up c) (dn c) r R 20480000 (up c + 20480000 * r - dn c) (up C + 20480000 * R - dn C)
    (omega (arith, lt_parts (C *ℤ pos r) (c *ℤ pos R) h, right_times C r, right_times c R)) (omega (arith, abs_parts C)) (omega (arith, abs_parts c)))

rot : (a b c : ℕ) → a * b * c ≡ c * a * b
rot a b c = mul_comm (a * b) c ∙ sym (mul_assoc c a b)

-- by parts: with q * C below p * R, where q * c is p * r, also C * r is below c * R
cross : (u d U D s t R r q : ℕ) → 0 < r → u * q + t * R < s * R + d * q → q * U + t * r ≡ q * D + s * r → u * r + D * R < U * R + d * r
cross u d U D s t R r q hr less same = lt_of_mul-lt-mul_right q (omega (
  arith,
  mul-le-mul_right r less,
  suc-mul (u * q + t * R) r,
  add-mul (u * q) (t * R) r,
  add-mul (s * R) (d * q) r,
  ap (λ (z : ℕ). z * R) same,
  add-mul (q * U) (t * r) R,
  add-mul (q * D) (s * r) R,
  add-mul (u * r) (D * R) q,
  add-mul (U * R) (d * r) q,
  swap u q r,
  swap d q r,
  swap t R r,
  swap s R r,
  rot D R q,
  rot U R q,
))

-- q * C + b * R, by parts
pub combined : (C b : ℤ) (R q : ℕ) (z : ℤ) → z ≡ pos q *ℤ C +ℤ b *ℤ pos R → up z + (q * dn C + dn b * R) ≡ dn z + (q * up C + up b * R)
combined C b R q z e = omega (
  arith,
  ap up e,
  ap dn e,
  add_parts (pos q *ℤ C) (b *ℤ pos R),
  up_times q C,
  dn_times q C,
  right_times b R,
)

-- a cycle of negative weight at the ratio p / q of another is cheaper than it
pub cheaper : (C c p : ℤ) (R r q : ℕ) (z : ℤ) → 0 < r → z ≡ pos q *ℤ C +ℤ neg_ℤ p *ℤ pos R → z <ℤ pos 0 → pos q *ℤ c ≡ p *ℤ pos r
    → (C *ℤ pos r) <ℤ (c *ℤ pos R)
cheaper C c p R r q z hr e less same = lt_of (C *ℤ pos r) (c *ℤ pos R) (omega (
  arith,
  cross (up C) (dn C) (up c) (dn c) (up p) (dn p) R r q hr
      (omega (
        arith,
        combined C (neg_ℤ p) R q z e,
        ap (λ (x : ℕ). x * R) (neg_up p),
        ap (λ (x : ℕ). x * R) (neg_dn p),
        lt_parts z (pos 0) less,
        mul_comm q (dn C),
        mul_comm q (up C),
      ))
      (omega (arith, up_times q c, dn_times q c, right_times p r, ap up same, ap dn same)),
  right_times C r,
  right_times c R,
))
