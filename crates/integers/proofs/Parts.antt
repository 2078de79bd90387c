-- The kit for ℤ: an integer z is `up z` less `dn z`, its positive and its negative part, two natural numbers.
-- By the parts a linear fact of integers is one for `omega`: a sum is read by `add_parts`, a difference by `sub_parts`, a product by
-- `mul_parts`, an order by `le_parts` and `lt_parts`; an equation or an order is shown by `ext`, `le_of` or `lt_of`.
use mathlib.Core.Path.{◌≡◌, refl, sym, ap}
use mathlib.Core.Bool.{Bool, true, false, cond}
use Prim.Native.Nat.{ℕ, zero, suc, ◌+◌, ◌*◌, ◌-◌, ◌≤◌, ◌<◌}
use native.Mathlib.Omega.{arith}
use native.Mathlib.Nat.{mul-zero, zero-mul}
use borrow.Author.Tests.{ltb-true, ltb-false, leb-true, leb-false}
use lib.Dec.{ltb, lt→ltb, le→leb, ltb→lt, leb→le}
use lib.IntN.{ℤ, pos, negsuc, neg_ℤ, nat_abs, sub_ℕ, ◌+ℤ◌, ◌-ℤ◌, ◌*ℤ◌}
use lib.Signed.{mag, ◌≤ℤ◌, ◌<ℤ◌, le_z, lt_z}
pub use Rattle.integers.specs.Parts.{up, dn}

-- z is a less b, and no part of it is above theirs
pub record Parts (z : ℤ) (a b : ℕ) : Type 0 where
  pub is : up z + b ≡ dn z + a
  pub most : up z ≤ a
  pub least : dn z ≤ b

-- ---- the absolute value

pub abs_parts : (z : ℤ) → nat_abs z ≡ up z + dn z
abs_parts (pos n) = omega arith
abs_parts (negsuc n) = omega arith

-- `mag` is the library's measure of a signed width: one less than the absolute value below 0
pub mag_parts : (z : ℤ) → (mag z ≤ up z + dn z) × (up z + dn z ≤ mag z + 1)
mag_parts (pos n) = omega arith
mag_parts (negsuc n) = omega arith

pub mag_below : (z : ℤ) (n : ℕ) → up z < n → dn z ≤ n → mag z < n
mag_below (pos a) n p m = p
mag_below (negsuc a) n p m = omega arith

-- ---- sums, negations, differences

of_sub : (a b : ℕ) (t : Bool) → ltb a b ≡ t → Parts (cond t (negsuc (b - suc a)) (pos (a - b))) a b
of_sub a b true e = omega (arith, ltb-true a b e)
of_sub a b false e = omega (arith, ltb-false a b e)

pub add_parts : (x y : ℤ) → Parts (x +ℤ y) (up x + up y) (dn x + dn y)
add_parts (pos a) (pos b) = omega arith
add_parts (pos a) (negsuc b) = let k : Parts (sub_ℕ a (suc b)) a (suc b) = of_sub a (suc b) (ltb a (suc b)) refl in omega arith
add_parts (negsuc a) (pos b) = let k : Parts (sub_ℕ b (suc a)) b (suc a) = of_sub b (suc a) (ltb b (suc a)) refl in omega arith
add_parts (negsuc a) (negsuc b) = omega arith

-- from the parts of the summands
pub plus : (x y : ℤ) {a b c d : ℕ} → Parts x a b → Parts y c d → Parts (x +ℤ y) (a + c) (b + d)
plus x y p q = omega (arith, add_parts x y)

pub neg_up : (z : ℤ) → up (neg_ℤ z) ≡ dn z
neg_up (pos zero) = refl
neg_up (pos (suc n)) = refl
neg_up (negsuc n) = refl

pub neg_dn : (z : ℤ) → dn (neg_ℤ z) ≡ up z
neg_dn (pos zero) = refl
neg_dn (pos (suc n)) = refl
neg_dn (negsuc n) = refl

pub sub_parts : (x y : ℤ) → Parts (x -ℤ y) (up x + dn y) (dn x + up y)
sub_parts x y = omega (arith, add_parts x (neg_ℤ y), neg_up y, neg_dn y)

-- ---- products

neg_pos : (n : ℕ) → Parts (neg_ℤ (pos n)) 0 n
neg_pos n = omega (arith, neg_up (pos n), neg_dn (pos n))

pub mul_parts : (x y : ℤ) → up (x *ℤ y) + (up x * dn y + dn x * up y) ≡ dn (x *ℤ y) + (up x * up y + dn x * dn y)
mul_parts (pos a) (pos b) = simp (mul-zero, zero-mul) (omega arith)
mul_parts (pos a) (negsuc b) = let k : Parts (neg_ℤ (pos (a * suc b))) 0 (a * suc b) = neg_pos (a * suc b) in simp (mul-zero, zero-mul) (omega arith)
mul_parts (negsuc a) (pos b) = let k : Parts (neg_ℤ (pos (suc a * b))) 0 (suc a * b) = neg_pos (suc a * b) in simp (mul-zero, zero-mul) (omega arith)
mul_parts (negsuc a) (negsuc b) = simp (mul-zero, zero-mul) (omega arith)

-- ---- equations and orders

pub ext : (x y : ℤ) → up x + dn y ≡ up y + dn x → x ≡ y
ext (pos a) (pos b) h = ap pos (omega arith)
ext (pos a) (negsuc b) h = absurd (omega arith)
ext (negsuc a) (pos b) h = absurd (omega arith)
ext (negsuc a) (negsuc b) h = ap negsuc (omega arith)

pub le_of : (x y : ℤ) → up x + dn y ≤ up y + dn x → x ≤ℤ y
le_of (pos a) (pos b) h = record { le = le→leb a b (omega arith) }
le_of (pos a) (negsuc b) h = absurd (omega arith)
le_of (negsuc a) (pos b) h = record { le = tt }
le_of (negsuc a) (negsuc b) h = record { le = le→leb b a (omega arith) }

pub lt_of : (x y : ℤ) → up x + dn y < up y + dn x → x <ℤ y
lt_of (pos a) (pos b) h = record { lt = lt→ltb a b (omega arith) }
lt_of (pos a) (negsuc b) h = absurd (omega arith)
lt_of (negsuc a) (pos b) h = record { lt = tt }
lt_of (negsuc a) (negsuc b) h = record { lt = lt→ltb b a (omega arith) }

pub le_parts : (x y : ℤ) → x ≤ℤ y → up x + dn y ≤ up y + dn x
le_parts (pos a) (pos b) h = omega (arith, leb→le a b h.le)
le_parts (pos a) (negsuc b) h = absurd h.le
le_parts (negsuc a) (pos b) h = omega arith
le_parts (negsuc a) (negsuc b) h = omega (arith, leb→le b a h.le)

pub lt_parts : (x y : ℤ) → x <ℤ y → up x + dn y < up y + dn x
lt_parts (pos a) (pos b) h = omega (arith, ltb→lt a b h.lt)
lt_parts (pos a) (negsuc b) h = absurd h.lt
lt_parts (negsuc a) (pos b) h = omega arith
lt_parts (negsuc a) (negsuc b) h = omega (arith, ltb→lt b a h.lt)

pub le_chain : (x y z : ℤ) → x ≤ℤ y → y ≤ℤ z → x ≤ℤ z
le_chain x y z h k = le_of x z (omega (arith, le_parts x y h, le_parts y z k))

-- ---- tests, as the code makes them

no : {X : Type 0} → false ≡ true → X
no h = absurd (let z : ◌≡◌ {A = ℕ} 0 1 = cc in omega arith)

pub less : (x y : ℤ) → lt_z x y ≡ true → up x + dn y < up y + dn x
less (pos a) (pos b) h = omega (arith, ltb-true a b h)
less (pos a) (negsuc b) h = no h
less (negsuc a) (pos b) h = omega arith
less (negsuc a) (negsuc b) h = omega (arith, ltb-true b a h)

pub not_less : (x y : ℤ) → lt_z x y ≡ false → up y + dn x ≤ up x + dn y
not_less (pos a) (pos b) h = omega (arith, ltb-false a b h)
not_less (pos a) (negsuc b) h = omega arith
not_less (negsuc a) (pos b) h = no (sym h)
not_less (negsuc a) (negsuc b) h = omega (arith, ltb-false b a h)

pub at_most : (x y : ℤ) → le_z x y ≡ true → up x + dn y ≤ up y + dn x
at_most (pos a) (pos b) h = omega (arith, leb-true a b h)
at_most (pos a) (negsuc b) h = no h
at_most (negsuc a) (pos b) h = omega arith
at_most (negsuc a) (negsuc b) h = omega (arith, leb-true b a h)

pub not_at_most : (x y : ℤ) → le_z x y ≡ false → up y + dn x < up x + dn y
not_at_most (pos a) (pos b) h = omega (arith, leb-false a b h)
not_at_most (pos a) (negsuc b) h = omega arith
not_at_most (negsuc a) (pos b) h = no (sym h)
not_at_most (negsuc a) (negsuc b) h = omega (arith, leb-false b a h)
