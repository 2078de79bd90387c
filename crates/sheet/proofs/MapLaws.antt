-- The count of ones of a masked map gives the place of a field.
use mathlib.Core.Path.{◌≡◌, refl, ap, ◌∙◌}
use Prim.Native.Nat.{ℕ, zero, suc, ◌+◌, ◌-◌, ◌*◌, ◌/◌, ◌%◌, ◌^◌, ◌≤◌, ◌<◌}
use native.Mathlib.Nat.{mod-lt, mod-one, one-mul, mod-eq_of_lt, pow-succ', add_comm}
use native.Mathlib.Omega.{arith}
use lib.Arith.{mod-mul}
use lib.Bits.{bit_and, and_mask}
use lib.Count.{ones, ones_in, ones_cat}
use lib.Dec.{lit<}
use lib.Pow.{pow_pos, mod-mod-pow, shl_exact}
use Rattle.sheet.specs.Maps.{bit_of, place_of}

ones_bit : (d : ℕ) → d < 2 → ones d ≡ d
unfolding ones ones_in
ones_bit zero h = refl
ones_bit (suc zero) h = refl
ones_bit (suc (suc d)) h = absurd (omega arith)

-- one bit more
pub ones_mod : (n k : ℕ) → ones (n % 2 ^ suc k) ≡ ones (n % 2 ^ k) + bit_of n k
ones_mod n k =
    ap (λ (x : ℕ). ones (n % x)) (pow-succ' 2 k) ∙ ap ones (mod-mul n {m = 2} {c = 2 ^ k} (lit< tt) (pow_pos k))
    ∙ ones_cat k (bit_of n k) (n % 2 ^ k) (mod-lt n (pow_pos k))
    ∙ ap (λ (x : ℕ). x + ones (n % 2 ^ k)) (ones_bit (bit_of n k) (mod-lt (n / 2 ^ k) (lit< tt)))
    ∙ add_comm (bit_of n k) (ones (n % 2 ^ k))

-- the digits below 2 ^ b, and of these the lowest two once more
twice : ℕ → ℕ → ℕ
twice m b = ones (m % 2 ^ b) + ones (m % 2 ^ b % 4)

low_two : (m b : ℕ) → m % 2 ^ suc (suc b) % 4 ≡ m % 4
low_two m b =
    let e : suc (suc b) ≡ b + 2 = omega arith in
    ap (λ (x : ℕ). m % 2 ^ x % 4) e ∙ mod-mod-pow m b 2

no_ones : (m : ℕ) → ones (m % 1) ≡ 0
unfolding ones ones_in
no_ones m = ap ones (mod-one m)

low : (m : ℕ) → m % 2 < 4
low m = omega arith

twice_place : (m b : ℕ) → twice m b ≡ place_of m b
unfolding twice place_of ones ones_in
twice_place m zero = ap (λ (x : ℕ). ones x + ones (x % 4)) (mod-one m)
twice_place m (suc zero) =
    ap (λ (x : ℕ). ones (m % 2) + ones x) (mod-eq_of_lt (low m))
    ∙ omega (arith, ones_mod m 0, no_ones m)
twice_place m (suc (suc zero)) =
    ap (λ (x : ℕ). ones (m % 4) + ones x) (mod-eq_of_lt (mod-lt m {m = 4} (lit< tt)))
    ∙ omega (arith, ones_mod m 1, ones_mod m 0, no_ones m)
twice_place m (suc (suc (suc b))) =
    omega (arith, ones_mod m (suc (suc b)), twice_place m (suc (suc b)), ap ones (low_two m (suc b)), ap ones (low_two m b))

-- a shift of 1 is a power, at each width
pub one_shl : (w b : ℕ) → b < w → 1 * 2 ^ b % 2 ^ w ≡ 2 ^ b
one_shl w b h = shl_exact {a = 1} 1 b w (lit< tt) (omega arith) ∙ one-mul (2 ^ b)

pub counted : (m b : ℕ) → ones (bit_and m (2 ^ b - 1)) + ones (bit_and (bit_and m (2 ^ b - 1)) 3) ≡ place_of m b
unfolding twice
counted m b = ap (λ (x : ℕ). ones x + ones (bit_and x 3)) (and_mask m b)
    ∙ ap (λ (x : ℕ). ones (m % 2 ^ b) + ones x) (and_mask (m % 2 ^ b) 2) ∙ twice_place m b

bit_le : (m b : ℕ) → bit_of m b ≤ 1
bit_le m b = omega (arith, mod-lt (m / 2 ^ b) {m = 2} (lit< tt))

pub place_le : (m b : ℕ) → place_of m b ≤ b + 2
unfolding place_of
place_le m zero = omega arith
place_le m (suc zero) = omega (arith, bit_le m 0)
place_le m (suc (suc zero)) = omega (arith, bit_le m 0, bit_le m 1)
place_le m (suc (suc (suc b))) = omega (arith, bit_le m (suc (suc b)), place_le m (suc (suc b)))
