-- Fractions in lowest terms.
use Rattle.std.specs.Prelude.{◌≡◌, ℕ, ◌<◌, ℤ, pos, negsuc, neg_ℤ, nat_abs}
use Rattle.std.specs.Int.{◌∣◌}

-- n, with the sign of z
abbrev pub signed_as : ℕ → ℤ → ℤ
signed_as n (pos m) = pos n
signed_as n (negsuc m) = neg_ℤ (pos n)

-- g is the greatest common divisor of a and b
pub record Gcd (a b g : ℕ) : Type 0 where
  pub left : g ∣ a
  pub right : g ∣ b
  pub greatest : (d : ℕ) → d ∣ a → d ∣ b → d ∣ g

-- "the ratio p/q in lowest terms with q ≥ 1 (zero is 0/1)"
pub record Lowest (p : ℤ) (q : ℕ) : Type 0 where
  pub positive : 0 < q
  pub coprime : (d : ℕ) → d ∣ nat_abs p → d ∣ q → d ≡ 1
