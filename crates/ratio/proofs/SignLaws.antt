-- A natural number with the sign of another.
use mathlib.Core.Path.{◌≡◌, refl, sym}
use mathlib.Core.Bool.{true, false}
use Prim.Native.Nat.{ℕ}
use native.Mathlib.Omega.{arith}
use borrow.Author.Tests.{ltb-true}
use lib.IntN.{ℤ, pos, negsuc, neg_ℤ}
use lib.Signed.{lt_z}
use Rattle.integers.specs.Lowest.{signed_as}

no : {X : Type 0} → false ≡ true → X
no h = absurd (let z : ◌≡◌ {A = ℕ} 0 1 = cc in omega arith)

pub as_negative : (n : ℕ) (z : ℤ) → lt_z z (pos 0) ≡ true → neg_ℤ (pos n) ≡ signed_as n z
as_negative n (pos m) h = absurd (omega (arith, ltb-true m 0 h))
as_negative n (negsuc m) h = refl

pub as_positive : (n : ℕ) (z : ℤ) → lt_z z (pos 0) ≡ false → pos n ≡ signed_as n z
as_positive n (pos m) h = refl
as_positive n (negsuc m) h = no (sym h)
