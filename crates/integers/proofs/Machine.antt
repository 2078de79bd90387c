-- Signed machine words: what fits, and what is read back.
use mathlib.Core.Path.{◌≡◌, ap, sym, subst, ◌∙◌}
use Prim.Native.Nat.{ℕ, ◌^◌, ◌≤◌, ◌<◌}
use native.Mathlib.Omega.{arith}
use borrow.Author.Rules.{sfits_of}
use lib.IntN.{ℤ, nat_abs}
use mir.Syntax.{Width, w16, w64}
use mir.Val.{SFits, to_z, of_z}
use mir.ValLaws.{to_z-of_z}
use Rattle.integers.proofs.Parts.{abs_parts, mag_parts, mag_below}

-- a range, carried over an equation
pub carry : {w : Width} {x y : ℤ} → SFits w y → x ≡ y → SFits w x
carry {w} f e = subst (SFits w) (sym e) f

-- what the machine reads back of a value that fits
pub back : {w : Width} {x y : ℤ} → x ≡ y → SFits w y → to_z w (of_z w x) ≡ y
back {w} {y = y} e f = ap (λ (z : ℤ). to_z w (of_z w z)) e ∙ to_z-of_z w y f

pub small : (x : ℤ) (n : ℕ) → nat_abs x < n → n ≤ 2 ^ 63 → SFits w64 x
small x n h b = sfits_of (mag_below x (2 ^ 63) (omega (arith, abs_parts x)) (omega (arith, abs_parts x)))

-- a word of 16 bits, widened
module _ (z : ℤ) (fits : SFits w16 z) where
  in_64 : SFits w64 z
  in_64 = record { sfits = omega (arith, fits.sfits) }

  pub widened_fits : SFits w64 (to_z w16 (of_z w16 z))
  widened_fits = carry in_64 (to_z-of_z w16 z fits)

  pub widened : to_z w64 (of_z w64 (to_z w16 (of_z w16 z))) ≡ z
  widened = back (to_z-of_z w16 z fits) in_64

  pub widened_small : nat_abs (to_z w64 (of_z w64 (to_z w16 (of_z w16 z)))) ≤ 32768
  widened_small = rw widened (omega (arith, fits.sfits, abs_parts z, mag_parts z))
