-- The signed operations of the search, by their operands raised.
use mathlib.Core.Path.{◌≡◌, sym}
use mathlib.Core.List.{List}
use mathlib.Core.Bool.{Bool}
use Prim.Native.Nat.{ℕ, ◌+◌, ◌^◌, ◌≤◌, ◌<◌}
use native.Mathlib.Omega.{arith}
use lib.ListN.{length, set}
use lib.IntN.{ℤ, nat_abs, ◌+ℤ◌}
use lib.Signed.{mag, lt_z}
use mir.Syntax.{w64}
use mir.Val.{SFits}
use mir.Facts.{to_z-of_z}
use borrow.Author.Rules.{sfits_of}
use Rattle.integers.proofs.Parts.{Parts, abs_parts, mag_below, add_parts, less, not_less}
use Rattle.walks.specs.Walk.{at, atℤ}
use Rattle.walks.specs.SearchNumbers.{raised, raised_all, bias, start, most, deep, Sum, Less, TooLow}
use Rattle.walks.proofs.Tests.{again, fits}
use Rattle.walks.proofs.Raised.{at_raised, set_raised, raised_parts}

module _ (x y : ℤ) (hx : SFits w64 x) (hy : SFits w64 y) (a : start < raised start x + deep) (b : raised start x ≤ start + deep) (c : nat_abs y ≤ most) where
  px : Parts x (raised start x) start
  px = raised_parts start x (omega arith)

  py : Parts y (raised bias y) bias
  py = raised_parts bias y (omega (arith, abs_parts y))

  sum_fits' : SFits w64 (x +ℤ y)
  sum_fits' = sfits_of (mag_below (x +ℤ y) 9223372036854775808
      (omega (arith, add_parts x y, px, py, abs_parts y)) (omega (arith, add_parts x y, px, py, abs_parts y)))

  pub sum_fits : SFits w64 (again x +ℤ again y)
  sum_fits = simp to_z-of_z sum_fits'

  pub sum_is : Sum (raised start x) (raised bias y) (again (again x +ℤ again y))
  sum_is = let h : SFits w64 (x +ℤ y) = sum_fits' in simp to_z-of_z record { is = omega (arith, add_parts x y, px, py, abs_parts y) }

pub is_less : (x y : ℤ) → SFits w64 x → SFits w64 y → 0 < raised start y → Less (raised start x) (raised start y) (lt_z (again x) (again y))
is_less x y h k p = simp to_z-of_z record { yes = λ q. omega (arith, less x y q); no = λ q. omega (arith, not_less x y q) }

-- an element, read
pub elem : (c : ℕ) (l : List ℤ) (i : ℕ) → i < length l → mag (atℤ l i) < 2 ^ 63 → raised c (again (atℤ l i)) ≡ at (raised_all c l) i
elem c l i h k = let f : SFits w64 (atℤ l i) = fits (atℤ l i) k in simp to_z-of_z (sym (at_raised c l i h))

pub stored : (l : List ℤ) (i : ℕ) (z : ℤ) → SFits w64 z → raised_all start (set l i (again z)) ≡ set (raised_all start l) i (raised start z)
stored l i z h = simp to_z-of_z (set_raised start l i z)

pub is_too_low : (x : ℕ) (b : Bool) → Less x 3503599627370497 b → TooLow x b
is_too_low x b l = record { yes = λ p. omega (arith, l.yes p); no = λ p. omega (arith, l.no p) }
