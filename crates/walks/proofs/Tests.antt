-- What the code reads back of signed values, and the ranges that a signed comparison tests.
use mathlib.Core.Path.{◌≡◌, ◌∙◌}
use mathlib.Core.Bool.{Bool, false}
use Prim.Native.Nat.{ℕ, suc, ◌+◌, ◌^◌, ◌≤◌, ◌<◌}
use native.Mathlib.Omega.{arith}
use lib.IntN.{ℤ, pos, negsuc, nat_abs}
use borrow.Author.Rules.{sfits_of}
use lib.Signed.{mag, lt_z, le_z, ◌≤ℤ◌}
use mir.Syntax.{w64}
use mir.Val.{SFits, to_z, of_z}
use mir.Facts.{to_z-of_z}
use Rattle.integers.proofs.Parts.{up, dn, abs_parts, le_of, le_parts, not_less, at_most, not_at_most}
use Rattle.walks.specs.Tests.{Test}

-- what is read back of a signed local
abbrev pub again : ℤ → ℤ
again z = to_z w64 (of_z w64 z)

-- a value that a slice or a call gave
pub fits : (z : ℤ) → mag z < 2 ^ 63 → SFits w64 z
fits z h = sfits_of {w = w64} {z = z} h

-- a value that was passed on
pub passed : {z : ℤ} (r : ℤ) → mag r < 2 ^ 63 → r ≡ z → again r ≡ z
passed r h p = to_z-of_z {w = w64} {z = r} (fits r h) ∙ p

-- ---- docs/PORT.md names these; no proof cites them

-- between two numbers
module _ (x low high : ℤ) (hx : SFits w64 x) (hl : SFits w64 low) where
  pub not_low : SFits w64 high → lt_z (again x) (again low) ≡ false → Test ((low ≤ℤ x) × (x ≤ℤ high)) (le_z (again x) (again high))
  not_low hh p = let q : lt_z x low ≡ false = simp to_z-of_z at p in simp to_z-of_z record {
    yes = λ z. (le_of low x (omega (arith, not_less x low q)), le_of x high (omega (arith, at_most x high z)));
    no = λ z a. omega (arith, not_at_most x high z, le_parts x high a.1);
  }

-- an absolute value
between : (k : ℕ) (x : ℤ) → dn x ≤ up x + suc k → up x ≤ dn x + suc k → nat_abs x ≤ suc k
between k (pos n) d u = omega arith
between k (negsuc n) d u = omega arith

pub range_test : (k : ℕ) (x : ℤ) {t : Bool} → mag x < 2 ^ 63 → Test ((negsuc k ≤ℤ again x) × (again x ≤ℤ pos (suc k))) t → Test (nat_abs x ≤ suc k) t
range_test k x {t} h q = let f : SFits w64 x = fits x h in let r : Test ((negsuc k ≤ℤ x) × (x ≤ℤ pos (suc k))) t = simp to_z-of_z at q in record {
  yes = λ z. between k x (omega (arith, le_parts (negsuc k) x (r.yes z).0)) (omega (arith, le_parts x (pos (suc k)) (r.yes z).1));
  no = λ z a. r.no z (le_of (negsuc k) x (omega (arith, abs_parts x)), le_of x (pos (suc k)) (omega (arith, abs_parts x)));
}
