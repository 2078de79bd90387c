-- Laws on signed numbers raised to natural ones.
use mathlib.Core.Path.{◌≡◌, refl, ap}
use mathlib.Core.List.{List, [], ◌∷◌}
use Prim.Native.Nat.{ℕ, zero, suc, ◌+◌, ◌<◌}
use native.Mathlib.Omega.{arith}
use native.Mathlib.Nat.{le_of_suc-le-suc, not-suc-le-zero}
use lib.ListN.{length, set, replicate}
use lib.IntN.{ℤ, pos, negsuc, nat_abs}
use Rattle.integers.proofs.Parts.{Parts}
use Rattle.walks.specs.Walk.{at, atℤ}
use Rattle.walks.specs.SearchNumbers.{raised, raised_all}

pub length_raised : (c : ℕ) (l : List ℤ) → length (raised_all c l) ≡ length l
unfolding raised_all
length_raised c [] = refl
length_raised c (z ∷ l) = ap suc (length_raised c l)

pub at_raised : (c : ℕ) (l : List ℤ) (i : ℕ) → i < length l → at (raised_all c l) i ≡ raised c (atℤ l i)
unfolding raised_all
at_raised c [] i h = absurd (not-suc-le-zero h)
at_raised c (z ∷ l) zero h = refl
at_raised c (z ∷ l) (suc i) h = at_raised c l i (le_of_suc-le-suc h)

pub set_raised : (c : ℕ) (l : List ℤ) (i : ℕ) (z : ℤ) → raised_all c (set l i z) ≡ set (raised_all c l) i (raised c z)
unfolding raised_all
set_raised c [] i z = refl
set_raised c (x ∷ l) zero z = refl
set_raised c (x ∷ l) (suc i) z = ap (λ (r : List ℕ). raised c x ∷ r) (set_raised c l i z)

pub raised_replicate : (c n : ℕ) (z : ℤ) → raised_all c (replicate n z) ≡ replicate n (raised c z)
unfolding raised_all
raised_replicate c zero z = refl
raised_replicate c (suc n) z = ap (λ (r : List ℕ). raised c z ∷ r) (raised_replicate c n z)

-- a number above −c
pub raised_parts : (c : ℕ) (z : ℤ) → 0 < raised c z → Parts z (raised c z) c
raised_parts c (pos n) h = omega arith
raised_parts c (negsuc n) h = omega arith

-- a number between −k and k
pub raised_abs : (c k : ℕ) (z : ℤ) → 0 < raised c z → c < raised c z + k → raised c z < c + k → nat_abs z < k
raised_abs c k (pos n) p h l = omega arith
raised_abs c k (negsuc n) p h l = omega arith
