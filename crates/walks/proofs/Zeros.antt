-- How many entries of a list are zero, and facts about all numbers but one.
use mathlib.Core.Path.{◌≡◌, refl, sym, ap, subst}
use mathlib.Core.Logic.{◌≢◌}
use mathlib.Core.List.{List, [], ◌∷◌}
use Prim.Native.Nat.{ℕ, zero, suc, ◌≤◌, ◌<◌}
use native.Mathlib.Omega.{arith}
use native.Mathlib.Decide.{ℕ_discrete}
use native.Mathlib.Nat.{le_of_suc-le-suc, not-suc-le-zero}
use lib.ListN.{length, set, replicate}
use Rattle.walks.specs.Walk.{at}
use Rattle.walks.specs.SearchTerms.{zero_count}

-- what holds at v and at each other number holds at all
pub split : (P : ℕ → Type 0) (v : ℕ) → P v → ((j : ℕ) → j ≢ v → P j) → (j : ℕ) → P j
split P v here there j = elim (ℕ_discrete j v) [ yes p ↦ subst P (sym p) here | no q ↦ there j q ]

pub zeros_le : (l : List ℕ) → zero_count l ≤ length l
zeros_le [] = omega arith
zeros_le (zero ∷ l) = omega (arith, zeros_le l)
zeros_le (suc a ∷ l) = omega (arith, zeros_le l)

pub zeros_replicate : (n : ℕ) → zero_count (replicate n 0) ≡ n
zeros_replicate zero = refl
zeros_replicate (suc n) = ap suc (zeros_replicate n)

-- a store over a zero, and over another number
pub zeros_set : (l : List ℕ) (i a : ℕ) → i < length l → at l i ≡ 0 → zero_count l ≡ suc (zero_count (set l i (suc a)))
zeros_set [] i a h z = absurd (not-suc-le-zero h)
zeros_set (zero ∷ l) zero a h z = refl
zeros_set (suc x ∷ l) zero a h z = absurd (let q : suc x ≡ 0 = z in omega arith)
zeros_set (zero ∷ l) (suc i) a h z = ap suc (zeros_set l i a (le_of_suc-le-suc h) z)
zeros_set (suc x ∷ l) (suc i) a h z = zeros_set l i a (le_of_suc-le-suc h) z

pub zeros_keep : (l : List ℕ) (i a : ℕ) → i < length l → at l i ≢ 0 → zero_count (set l i (suc a)) ≡ zero_count l
zeros_keep [] i a h z = absurd (not-suc-le-zero h)
zeros_keep (zero ∷ l) zero a h z = absurd (z refl)
zeros_keep (suc x ∷ l) zero a h z = refl
zeros_keep (zero ∷ l) (suc i) a h z = ap suc (zeros_keep l i a (le_of_suc-le-suc h) z)
zeros_keep (suc x ∷ l) (suc i) a h z = zeros_keep l i a (le_of_suc-le-suc h) z
