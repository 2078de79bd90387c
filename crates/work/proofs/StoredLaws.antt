-- Lists with entries stored from a place on: one part after another, and over zeros.
use mathlib.Core.Path.{◌≡◌, ap, ◌∙◌}
use mathlib.Core.List.{List, [], ◌∷◌, ◌++◌}
use Prim.Native.Nat.{ℕ, zero, suc, ◌+◌, ◌-◌, ◌≤◌}
use native.Mathlib.Nat.{zero-add, add-zero}
use native.Mathlib.Omega.{arith}
use lib.ListN.{length, set, drop, replicate, length-replicate}
use lib.Seq.{sets, sets-eq}

pub stored_then : (l : List ℕ) (k : ℕ) (xs ys : List ℕ) → sets (sets l k xs) (k + length xs) ys ≡ sets l k (xs ++ ys)
stored_then l k [] ys = ap (λ (j : ℕ). sets l j ys) (add-zero k)
stored_then l k (x ∷ xs) ys = let e : k + suc (length xs) ≡ suc k + length xs = omega arith in
    ap (λ (j : ℕ). sets (sets (set l k x) (suc k) xs) j ys) e ∙ stored_then (set l k x) (suc k) xs ys

zeros : ℕ → List ℕ
zeros n = replicate n 0

drop_zeros : (j n : ℕ) → drop j (zeros n) ≡ zeros (n - j)
unfolding zeros
drop_zeros zero n = let e : n ≡ n - 0 = omega arith in ap zeros e
drop_zeros (suc j) zero = let e : 0 ≡ 0 - suc j = omega arith in ap zeros e
drop_zeros (suc j) (suc n) = let e : n - j ≡ suc n - suc j = omega arith in drop_zeros j n ∙ ap zeros e

pub over_zeros : (xs : List ℕ) (n : ℕ) → length xs ≤ n → sets (replicate n 0) 0 xs ≡ xs ++ replicate (n - length xs) 0
unfolding zeros
over_zeros xs n h = sets-eq xs (zeros n) 0 (omega (arith, length-replicate {A = ℕ} n 0))
    ∙ ap (λ (l : List ℕ). xs ++ l) (ap (λ (j : ℕ). drop j (zeros n)) (zero-add (length xs)) ∙ drop_zeros (length xs) n)
