-- Sums over the first arcs of a list, one more at a time, and the signed words that hold them.
use mathlib.Core.Path.{◌≡◌, refl, ap, ◌∙◌}
use mathlib.Core.List.{List, [], ◌∷◌, ◌++◌}
use Prim.Native.Nat.{ℕ, ◌+◌, ◌*◌, ◌≤◌, ◌<◌}
use native.Mathlib.Numerals.{add-one}
use native.Mathlib.Omega.{arith}
use lib.ListN.{length, take}
use lib.Seq.{take-suc}
use lib.IntN.{ℤ, nat_abs, ◌+ℤ◌, +ℤ_idr}
use mir.Syntax.{w64}
use mir.Val.{SFits, to_z, of_z}
use mir.Facts.{to_z-of_z}
use Rattle.integers.proofs.Products.{abs_add}
use Rattle.integers.proofs.Machine.{small}
use Rattle.walks.specs.Walk.{at}
use Rattle.walks.specs.Weight.{sum, total}
use Rattle.walks.proofs.Weights.{sum-append, total_append}

module _ (c : List ℕ) (i : ℕ) (h : i < length c) where
  one_more : take (i + 1) c ≡ take i c ++ (at c i ∷ [])
  one_more = rw (add-one, take-suc c i 0) refl

  pub total_more : (f : ℕ → ℕ) → total f (take (i + 1) c) ≡ total f (take i c) + f (at c i)
  total_more f = ap (total f) one_more ∙ total_append f (take i c) (at c i ∷ []) ∙ omega arith

  pub sum_more : (f : ℕ → ℤ) → sum f (take (i + 1) c) ≡ sum f (take i c) +ℤ f (at c i)
  sum_more f = ap (sum f) one_more ∙ sum-append f (take i c) (at c i ∷ []) ∙ ap (λ (z : ℤ). sum f (take i c) +ℤ z) (+ℤ_idr (f (at c i)))

-- what is read back of a signed local
abbrev pub again : ℤ → ℤ
again z = to_z w64 (of_z w64 z)

-- x, the sum of j entries before, and y, an entry
module _ (x y : ℤ) (j : ℕ) (hj : j ≤ 2048) (hx : nat_abs x ≤ 32768 * j) (hy : nat_abs y ≤ 32768) where
  entry_fits : SFits w64 y
  entry_fits = small y 65536 (omega arith) (omega arith)

  sum_fits : SFits w64 (x +ℤ y)
  sum_fits = small (x +ℤ y) 1073741824 (omega (arith, abs_add x y)) (omega arith)

  pub sum_again : again (x +ℤ again y) ≡ x +ℤ y
  sum_again = let f = entry_fits in let g = sum_fits in simp to_z-of_z refl

  pub sum_bound : nat_abs (x +ℤ y) ≤ 32768 * (j + 1)
  sum_bound = omega (arith, abs_add x y)
