-- Laws on the weights of walks.
use mathlib.Core.Path.{◌≡◌, refl, sym, ap, ◌∙◌}
use mathlib.Core.Logic.{⊎_elim}
use mathlib.Core.List.{List, [], ◌∷◌, ◌++◌}
use Prim.Native.Nat.{ℕ, ◌+◌, ◌*◌, ◌≤◌, ◌<◌}
use native.Mathlib.Omega.{arith}
use native.Mathlib.Nat.{mul-le-mul}
use lib.ListN.{length}
use lib.IntN.{ℤ, pos, nat_abs, ◌+ℤ◌, ◌*ℤ◌, *ℤ-zero, zero-*ℤ, +ℤ_assoc, +ℤ_idr}
use lib.Signed.{◌≤ℤ◌}
use Rattle.integers.proofs.Parts.{ext, le_of, le_parts, add_parts}
use Rattle.integers.proofs.Products.{abs_add, abs_mul, mul-sum, times_suc}
use Rattle.walks.specs.Walk.{at, atℤ, ArcWalk, Reached}
use Rattle.walks.specs.Weight.{weight_of, sum, total, NoneNegative, LeastWeight, PotentialOrMark}
use Rattle.walks.specs.Form.{CoefficientsInRange}
use Rattle.walks.proofs.Walks.{walk_append}

pub sum-append : (weight : ℕ → ℤ) (p c : List ℕ) → sum weight (p ++ c) ≡ sum weight p +ℤ sum weight c
sum-append weight [] c = ext _ _ (omega (arith, add_parts (pos 0) (sum weight c)))
sum-append weight (e ∷ p) c =
    ap (λ (z : ℤ). weight e +ℤ z) (sum-append weight p c) ∙ sym (+ℤ_assoc (weight e) (sum weight p) (sum weight c))

pub total_append : (W : ℕ → ℕ) (c d : List ℕ) → total W (c ++ d) ≡ total W c + total W d
total_append W [] d = omega arith
total_append W (e ∷ c) d = omega (arith, total_append W c d)

pub sum_pos : (R : ℕ → ℕ) (c : List ℕ) → sum (λ e. pos (R e)) c ≡ pos (total R c)
sum_pos R [] = refl
sum_pos R (e ∷ c) = ap (λ (z : ℤ). pos (R e) +ℤ z) (sum_pos R c)

-- the weight of a walk, by its cost and its reward and the number of its arcs
module _ (a b c : ℤ) (cost : List ℤ) (reward : List ℕ) where
  abbrev by_parts : List ℕ → ℤ
  by_parts l = a *ℤ sum (atℤ cost) l +ℤ b *ℤ pos (total (at reward) l) +ℤ pos (length l) *ℤ c

  shuffle : (p q r x y z : ℤ) → (p +ℤ q +ℤ r) +ℤ (x +ℤ y +ℤ z) ≡ (p +ℤ x) +ℤ (q +ℤ y) +ℤ (z +ℤ r)
  shuffle p q r x y z = ext _ _ (omega (
    arith,
    add_parts p q,
    add_parts (p +ℤ q) r,
    add_parts x y,
    add_parts (x +ℤ y) z,
    add_parts (p +ℤ q +ℤ r) (x +ℤ y +ℤ z),
    add_parts p x,
    add_parts q y,
    add_parts z r,
    add_parts (p +ℤ x) (q +ℤ y),
    add_parts ((p +ℤ x) +ℤ (q +ℤ y)) (z +ℤ r),
  ))

  pub weight_sum : (l : List ℕ) → sum (weight_of a b c cost reward) l ≡ by_parts l
  weight_sum [] = rw (*ℤ-zero a, *ℤ-zero b, zero-*ℤ c) refl
  weight_sum (e ∷ l) =
      let i : sum (weight_of a b c cost reward) l ≡ by_parts l = weight_sum l in
      rw (i, mul-sum a (atℤ cost e) (sum (atℤ cost) l), mul-sum b (pos (at reward e)) (pos (total (at reward) l)), times_suc (length l) c)
      (shuffle (a *ℤ atℤ cost e) (b *ℤ pos (at reward e)) c (a *ℤ sum (atℤ cost) l) (b *ℤ pos (total (at reward) l)) (pos (length l) *ℤ c))

-- the same, where an arc itself weighs nothing
pub weight_sum_0 : (a b : ℤ) (cost : List ℤ) (reward l : List ℕ)
    → sum (weight_of a b (pos 0) cost reward) l ≡ a *ℤ sum (atℤ cost) l +ℤ b *ℤ pos (total (at reward) l)
weight_sum_0 a b cost reward l = let z = a *ℤ sum (atℤ cost) l +ℤ b *ℤ pos (total (at reward) l) in
    weight_sum a b (pos 0) cost reward l ∙ ap (λ (y : ℤ). z +ℤ y) (*ℤ-zero (pos (length l))) ∙ +ℤ_idr z

-- ---- how large a weight is
mul_small : (x y : ℤ) (m n : ℕ) → nat_abs x ≤ m → nat_abs y ≤ n → nat_abs (x *ℤ y) ≤ m * n
mul_small x y m n h k = rw (abs_mul x y) (mul-le-mul h k)

module _ (a b c x y : ℤ) (k : CoefficientsInRange a b c) (hx : nat_abs x ≤ 10000) (hy : nat_abs y ≤ 10000) where
  pub cost_part : nat_abs (a *ℤ x) ≤ 204800000000
  cost_part = mul_small a x 20480000 10000 k.a_small hx

  pub reward_part : nat_abs (b *ℤ y) ≤ 204800010000
  reward_part = mul_small b y 20480001 10000 k.b_small hy

  pub both_parts : nat_abs (a *ℤ x +ℤ b *ℤ y) ≤ 409600010000
  both_parts = omega (arith, cost_part, reward_part, abs_add (a *ℤ x) (b *ℤ y))

  pub all_parts : nat_abs (a *ℤ x +ℤ b *ℤ y +ℤ c) ≤ 409600010001
  all_parts = omega (arith, both_parts, abs_add (a *ℤ x +ℤ b *ℤ y) c, k.c_small)

-- ---- where there are potentials, no cycle that a walk from node 0 reaches has negative weight
module _ (F T : List ℕ) (m : ℕ) (weight : ℕ → ℤ) where
  pub least_cycle : (x : ℕ) (z : ℤ) → LeastWeight F T m weight x z → (c : List ℕ) → ArcWalk F T m x c x → pos 0 ≤ℤ sum weight c
  least_cycle x z s c w =
      let l : z ≤ℤ sum weight (s.path ++ c) = s.least (s.path ++ c) (walk_append F T m 0 s.path x c x s.walk w) in
      let q : sum weight (s.path ++ c) ≡ z +ℤ sum weight c = sum-append weight s.path c ∙ ap (λ (k : ℤ). k +ℤ sum weight c) s.weighs in
      le_of (pos 0) (sum weight c) (omega (arith, add_parts z (sum weight c), le_parts z (z +ℤ sum weight c) (rw q at l)))

  -- the potential of a node that is reached
  pub least_of_lem : (v : ℕ) (z : ℤ) → PotentialOrMark F T m weight v z → Reached F T m v → LeastWeight F T m weight v z × (nat_abs z < 1000000000000000)
  least_of_lem v z p r = ⊎_elim (λ q. absurd (q.1 r)) (λ q. q) p

  pub none_negative : (n : ℕ) (D : ℕ → ℤ) → ((x : ℕ) → Reached F T m x → x < n) → ((v : ℕ) → v < n → PotentialOrMark F T m weight v (D v))
      → NoneNegative F T m weight
  none_negative n D inside p x c r k = least_cycle x (D x) (least_of_lem x (D x) (p x (inside x r)) r).0 c k.walk
