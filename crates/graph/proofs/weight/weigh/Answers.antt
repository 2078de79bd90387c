-- No product and no sum leaves 64 bits.
use mathlib.Core.Path.{◌≡◌, refl}
use Prim.Native.Nat.{◌≤◌}
use native.Mathlib.Omega.{arith}
use lib.IntN.{ℤ, nat_abs, ◌+ℤ◌, ◌*ℤ◌}
use mir.Syntax.{w64}
use mir.Val.{SFits}
use mir.Facts.{to_z-of_z}
use Rattle.integers.proofs.Machine.{small}
use Rattle.walks.specs.Form.{CoefficientsInRange}
use Rattle.walks.proofs.Tests.{again}
use Rattle.walks.proofs.Weights.{cost_part, reward_part, both_parts, all_parts}
use Rattle.graph.proofs.weight.weigh.Goals as goal

fit : (z : ℤ) → nat_abs z ≤ 409600010001 → SFits w64 z
fit z h = small z 409600010002 (omega arith) (omega arith)

module _ (a b c x y : ℤ) (k : CoefficientsInRange a b c) (hx : nat_abs x ≤ 10000) (hy : nat_abs y ≤ 10000) where
  fa : SFits w64 a
  fa = fit a (omega (arith, k.a_small))

  fb : SFits w64 b
  fb = fit b (omega (arith, k.b_small))

  fc : SFits w64 c
  fc = fit c (omega (arith, k.c_small))

  fx : SFits w64 x
  fx = fit x (omega arith)

  fy : SFits w64 y
  fy = fit y (omega arith)

  fit_cost : SFits w64 (a *ℤ x)
  fit_cost = fit _ (omega (arith, cost_part a b c x y k hx hy))

  fit_reward : SFits w64 (b *ℤ y)
  fit_reward = fit _ (omega (arith, reward_part a b c x y k hx hy))

  fit_both : SFits w64 (a *ℤ x +ℤ b *ℤ y)
  fit_both = fit _ (omega (arith, both_parts a b c x y k hx hy))

  fit_all : SFits w64 (a *ℤ x +ℤ b *ℤ y +ℤ c)
  fit_all = fit _ (all_parts a b c x y k hx hy)

  sum_fits : SFits w64 (again (again a *ℤ again x) +ℤ again (again b *ℤ again y))
  sum_fits = let a' = fa in let b' = fb in let x' = fx in let y' = fy in let p = fit_cost in let q = fit_reward in simp to_z-of_z fit_both

  all_fits : SFits w64 (again (again (again a *ℤ again x) +ℤ again (again b *ℤ again y)) +ℤ again c)
  all_fits = let a' = fa in let b' = fb in let c' = fc in let x' = fx in let y' = fy in let p = fit_cost in let q = fit_reward in let s = fit_both in
      simp to_z-of_z fit_all

  all_is : again (again (again (again a *ℤ again x) +ℤ again (again b *ℤ again y)) +ℤ again c) ≡ a *ℤ x +ℤ b *ℤ y +ℤ c
  all_is = let a' = fa in let b' = fb in let c' = fc in let x' = fx in let y' = fy in let p = fit_cost in let q = fit_reward in let s = fit_both in
      let t = fit_all in simp to_z-of_z refl

pub overflow_add-result : goal.overflow_add-result
overflow_add-result c = sum_fits _ _ _ c.args.x c.args.y c.requires.in_range c.requires.x_small c.requires.y_small

pub overflow_add-result-2 : goal.overflow_add-result-2
overflow_add-result-2 c = all_fits _ _ _ c.args.x c.args.y c.requires.in_range c.requires.x_small c.requires.y_small

pub returns : goal.returns
returns c = all_is _ _ _ c.args.x c.args.y c.requires.in_range c.requires.x_small c.requires.y_small
