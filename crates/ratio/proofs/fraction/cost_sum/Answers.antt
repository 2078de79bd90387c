-- The sum of the arcs passed.
use mathlib.Core.Path.{◌≡◌, sym, ap₂, ◌∙◌}
use Prim.Native.Nat.{◌≤◌}
use native.Mathlib.Omega.{arith}
use lib.IntN.{nat_abs, ◌+ℤ◌}
use mir.Syntax.{w64}
use mir.Val.{to_z}
use Rattle.std.proofs.Common.{rules}
use Rattle.walks.specs.Walk.{at, atℤ}
use Rattle.ratio.proofs.SumLaws.{sum_more, sum_again, sum_bound}
use Rattle.ratio.proofs.fraction.cost_sum.Goals as goal

pub loop-e-preserved : goal.loop-e-preserved
loop-e-preserved c =
    let l = c.loop-e in
    let x = to_z w64 l.z-bits in
    let y = c.from-z.result in
    let is : y ≡ atℤ c.args.cost.now (at c.args.cycle.now l.e-index) = search rules in
    let low : nat_abs y ≤ 32768 = search rules in
    let few : l.e-index ≤ 2048 = omega (arith, c.requires.few, c.loop-e-test.true) in
    let e = sum_again x y l.e-index few l.invariant.1 low in (
      e ∙ ap₂ ◌+ℤ◌ l.invariant.0 is ∙ sym (sum_more c.args.cycle.now l.e-index c.loop-e-test.true (atℤ c.args.cost.now)),
      rw e (sum_bound x y l.e-index few l.invariant.1 low),
    )
