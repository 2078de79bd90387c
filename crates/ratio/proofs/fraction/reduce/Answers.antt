-- Divided by the greatest common divisor, with the sign of the cost.
use mathlib.Core.Path.{◌≡◌, ap₂, subst, subst⁻¹, ◌∙◌}
use Prim.Native.Nat.{ℕ, ◌/◌, ◌<◌}
use borrow.Author.Rules.{sfits_of}
use lib.IntN.{ℤ, nat_abs}
use mir.Syntax.{w64}
use mir.Val.{to_z, of_z}
use mir.ValLaws.{to_z-of_z}
use Rattle.integers.specs.Lowest.{Gcd, signed_as}
use Rattle.integers.proofs.Reduction.{divisor_pos}
use Rattle.ratio.specs.Turns.{Reduced}
use Rattle.ratio.proofs.Bounds.{reduced}
use Rattle.ratio.proofs.fraction.reduce.Goals as goal

pub nonzero_div-n : goal.nonzero_div-n
nonzero_div-n c =
    let size : c.magnitude-n.result ≡ nat_abs c.args.cost =
    cc (to_z-of_z w64 c.args.cost c.ranges.cost) in
    let common : Gcd (nat_abs c.args.cost) c.args.reward c.gcd-g.result =
    subst (λ (n : ℕ). Gcd n c.args.reward c.gcd-g.result) size c.gcd-g.ensures in
    let positive : 0 < c.gcd-g.result =
    divisor_pos c.args.cost c.args.reward c.gcd-g.result common c.requires.earns in
    positive

pub nonzero_div-result : goal.nonzero_div-result
nonzero_div-result c =
    let size : c.magnitude-n.result ≡ nat_abs c.args.cost =
    cc (to_z-of_z w64 c.args.cost c.ranges.cost) in
    let common : Gcd (nat_abs c.args.cost) c.args.reward c.gcd-g.result =
    subst (λ (n : ℕ). Gcd n c.args.reward c.gcd-g.result) size c.gcd-g.ensures in
    let positive : 0 < c.gcd-g.result =
    divisor_pos c.args.cost c.args.reward c.gcd-g.result common c.requires.earns in
    positive

pub returns : goal.returns
returns c =
    let size : c.magnitude-n.result ≡ nat_abs c.args.cost =
    cc (to_z-of_z w64 c.args.cost c.ranges.cost) in
    let common : Gcd (nat_abs c.args.cost) c.args.reward c.gcd-g.result =
    subst (λ (n : ℕ). Gcd n c.args.reward c.gcd-g.result) size c.gcd-g.ensures in
    let a = c.args in
    let g = c.gcd-g.result in
    let numerator : to_z w64 (of_z w64 c.with_sign-p.result) ≡ signed_as (nat_abs a.cost / g) a.cost =
    to_z-of_z w64 c.with_sign-p.result (sfits_of c.with_sign-p.type_inv) ∙ c.with_sign-p.ensures
    ∙ ap₂ (λ (n : ℕ) (z : ℤ). signed_as (n / g) z) size (to_z-of_z w64 a.cost c.ranges.cost) in
    subst⁻¹ (λ (p : ℤ). Reduced a.cost a.reward p (a.reward / g)) numerator (reduced a.cost a.reward g common c.requires.earns)
