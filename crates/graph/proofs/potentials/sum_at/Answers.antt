-- `graph::potentials::sum_at` meets its contract.
use mathlib.Core.Path.{◌≡◌}
use Prim.Native.Nat.{ℕ, ◌≤◌}
use lib.IntN.{ℤ, nat_abs}
use mir.Syntax.{w64}
use mir.Val.{SFits}
use mir.Facts.{to_z-of_z}
use Rattle.walks.specs.Walk.{at, atℤ}
use Rattle.walks.specs.SearchNumbers.{raised, raised_all, start, bias, Sum}
use Rattle.walks.proofs.Tests.{again, fits}
use Rattle.walks.proofs.Signed.{elem}
use Rattle.graph.proofs.potentials.sum_at.Goals as goal

same : (w : ℤ) (n : ℕ) → SFits w64 w → nat_abs w ≤ n → nat_abs (again w) ≤ n
same w n f h = simp to_z-of_z h

both : (x u : ℕ) (w r : ℤ) → SFits w64 r → SFits w64 w → x ≡ u → Sum x (raised bias (again w)) r → Sum u (raised bias w) (again r)
both x u w r h f p s = simp to_z-of_z (rw p at (simp to_z-of_z at s))

pub add-requires-clause-low : goal.add-requires-clause-low
add-requires-clause-low c = rw (elem start c.args.potential.now c.args.u c.requires.in_list c.x-1.given) c.requires.low

pub add-requires-clause-high : goal.add-requires-clause-high
add-requires-clause-high c = rw (elem start c.args.potential.now c.args.u c.requires.in_list c.x-1.given) c.requires.high

pub returns : goal.returns
returns c =
    let X : raised start (again (atℤ c.args.potential.now c.args.u)) ≡ at (raised_all start c.args.potential.now) c.args.u =
    elem start c.args.potential.now c.args.u c.requires.in_list c.x-1.given in
    both _ _ _ _ (fits c.add.result c.add.type_inv) c.ranges.w X c.add.ensures
