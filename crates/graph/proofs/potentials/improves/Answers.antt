-- `graph::potentials::improves` meets its contract.
use mathlib.Core.Path.{◌≡◌}
use mathlib.Core.Bool.{Bool}
use Prim.Native.Nat.{ℕ}
use lib.IntN.{ℤ}
use mir.Syntax.{w64}
use mir.Val.{SFits}
use mir.Facts.{to_z-of_z}
use Rattle.walks.specs.Walk.{at, atℤ}
use Rattle.walks.specs.SearchNumbers.{start, raised, raised_all, Less}
use Rattle.walks.proofs.Tests.{again}
use Rattle.walks.proofs.Signed.{elem}
use Rattle.graph.proofs.potentials.improves.Goals as goal

both : (x : ℤ) (y z : ℕ) (b : Bool) → SFits w64 x → y ≡ z → Less (raised start (again x)) y b → Less (raised start x) z b
both x y z b h p l = rw p at (simp to_z-of_z at l)

pub less-requires : goal.less-requires
less-requires c =
    let E : raised start (again (atℤ c.args.potential.now c.args.v)) ≡ at (raised_all start c.args.potential.now) c.args.v =
    elem start c.args.potential.now c.args.v c.requires.in_list c.y-1.given in
    rw E c.requires.found

pub returns : goal.returns
returns c =
    let E : raised start (again (atℤ c.args.potential.now c.args.v)) ≡ at (raised_all start c.args.potential.now) c.args.v =
    elem start c.args.potential.now c.args.v c.requires.in_list c.y-1.given in
    both _ _ _ _ c.ranges.x E c.less.ensures
