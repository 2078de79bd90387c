-- The arcs from x to h stand at the end of the list.
use mathlib.Core.Path.{◌≡◌, subst}
use Prim.Native.Nat.{ℕ, ◌≤◌}
use native.Mathlib.Omega.{arith}
use lib.ListN.{length, length-set}
use lib.Seq.{slice}
use Rattle.walks.specs.Lasso.{Stem}
use Rattle.lasso.proofs.Passing.{stem_on}
use Rattle.lasso.proofs.lay.stem.Goals as goal

pub loop-x-preserved : goal.loop-x-preserved
loop-x-preserved c =
    let in_path : c.loop-x.top ≤ length c.loop-x.path =
    omega (arith, c.loop-x.invariant.1.0, c.loop-x.invariant.1.1.1.0) in
    let ahead : c.loop-x.x ≤ c.loop-x.top =
    omega (arith, c.loop-x.invariant.1.1.0, c.requires.in_tree, c.requires.path_room) in
    let v = c.loop-x.invariant in
    let p = c.loop-x-test.true in
    let b = c.requires.is_tree.earlier c.loop-x.x v.0 p in (
      omega (arith, c.from-x.ensures, v.0),
      (
        simp length-set v.1.0,
        (
          omega (arith, c.from-x.ensures, v.1.1.0),
          (
            omega (arith, v.1.1.1.0),
            stem_on c.args.from.now c.args.tree.now c.loop-x.path
                (length c.args.tree.now) c.loop-x.x c.loop-x.top c.args.h c.from-x.result v.1.1.1.1 v.0 p (omega (arith, ahead)) in_path c.from-x.ensures,
          ),
        ),
      ),
    )

pub returns-clause-laid : goal.returns-clause-laid
returns-clause-laid c =
    let v = c.loop-x.invariant in
    let z : c.loop-x.x ≡ 0 = omega (arith, c.loop-x-test.false) in
    λ g. (
      subst (λ (x : ℕ). Stem c.args.from.now g.T g.m x (slice c.loop-x.top (length c.loop-x.path) c.loop-x.path) c.args.h) z (v.1.1.1.1 g).0,
      (v.1.1.1.1 g).1,
    )
