-- The lasso of the fronts is one of the whole lists.
use Prim.Native.Nat.{◌≤◌}
use native.Mathlib.Omega.{arith}
use lib.ListN.{length}
use Rattle.lasso.proofs.Fronts.{whole_arguments, whole_laid}
use Rattle.lasso.proofs.lasso_of.Goals as goal

pub returns : goal.returns
returns c =
    let g = c.args.arcs in
    let ht : c.args.nodes ≤ length c.args.tree.now = omega (arith, c.if-tree-nodes.false) in
    let hk : c.args.k ≤ length c.args.cycle.now = omega (arith, c.if-cycle-k.false) in
    let w = whole_arguments g.from.now g.to.now c.args.tree.now c.args.cycle.now c.args.nodes c.args.k ht hk (length c.args.lasso.now) (c.well_formed-2.ensures.yes (cc)) in
    (w, whole_laid g.from.now g.to.now c.args.tree.now c.args.cycle.now c.args.nodes c.args.k ht hk _ _ _ _ w c.lay_out.ensures)
