-- The stem, and then the two parts of the cycle.
use mathlib.Core.Path.{refl, subst}
use Prim.Native.Nat.{ℕ, ◌-◌}
use native.Mathlib.Omega.{arith}
use lib.ListN.{length}
use lib.Seq.{slice}
use Rattle.walks.specs.Lasso.{Stem}
use Rattle.lasso.proofs.Laying.{tree_of, laid_out}
use Rattle.lasso.proofs.lay.lay_out.Goals as goal

pub stem-top-requires-clause-is_tree : goal.stem-top-requires-clause-is_tree
stem-top-requires-clause-is_tree c = tree_of c.args.arcs.from.now c.args.arcs.to.now c.args.tree.now c.args.cycle.now _ _ _ c.requires

pub returns : goal.returns
returns c =
    let g = c.args.arcs in
    let path = c.stem-top.new.path in
    let w = c.stem-top.ensures.laid (tree_of g.from.now g.to.now c.args.tree.now c.args.cycle.now _ _ _ c.requires) in
    let x = subst (λ (y : ℕ). Stem g.from.now g.to.now (length g.from.now) 0 (slice c.stem-top.result (length path) path) y) c.from-hub.ensures w.0 in
    laid_out g.from.now g.to.now c.args.tree.now c.args.cycle.now path c.args.lasso.now c.copy_from_slice.new.self c.copy_from_slice-2.new.self
    c.copy_from_slice-3.new.self (length c.args.tree.now) c.stem-top.result c.first-turn.result (2048 - c.stem-top.result) c.stem-top.auto.path
    c.stem-top.ensures.within (omega (arith, c.stem-top.ensures.few)) refl c.first-turn.ensures.in_cycle c.requires.arcs_room c.first-turn.ensures.least
    c.first-turn.ensures.earliest x w.1 c.copy_from_slice.ensures.after c.copy_from_slice-2.ensures.after c.copy_from_slice-3.ensures.after
