-- The lasso is laid out, and the three buffers are written.
use mathlib.Core.Path.{◌≡◌, ap, subst, ◌∙◌}
use mathlib.Core.List.{List}
use Prim.Native.Nat.{ℕ, ◌+◌, ◌≤◌}
use native.Mathlib.Omega.{arith}
use lib.ListN.{length, take}
use lib.Seq.{slice, length-take-le, get_or-take}
use mir.Syntax.{w64}
use mir.ValLaws.{to_z-of_z}
use Rattle.walks.specs.Walk.{at}
use Rattle.buffers.proofs.ClearedLaws.{front_stays, zeros_behind, length_stays}
use Rattle.planner.specs.ContractTerms.{lent_buffers}
use Rattle.planner.specs.PrivatePromises.{SumsOf}
use Rattle.planner.proofs.AcceptLaws.{Written, accepted_planned}
use Rattle.planner.proofs.GraphLaws.{settled_planned}
use Rattle.planner.proofs.LassoLaws.{short, codes_pickable, turned_is, turned_summable, laid_of}
use Rattle.planner.proofs.graphs.accept.Goals as goal

pub write_codes-requires : goal.write_codes-requires
write_codes-requires c =
    let g = c.args.graph in
    let sized = c.lasso_of.auto.lasso in
    let laid = laid_of g.arcs.from.now g.arcs.to.now g.tree.now c.args.cycle.now (length g.tree.now) (length c.args.cycle.now)
    c.lasso_of.new.lasso c.lasso_of.result c.lasso_of.ensures c.in-Ok.is in
    codes_pickable c.requires.cyclic sized laid c.args.steps.now c.requires.long_enough.steps (omega (arith, c.requires.cyclic.formed.some))

pub sums_of-sums-requires : goal.sums_of-sums-requires
sums_of-sums-requires c =
    let g = c.args.graph in
    let sized = c.lasso_of.auto.lasso in
    let laid = laid_of g.arcs.from.now g.arcs.to.now g.tree.now c.args.cycle.now (length g.tree.now) (length c.args.cycle.now)
    c.lasso_of.new.lasso c.lasso_of.result c.lasso_of.ensures c.in-Ok.is in
    rw (turned_is c.requires.cyclic sized laid) (turned_summable c.requires.cyclic sized laid)

pub accepted-requires-clause-lasso_short : goal.accepted-requires-clause-lasso_short
accepted-requires-clause-lasso_short c =
    let g = c.args.graph in
    let sized = c.lasso_of.auto.lasso in
    let laid = laid_of g.arcs.from.now g.arcs.to.now g.tree.now c.args.cycle.now (length g.tree.now) (length c.args.cycle.now)
    c.lasso_of.new.lasso c.lasso_of.result c.lasso_of.ensures c.in-Ok.is in
    omega (arith, short c.requires.cyclic sized laid, c.requires.cyclic.formed.few)

pub returns : goal.returns
returns c =
    let g = c.args.graph in
    let sized = c.lasso_of.auto.lasso in
    let laid = laid_of g.arcs.from.now g.arcs.to.now g.tree.now c.args.cycle.now (length g.tree.now) (length c.args.cycle.now)
    c.lasso_of.new.lasso c.lasso_of.result c.lasso_of.ensures c.in-Ok.is in
    let few : c.in-Ok.s + length c.args.cycle.now ≤ 2048 =
    omega (arith, short c.requires.cyclic sized laid, c.requires.cyclic.formed.few) in
    let room : c.in-Ok.s + length c.args.cycle.now ≤ length c.lasso_of.new.lasso = omega (arith, few, sized) in
    let all : length (take (c.in-Ok.s + length c.args.cycle.now) c.lasso_of.new.lasso) ≡ c.in-Ok.s + length c.args.cycle.now = length-take-le _ c.lasso_of.new.lasso room in
    let written : Written c.args.potential.now g.order.now g.code.now c.lasso_of.new.lasso (length g.tree.now) (c.in-Ok.s + length c.args.cycle.now) (lent_buffers c.args.nodes.now c.args.potentials.now c.args.steps.now) (lent_buffers c.clear.new.list c.clear-2.new.list c.clear-3.new.list) =
    let N = c.clear.ensures in
    let D = c.clear-2.ensures in
    let C = c.clear-3.ensures in
    let n = c.requires.cyclic.formed.few in
    let o = c.requires.cyclic.ordered in
    record {
      potentials = λ i h. front_stays _ _ _ D i (omega (arith, n)) ∙ c.permute.ensures.is i (omega (arith, n, o));
      potentials_rest = λ i h _. zeros_behind _ _ _ D i (omega (arith, n));
      codes = λ i h. front_stays _ _ _ C i (omega (arith, few)) ∙ c.write_codes.ensures.is i (omega (arith, all)) ∙ ap (at g.code.now) (get_or-take _ c.lasso_of.new.lasso i 0 h);
      steps_rest = λ i h _. zeros_behind _ _ _ C i (omega (arith, few));
      nodes = λ i h. front_stays _ _ _ N i (omega (arith, n));
      nodes_rest = λ i h _. zeros_behind _ _ _ N i (omega (arith, n));
      lengths = record { nodes = length_stays _ _ _ N; potentials = length_stays _ _ _ D ∙ c.permute.ensures.sized; steps = length_stays _ _ _ C ∙ c.write_codes.ensures.sized };
    } in
    let summed : SumsOf g.code.now g.arcs.cost.now g.arcs.reward.now (slice c.in-Ok.s (c.in-Ok.s + length c.args.cycle.now) c.lasso_of.new.lasso) c.sums_of-sums.result =
    subst (λ (l : List ℕ). SumsOf g.code.now g.arcs.cost.now g.arcs.reward.now l c.sums_of-sums.result) (turned_is c.requires.cyclic sized laid) c.sums_of-sums.ensures in
    λ o. settled_planned (accepted_planned c.requires.cyclic sized laid written o (to_z-of_z w64 c.args.p c.ranges.p) summed c.accepted.ensures)
