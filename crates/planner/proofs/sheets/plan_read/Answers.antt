-- Question 12, and the plan of the graph, with its lists cut to the arcs.
use mathlib.Core.Path.{refl}
use native.Mathlib.Omega.{arith}
use borrow.Author.Rules.{rules}
use Rattle.contract.proofs.Exits.{too_many_nodes}
use Rattle.explore.specs.Lists.{buffers_of}
use Rattle.explore.proofs.LengthLaws.{lengths}
use Rattle.planner.specs.ContractTerms.{lent_buffers}
use Rattle.planner.proofs.GraphLaws.{settled_refused}
use Rattle.planner.proofs.SheetLaws.{never, overfull, handed, of_sheet}
use Rattle.planner.proofs.sheets.plan_read.Goals as goal

pub plan_graph-requires-clause-handed : goal.plan_graph-requires-clause-handed
plan_graph-requires-clause-handed c =
    let w = c.explore.ensures in
    handed c.args.read c.args.nodes.now (buffers_of c.explore.new.nodes c.explore.new.arcs) c.explore.result w.answered c.in-Ok.field-0.nodes c.in-Ok.field-0.arcs c.in-Ok.is
    c.requires.read_so c.requires.long_enough.nodes (lengths w.same_nodes w.same_arcs) {K = c.explore.new.nodes.sorted.now} (record {
      from = let h = w.same_arcs.from.name in search rules;
      to = let h = w.same_arcs.to.name in search rules;
      code = let h = w.same_arcs.code.name in search rules;
      cost = let h = w.same_arcs.cost.name in search rules;
      reward = let h = w.same_arcs.reward.name in search rules;
      order = let h = w.same_nodes.order.name in search rules;
      tree = let h = w.same_nodes.tree.name in search rules;
      sorted = refl;
    })

pub returns-in-Ok : goal.returns-in-Ok
returns-in-Ok c = λ o.
    let w = c.explore.ensures in
    c.plan_graph.ensures (of_sheet c.args.read c.args.nodes.now (buffers_of c.explore.new.nodes c.explore.new.arcs) c.explore.result w.answered c.in-Ok.field-0.nodes c.in-Ok.field-0.arcs c.in-Ok.is
    o c.requires.long_enough.nodes (lengths w.same_nodes w.same_arcs) (record {
      from = let h = w.same_arcs.from.name in search rules;
      to = let h = w.same_arcs.to.name in search rules;
      code = let h = w.same_arcs.code.name in search rules;
      cost = let h = w.same_arcs.cost.name in search rules;
      reward = let h = w.same_arcs.reward.name in search rules;
      order = let h = w.same_nodes.order.name in search rules;
      tree = let h = w.same_nodes.tree.name in search rules;
      sorted = let h = w.same_nodes.sorted.name in search rules;
    }) (lent_buffers c.args.nodes.now c.args.potentials.now c.args.steps.now) c.requires.long_enough refl)

pub returns-in-Err-TooMany : goal.returns-in-Err-TooMany
returns-in-Err-TooMany c =
    let b = buffers_of c.explore.new.nodes c.explore.new.arcs in
    λ o. settled_refused {after = (lent_buffers _ c.args.potentials.now c.args.steps.now)} 12 refl (omega arith) (c.requires.long_enough, o.checked) (too_many_nodes o.bytes (lent_buffers c.args.nodes.now c.args.potentials.now c.args.steps.now) c.requires.long_enough o.checked b.node
    (overfull c.args.read c.args.nodes.now b c.explore.result c.explore.ensures.answered (cc) o))

pub returns-in-Err-Malformed : goal.returns-in-Err-Malformed
returns-in-Err-Malformed c =
    absurd (never c.args.read c.args.nodes.now (buffers_of c.explore.new.nodes c.explore.new.arcs) c.explore.result c.explore.ensures.answered (cc) c.requires.read_so c.requires.long_enough.nodes)
