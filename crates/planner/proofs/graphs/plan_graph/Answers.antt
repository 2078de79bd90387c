-- Questions 13 and 14 by what `least_ratio` answers, and then the lasso.
use mathlib.Core.Path.{refl}
use native.Mathlib.Omega.{arith}
use lib.IntN.{pos}
use lib.ListN.{length, replicate}
use Rattle.ratio.specs.Answer.{RatioAnswered}
use Rattle.contract.proofs.Exits.{no_earning_cycle, idle_cycle_gains}
use Rattle.planner.specs.ContractTerms.{lent_buffers}
use Rattle.planner.proofs.GraphLaws.{settled_refused, none_earns, idle_gain, least_again, cyclic}
use Rattle.planner.proofs.graphs.plan_graph.Goals as goal

pub accept-requires-clause-cyclic : goal.accept-requires-clause-cyclic
accept-requires-clause-cyclic c =
    let g = c.args.graph in
    let judged : RatioAnswered g.arcs.from.now g.arcs.to.now g.arcs.cost.now g.arcs.reward.now (length g.tree.now) (replicate 2048 (pos 0)) c.least_ratio.new.potential (replicate 2048 0) c.least_ratio.new.cycle c.least_ratio.result =
    c.least_ratio.ensures in
    cyclic c.requires.handed c.least_ratio.new.potential c.least_ratio.new.cycle c.least_ratio.result judged c.in-Ok.is c.least_ratio.auto.cycle

pub returns-in-Err-NoneEarns : goal.returns-in-Err-NoneEarns
returns-in-Err-NoneEarns c =
    let g = c.args.graph in
    let judged : RatioAnswered g.arcs.from.now g.arcs.to.now g.arcs.cost.now g.arcs.reward.now (length g.tree.now) (replicate 2048 (pos 0)) c.least_ratio.new.potential (replicate 2048 0) c.least_ratio.new.cycle c.least_ratio.result =
    c.least_ratio.ensures in
    λ o. settled_refused {after = lent_buffers c.args.nodes.now c.args.potentials.now c.args.steps.now} 13 refl (omega arith) (o.long, o.checked) (no_earning_cycle o.bytes o.before o.long o.checked _ o.explored
    (none_earns c.requires.handed c.least_ratio.new.potential c.least_ratio.new.cycle c.least_ratio.result judged (cc)))

pub returns-in-Err-IdleGain : goal.returns-in-Err-IdleGain
returns-in-Err-IdleGain c =
    let g = c.args.graph in
    let judged : RatioAnswered g.arcs.from.now g.arcs.to.now g.arcs.cost.now g.arcs.reward.now (length g.tree.now) (replicate 2048 (pos 0)) c.least_ratio.new.potential (replicate 2048 0) c.least_ratio.new.cycle c.least_ratio.result =
    c.least_ratio.ensures in
    let w = idle_gain c.requires.handed c.least_ratio.new.potential c.least_ratio.new.cycle c.least_ratio.result judged (cc) in
    λ o. settled_refused {after = lent_buffers c.args.nodes.now c.args.potentials.now c.args.steps.now} 14 refl (omega arith) (o.long, o.checked) (idle_cycle_gains o.bytes o.before o.long o.checked _ o.explored
    w.0 w.1)

pub returns-in-Ok : goal.returns-in-Ok
returns-in-Ok c =
    let g = c.args.graph in
    let judged : RatioAnswered g.arcs.from.now g.arcs.to.now g.arcs.cost.now g.arcs.reward.now (length g.tree.now) (replicate 2048 (pos 0)) c.least_ratio.new.potential (replicate 2048 0) c.least_ratio.new.cycle c.least_ratio.result =
    c.least_ratio.ensures in
    λ o. c.accept.ensures (record {
      of_sheet = o;
      potential = _;
      arcs = _;
      least = least_again c.requires.handed c.least_ratio.new.potential c.least_ratio.new.cycle c.least_ratio.result judged c.in-Ok.is c.least_ratio.auto.cycle;
    })
