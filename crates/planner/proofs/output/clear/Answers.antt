-- The three buffers are cleared whole.
use mathlib.Core.Path.{◌∙◌}
use lib.IntN.{pos}
use Rattle.buffers.proofs.ClearedLaws.{cleared_whole}
use Rattle.planner.proofs.output.clear.Goals as goal

pub returns-clause-nodes_cleared : goal.returns-clause-nodes_cleared
returns-clause-nodes_cleared c =
    c.clear.ensures ∙ cleared_whole 0 c.args.nodes.now

pub returns-clause-potentials_cleared : goal.returns-clause-potentials_cleared
returns-clause-potentials_cleared c =
    c.clear-2.ensures ∙ cleared_whole (pos 0) c.args.potentials.now

pub returns-clause-steps_cleared : goal.returns-clause-steps_cleared
returns-clause-steps_cleared c =
    c.clear-3.ensures ∙ cleared_whole 0 c.args.steps.now
