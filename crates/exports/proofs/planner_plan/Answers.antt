-- The plan's numbers, each to its own place.
use Rattle.std.proofs.Common.{rules}
use Rattle.planner.specs.ContractTerms.{answer_of}
use Rattle.exports.specs.ExportedPlan.{exported}
use Rattle.exports.proofs.planner_plan.Goals as goal

pub returns-in-Ok : goal.returns-in-Ok
returns-in-Ok c =
    exported (answer_of c.plan.result) c.plan.ensures (search rules) (search rules) (search rules) (search rules) (search rules) (search rules) (search rules) (search rules) (search rules)

pub returns-in-Err : goal.returns-in-Err
returns-in-Err c =
    exported (answer_of c.plan.result) c.plan.ensures (search rules) (search rules) (search rules) (search rules) (search rules) (search rules) (search rules) (search rules) (search rules)
