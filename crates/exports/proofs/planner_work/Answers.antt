-- The two lengths, each to its own place.
use Rattle.std.proofs.Common.{rules}
use Rattle.work.specs.Work.{work_answer}
use Rattle.exports.specs.ExportedWork.{exported}
use Rattle.exports.proofs.planner_work.Goals as goal

pub returns-in-Ok : goal.returns-in-Ok
returns-in-Ok c = exported (work_answer c.work.result) c.work.ensures (search rules) (search rules) (search rules)

pub returns-in-Err : goal.returns-in-Err
returns-in-Err c = exported (work_answer c.work.result) c.work.ensures (search rules) (search rules) (search rules)
