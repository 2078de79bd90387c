-- Question 1, the check, and then what follows. Where nothing is written, the contract holds at once.
use mathlib.Core.Path.{◌≡◌, sym, ap, ◌∙◌}
use native.Mathlib.Omega.{arith}
use Rattle.refusals.specs.Numbers.{number_of}
use Rattle.refusals.proofs.Laws.{never_0}
use Rattle.sheet.specs.Questions.{check_of}
use Rattle.nodes.proofs.RefusalLaws.{refusal_read}
use Rattle.contract.specs.Plan.{refused_plan}
use Rattle.contract.proofs.Exits.{faulty_sheet}
use Rattle.planner.specs.ContractTerms.{lent_buffers}
use Rattle.planner.proofs.GraphLaws.{settled_kept}
use Rattle.planner.proofs.ask.Goals as goal

pub returns-in-Some : goal.returns-in-Some
returns-in-Some c =
    let is : check_of c.args.sheet.now ≡ number_of c.in-Some.refused = refusal_read c.args.sheet.now c.read-read.ensures c.numbered.ensures c.in-Some.is in
    let buffers = lent_buffers c.args.nodes.now c.args.potentials.now c.args.steps.now in
    settled_kept buffers (ap refused_plan (sym is))
    (faulty_sheet c.args.sheet.now buffers (record { nodes = omega arith; potentials = omega arith; steps = omega arith }) (λ z. never_0 _ (sym is ∙ z)))

pub plan_read-requires-clause-read_so : goal.plan_read-requires-clause-read_so
plan_read-requires-clause-read_so c =
    record { bytes = c.args.sheet.now; checked = refusal_read c.args.sheet.now c.read-read.ensures c.numbered.ensures c.in_default.is; is = c.read-read.ensures }

pub returns : goal.returns
returns c =
    c.plan_read.ensures (record { bytes = c.args.sheet.now; checked = refusal_read c.args.sheet.now c.read-read.ensures c.numbered.ensures c.in_default.is; is = c.read-read.ensures })
