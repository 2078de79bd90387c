-- What was read steps as its bytes do.
use mathlib.Core.Path.{ap, ◌∙◌}
use native.Mathlib.Omega.{arith}
use Rattle.sheet.specs.declared.Sheet.{Sheet}
use Rattle.nodes.proofs.CheckNumberLaws.{check_small}
use Rattle.nodes.proofs.DecodedLaws.{read_refusal}
use Rattle.step.specs.Step.{step_in}
use Rattle.step.proofs.SheetLaws.{read_steps}
use Rattle.step.proofs.step.Goals as goal

pub step_in-requires : goal.step_in-requires
step_in-requires c = omega (arith, ap (λ (s : Sheet). s.refusal) c.read.ensures, read_refusal c.args.sheet.now, check_small c.args.sheet.now)

pub returns : goal.returns
returns c =
    let args = c.args in
    let read = c.read in
    c.step_in.ensures ∙ ap (λ (s : Sheet). step_in s args.number args.code) read.ensures ∙ read_steps args.sheet.now args.number
    args.code
