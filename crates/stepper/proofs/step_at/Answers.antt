-- By the code.
use native.Mathlib.Omega.{arith}
use Rattle.stepper.proofs.RecordLaws.{no_edge, edge_answered, delay_answered, no_code}
use Rattle.stepper.proofs.step_at.Goals as goal

pub returns-then-from-code : goal.returns-then-from-code
returns-then-from-code c =
    let a = c.args in
    no_edge a.number a.code a.edition a.clocks a.edges a.edge a.location (omega arith)
    (omega (arith, c.from.ensures))

pub returns-in-32 : goal.returns-in-32
returns-in-32 c =
    let a = c.args in
    delay_answered a.number a.code a.edition a.clocks a.edges a.edge a.location _ 32 c.unit_step.ensures c.in-32.is (omega arith)

pub returns-in-33 : goal.returns-in-33
returns-in-33 c =
    let a = c.args in
    delay_answered a.number a.code a.edition a.clocks a.edges a.edge a.location _ 33 c.move_step.ensures c.in-33.is (omega arith)

pub returns-else-from-code : goal.returns-else-from-code
returns-else-from-code c =
    let a = c.args in
    edge_answered a.number a.code a.edition a.clocks a.edges a.edge a.location _ c.edge_step.ensures (omega arith)
    (omega (arith, c.from.ensures))

pub returns-in_default : goal.returns-in_default
returns-in_default c =
    let a = c.args in
    no_code a.number a.code a.edition a.clocks a.edges a.edge a.location (omega arith) (λ e. omega arith) (λ e. omega arith)
