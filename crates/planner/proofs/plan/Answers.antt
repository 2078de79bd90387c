-- The questions, and the clearing on 12 to 14.
use mathlib.Core.Path.{◌∙◌}
use mathlib.Core.Logic.{◌≢◌}
use Prim.Native.Nat.{◌≤◌, ◌<◌}
use native.Mathlib.Omega.{arith}
use Rattle.contract.specs.Plan.{SameLengths}
use Rattle.contract.proofs.Causes.{explored_numbers}
use Rattle.planner.specs.ContractTerms.{lent_buffers, answer_of}
use Rattle.planner.proofs.GraphLaws.{past_check, all_zero, refused_planned}
use Rattle.planner.proofs.plan.Goals as goal

pub returns-then-matches : goal.returns-then-matches
returns-then-matches c =
    let high : 11 < (answer_of c.ask-answer.result).refusal = grind arith in
    let other : (answer_of c.ask-answer.result).refusal ≢ 17 = λ seventeen. grind arith in
    let k = c.ask-answer.auto in
    let same : SameLengths (lent_buffers c.ask-answer.new.nodes c.ask-answer.new.potentials c.ask-answer.new.steps) (lent_buffers c.args.nodes.now c.args.potentials.now c.args.steps.now) =
    record { nodes = k.nodes; potentials = k.potentials; steps = k.steps } in
    let settled = c.ask-answer.ensures in
    let w = c.clear.ensures in
    let l = c.clear.auto in
    refused_planned (settled.numbers (omega (arith, high))) settled.judged (past_check high other settled.judged) (all_zero same w.nodes_cleared w.potentials_cleared w.steps_cleared)
    (record { nodes = l.nodes ∙ k.nodes; potentials = l.potentials ∙ k.potentials; steps = l.steps ∙ k.steps }) (omega (arith, high))

pub returns-else-matches : goal.returns-else-matches
returns-else-matches c =
    let early : 12 ≤ (answer_of c.ask-answer.result).refusal → (answer_of c.ask-answer.result).refusal ≤ 14 → ⊥ = λ low high. grind arith in
    let k = c.ask-answer.auto in
    let settled = c.ask-answer.ensures in record {
      judged = settled.judged;
      numbers = settled.numbers;
      kept = settled.kept;
      cleared = λ passed some. let r = explored_numbers passed some settled.judged in absurd (early r.0 r.1);
      lengths = record { nodes = k.nodes; potentials = k.potentials; steps = k.steps };
      accepted = λ z. (settled.accepted z).accepted z;
      no_loop_below = λ z. (settled.accepted z).no_loop_below z;
      no_run_below = λ z. (settled.accepted z).no_run_below z;
    }
