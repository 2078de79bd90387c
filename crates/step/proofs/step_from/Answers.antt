-- By the records, which are the sheet's.
use mathlib.Core.Path.{◌≡◌, refl, ap, ◌∙◌}
use mathlib.Core.List.{List}
use Prim.Native.Nat.{ℕ, ◌%◌}
use lib.ListN.{get_or}
use native.Mathlib.Omega.{arith}
use Rattle.std.proofs.lemmas.List.{get_or_default}
use Rattle.sheet.specs.Decoded.{blank_edge}
use Rattle.sheet.specs.declared.Edge.{Edge}
use Rattle.std.specs.Prelude.{Option, Some, None, ok_or}
use Rattle.refusals.specs.declared.Refusal.TheVariants.{NotAllowed}
use Rattle.nodes.specs.Numbers.{step_by}
use Rattle.nodes.specs.Decoded.{layout_in, location_in, decoded_meaning}
use Rattle.region.specs.Answers.{stepped_of, answered}
use Rattle.region.specs.declared.Step.{Step}
use Rattle.stepper.proofs.RecordLaws.{answered_by}
use Rattle.step.specs.Step.{step_answer}
use Rattle.step.proofs.step_from.Goals as goal

-- no step is the refusal 16
not_allowed : (o : Option Step) → step_answer (ok_or o NotAllowed) ≡ stepped_of o
not_allowed None = refl
not_allowed (Some s) = refl

pub returns : goal.returns
returns c =
    let a = c.args in
    let k = c.from-k.result in
    let edges = c.edge_records-edges in
    ap step_answer c.ok_or.ensures.value ∙ not_allowed c.step_at.result
    ∙ answered_by a.sheet a.number k a.sheet.edition a.sheet.clocks a.sheet.edges _ c.location_record-location.result
    _ c.step_at.ensures (record {
      edition_is = refl;
      clocks_are = refl;
      edges_are = refl;
      edge_is = λ h.
          let e : k % 32 ≡ k = omega arith in
          rw e (get_or_default edges.result k _ blank_edge (omega (arith, edges.ensures.1)) ∙ ap (λ (all : List Edge). get_or all k blank_edge) edges.ensures.0);
      location_is = c.location_record-location.ensures ∙ ap (location_in a.sheet) c.location_needed-l.ensures.value;
    })
    ∙ ap (λ (n : ℕ). answered n (step_by (layout_in a.sheet) (decoded_meaning a.sheet) a.number n)) c.from-k.ensures
