-- Question 1, the check, and then what follows in cleared buffers.
use mathlib.Core.Path.{◌≡◌, sym, ap, ◌∙◌}
use native.Mathlib.Omega.{arith}
use Rattle.refusals.specs.Numbers.{number_of}
use Rattle.refusals.proofs.Laws.{never_0}
use Rattle.sheet.specs.Questions.{check_of}
use Rattle.nodes.proofs.RefusalLaws.{refusal_read}
use Rattle.buffers.proofs.ClearedLaws.{cleared_whole}
use Rattle.work.specs.Work.{refused_work, lent_pairs, RoomForPairs, zero_pairs}
use Rattle.work.proofs.Exits.{faulty_sheet}
use Rattle.work.proofs.work.Goals as goal

pub returns-in-Some : goal.returns-in-Some
returns-in-Some c =
    let is : check_of c.args.sheet.now ≡ number_of c.in-Some.refusal =
    refusal_read c.args.sheet.now c.read-read.ensures c.numbered.ensures c.in-Some.is in
    faulty_sheet (ap refused_work (sym is)) (record { waits = omega arith; edges = omega arith }) (λ z. never_0 _ (sym is ∙ z))

pub plan_pairs-requires-clause-passed : goal.plan_pairs-requires-clause-passed
plan_pairs-requires-clause-passed c =
    refusal_read c.args.sheet.now c.read-read.ensures c.numbered.ensures c.in_default.is

pub returns : goal.returns
returns c =
    let room : RoomForPairs (lent_pairs c.args.waits.now c.args.edges.now) =
    record { waits = omega arith; edges = omega arith } in
    let zeros : lent_pairs c.clear.new.list c.clear-2.new.list ≡ zero_pairs (lent_pairs c.args.waits.now c.args.edges.now) =
    let a = c.args in λ i. record {
      waits = (c.clear.ensures ∙ cleared_whole 0 a.waits.now) i;
      edges = (c.clear-2.ensures ∙ cleared_whole 0 a.edges.now) i;
    } in
    c.plan_pairs.ensures (record { before = lent_pairs c.args.waits.now c.args.edges.now; room = room; is = zeros })
