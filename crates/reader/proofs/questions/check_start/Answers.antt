-- The bounds passed are above 0.
use borrow.Author.Tests.{lt-ltb, le-ltb}
use native.Mathlib.Omega.{arith}
use lib.Dec.{ltb}
use Rattle.sheet.specs.Records.{bound_at}
use Rattle.sheet.specs.Questions.{start_refusal}
use Rattle.sheet.proofs.QuestionLaws.{each_none, each_more, answer_no, answer_yes}
use Rattle.reader.proofs.questions.check_start.Goals as goal

pub loop-j-init : goal.loop-j-init
loop-j-init c = each_none _

pub loop-j-preserved : goal.loop-j-preserved
loop-j-preserved c =
    let s = c.args.sheet.now in
    each_more c.loop-j.j (λ i. ltb 0 (bound_at s 4 i)) c.loop-j.invariant (lt-ltb 0 (bound_at s 4 c.loop-j.j) (omega (arith, c.byte.ensures)))

pub returns-then-byte-eq0 : goal.returns-then-byte-eq0
unfolding start_refusal
returns-then-byte-eq0 c =
    let s = c.args.sheet.now in
    answer_no 11 c.args.counts.clocks (λ i. ltb 0 (bound_at s 4 i)) c.loop-j.j (omega arith) (le-ltb 0 (bound_at s 4 c.loop-j.j) (omega (arith, c.byte.ensures)))

pub returns-after-loop-j : goal.returns-after-loop-j
unfolding start_refusal
returns-after-loop-j c =
    let s = c.args.sheet.now in
    answer_yes 11 c.args.counts.clocks (λ i. ltb 0 (bound_at s 4 i)) c.loop-j.j (omega arith) (omega arith) c.loop-j.invariant
