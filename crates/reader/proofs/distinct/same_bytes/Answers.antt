-- The bytes passed are the same.
use mathlib.Core.Path.{sym, ◌∙◌}
use borrow.Author.Tests.{eq-eqb, ne_eqb}
use Rattle.sheet.proofs.QuestionLaws.{each_none, each_more, each_fails}
use Rattle.sheet.proofs.PairLaws.{same_at}
use Rattle.std.proofs.Common.{rules}
use Rattle.reader.proofs.distinct.same_bytes.Goals as goal

pub loop-i-init : goal.loop-i-init
loop-i-init c =
    let a = c.args in
    (search rules, each_none (same_at a.s.now a.x a.y))

pub loop-i-preserved : goal.loop-i-preserved
loop-i-preserved c =
    let a = c.args in
    let l = c.loop-i in
    (search rules, each_more l.i (same_at a.s.now a.x a.y) l.invariant.1 (eq-eqb _ _ (sym c.byte.ensures ∙ c.if-byte.false ∙ c.byte-in-loop-i.ensures)))

pub returns-then-byte : goal.returns-then-byte
returns-then-byte c =
    let a = c.args in
    let l = c.loop-i in
    sym (each_fails a.count (same_at a.s.now a.x a.y) l.i (search rules)
    (ne_eqb _ _ (λ e. c.if-byte.true (c.byte.ensures ∙ e ∙ sym c.byte-in-loop-i.ensures))))
