-- Refused, or decoded.
use mathlib.Core.Path.{◌≡◌, sym, ap, ◌∙◌}
use mathlib.Core.Bool.{Bool, cond}
use borrow.Author.Tests.{eq-eqb, ne_eqb}
use Rattle.refusals.proofs.Laws.{never_0}
use Rattle.sheet.specs.Questions.{check_of}
use Rattle.sheet.specs.Decoded.{decoded_sheet, refused_sheet, read_of}
use Rattle.reader.proofs.read.Goals as goal

pub returns-in-Err : goal.returns-in-Err
unfolding read_of
returns-in-Err c =
    let n : (check_of c.args.sheet.now ≡ 0 → ⊥) = λ z. never_0 c.in-Err.refusal (c.in-Err.ensures ∙ z) in
    c.refused.ensures ∙ ap refused_sheet c.in-Err.ensures
    ∙ sym (ap (λ (t : Bool). cond t (decoded_sheet c.args.sheet.now) (refused_sheet (check_of c.args.sheet.now))) (ne_eqb _ _ n))

pub returns-in-Ok : goal.returns-in-Ok
unfolding read_of
returns-in-Ok c = c.decoded.ensures
    ∙ sym (ap (λ (t : Bool). cond t (decoded_sheet c.args.sheet.now) (refused_sheet (check_of c.args.sheet.now))) (eq-eqb _ _ (sym c.in-Ok.ensures)))
