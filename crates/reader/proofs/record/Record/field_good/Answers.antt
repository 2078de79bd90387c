-- Absent, or in range.
use mathlib.Core.Path.{sym, ap, ◌∙◌}
use Rattle.sheet.specs.Fields.{in_range}
use Rattle.sheet.proofs.CodeLaws.{no_field, field_is}
use Rattle.reader.proofs.record.Record.field_good.Goals as goal

pub returns-in-None : goal.returns-in-None
returns-in-None c = let r = c.args.self.now in sym (no_field r.kind c.args.clocks r.sheet.now r.at c.args.b c.in-None.ensures)

pub returns-in-Some : goal.returns-in-Some
returns-in-Some c =
    let r = c.args.self.now in
    c.in_range.ensures ∙ ap (λ f. in_range c.args.clocks f c.in-Some.v) c.meaning.ensures
    ∙ sym (field_is r.kind c.args.clocks r.sheet.now r.at c.args.b c.in-Some.v c.in-Some.ensures)
