-- Absent, or the byte at its place.
use mathlib.Core.Path.{sym, ap, ◌∙◌}
use mathlib.Core.Option.{get_or}
use native.Mathlib.Omega.{arith}
use Rattle.sheet.specs.Bytes.{byte_at}
use Rattle.sheet.proofs.RecordLaws.{absent, there, value_byte}
use Rattle.reader.proofs.record.Record.byte.Goals as goal

pub returns-then-has : goal.returns-then-has
returns-then-has c =
    let r = c.args.self.now in
    c.byte.ensures ∙ ap (byte_at r.sheet.now) c.field_place.ensures ∙ sym (value_byte _ _ c.args.b (omega arith))
    ∙ sym (ap (λ o. get_or o c.args.absent) (there r.kind r.sheet.now r.at c.args.b (sym c.if-has.ensures)))

pub returns-else-has : goal.returns-else-has
returns-else-has c =
    let r = c.args.self.now in
    sym (ap (λ o. get_or o c.args.absent) (absent r.kind r.sheet.now r.at c.args.b (sym c.if-has.ensures)))
