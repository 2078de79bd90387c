-- Absent, or a price's word, or a byte.
use mathlib.Core.Path.{sym, ap, ◌∙◌}
use mathlib.Core.Option.{some}
use native.Mathlib.Omega.{arith}
use Rattle.sheet.specs.Bytes.{byte_at, word_at}
use Rattle.sheet.proofs.RecordLaws.{absent, there, place_bound, value_word, value_byte}
use Rattle.reader.proofs.record.Record.field.Goals as goal

pub returns-then-not-has : goal.returns-then-not-has
returns-then-not-has c =
    let r = c.args.self.now in
    absent r.kind r.sheet.now r.at c.args.b (sym c.if-not-has.ensures)

pub word-requires : goal.word-requires
word-requires c =
    let r = c.args.self.now in
    omega (arith, r.near, c.field_place-place.ensures, place_bound r.kind r.sheet.now r.at c.args.b)

pub returns-then-b-lt2 : goal.returns-then-b-lt2
returns-then-b-lt2 c =
    let r = c.args.self.now in
    there r.kind r.sheet.now r.at c.args.b (sym c.if-not-has.ensures)
    ∙ ap some (value_word _ _ c.args.b c.if-b-lt2.true ∙ ap (word_at r.sheet.now) (sym c.field_place-place.ensures) ∙ sym c.word.ensures)

pub returns-else-b-lt2 : goal.returns-else-b-lt2
returns-else-b-lt2 c =
    let r = c.args.self.now in
    there r.kind r.sheet.now r.at c.args.b (sym c.if-not-has.ensures)
    ∙ ap some (value_byte _ _ c.args.b c.if-b-lt2.false ∙ ap (byte_at r.sheet.now) (sym c.field_place-place.ensures) ∙ sym c.byte.ensures ∙ sym c.from.ensures)
