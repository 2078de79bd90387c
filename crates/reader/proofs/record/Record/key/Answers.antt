-- Its parts, one by one.
use mathlib.Core.Path.{◌≡◌, ap, ◌∙◌}
use Prim.Native.Nat.{◌≤◌}
use native.Mathlib.Omega.{arith}
use Rattle.sheet.specs.Keys.{side_of}
use Rattle.sheet.specs.Records.{record_length}
use Rattle.sheet.specs.declared.fields.Kind.TheVariants.{EdgeRecord}
use Rattle.sheet.proofs.RecordLaws.{four_there}
use Rattle.sheet.proofs.KeyLaws.{side_le}
use Rattle.reader.proofs.record.Record.key.Goals as goal

pub side_at-front-requires : goal.side_at-front-requires
side_at-front-requires c =
    let r = c.args.self.now in
    let is : c.length-length.result ≡ record_length EdgeRecord r.sheet.now r.at = c.length-length.ensures ∙ ap (λ k. record_length k r.sheet.now r.at) c.requires.edge in
    let fits : side_of c.length-length.result ≤ c.length-length.result = side_le c.length-length.result (omega (arith, is, four_there r.sheet.now r.at)) in
    omega (arith, is, fits)

pub overflow_sub-length : goal.overflow_sub-length
overflow_sub-length c =
    let r = c.args.self.now in
    let is : c.length-length.result ≡ record_length EdgeRecord r.sheet.now r.at = c.length-length.ensures ∙ ap (λ k. record_length k r.sheet.now r.at) c.requires.edge in
    let fits : side_of c.length-length.result ≤ c.length-length.result = side_le c.length-length.result (omega (arith, is, four_there r.sheet.now r.at)) in
    omega (arith, is, fits, c.side.ensures)

pub side_at-back-requires : goal.side_at-back-requires
side_at-back-requires c =
    let r = c.args.self.now in
    let is : c.length-length.result ≡ record_length EdgeRecord r.sheet.now r.at = c.length-length.ensures ∙ ap (λ k. record_length k r.sheet.now r.at) c.requires.edge in
    let fits : side_of c.length-length.result ≤ c.length-length.result = side_le c.length-length.result (omega (arith, is, four_there r.sheet.now r.at)) in
    omega (arith, is, fits, c.side.ensures)
