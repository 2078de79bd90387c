-- No record's head is above 4 bytes, and no place above 18.
use mathlib.Core.Path.{ap, ap₂, ◌∙◌}
use Prim.Native.Nat.{ℕ, ◌+◌}
use Rattle.sheet.specs.Maps.{place_of}
use native.Mathlib.Omega.{arith}
use Rattle.sheet.specs.Records.{field_place}
use Rattle.sheet.proofs.MapLaws.{place_le}
use Rattle.sheet.proofs.RecordLaws.{head_le}
use Rattle.reader.proofs.record.Record.field_place.Goals as goal

pub overflow_add-result-2 : goal.overflow_add-result-2
overflow_add-result-2 c =
    omega (arith, c.args.self.now.near, c.head_bytes.ensures, head_le c.args.self.now.kind, c.bytes_below.ensures, place_le c.args.self.now.map c.args.b)

pub returns : goal.returns
unfolding field_place
returns c =
    let a = c.args in
    ap₂ (λ (h p : ℕ). a.self.now.at + h + p) c.head_bytes.ensures
    (c.bytes_below.ensures ∙ ap (λ (m : ℕ). place_of m a.b) c.args.self.now.mapped)
