-- The place past the last bit, after the head.
use mathlib.Core.Path.{ap, ap₂, ◌∙◌}
use Prim.Native.Nat.{ℕ, ◌+◌}
use Rattle.sheet.specs.Maps.{place_of}
use native.Mathlib.Omega.{arith}
use Rattle.sheet.specs.Records.{record_length}
use Rattle.sheet.proofs.MapLaws.{place_le}
use Rattle.sheet.proofs.RecordLaws.{head_le}
use Rattle.reader.proofs.record.Record.length.Goals as goal

pub overflow_add-result : goal.overflow_add-result
overflow_add-result c =
    omega (arith, c.head_bytes.ensures, head_le c.args.self.now.kind, c.bytes_below.ensures, place_le c.args.self.now.map 16)

pub returns : goal.returns
unfolding record_length
returns c =
    ap₂ ◌+◌ c.head_bytes.ensures (c.bytes_below.ensures ∙ ap (λ (m : ℕ). place_of m 16) c.args.self.now.mapped)
