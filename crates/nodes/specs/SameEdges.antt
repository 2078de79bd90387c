-- Edge records that are read as the same edge, which question 17 turns back.
use Rattle.std.specs.Prelude.{◌≡◌, List, ℕ, ◌<◌}
use Rattle.sheet.specs.Bytes.{byte_at}
use Rattle.sheet.specs.Records.{record_at}
use Rattle.sheet.specs.Decoded.{edge_of}
use Rattle.sheet.specs.declared.fields.Kind.TheVariants.{EdgeRecord}

-- each entry is a byte, as it is in every slice of u8
abbrev pub OfBytes : List ℕ → Type 0
OfBytes s = (i : ℕ) → byte_at s i < 256

-- two of the e edge records from `from` on that are read as the same edge
pub record SameEdges (e : ℕ) (s : List ℕ) (from : ℕ) : Type 0 where
  pub first : ℕ
  pub second : ℕ
  pub before : first < second
  pub below : second < e
  pub same : edge_of s (record_at EdgeRecord s from first) ≡ edge_of s (record_at EdgeRecord s from second)
