-- What edge records are told apart by before their bytes are compared. Only private functions go by this file.
use Rattle.std.specs.Prelude.{cond, List, ℕ, ◌+◌, ◌-◌, ◌*◌, ltb}
use Rattle.sheet.specs.Bytes.{byte_at}
use Rattle.sheet.specs.Records.{record_length}
use Rattle.sheet.specs.declared.fields.Kind.TheVariants.{EdgeRecord}
use Rattle.sheet.specs.declared.keys.Key.{Key}

-- four bytes as one number, and eight
abbrev pub four_at : List ℕ → ℕ → ℕ
four_at s at = ((byte_at s at * 256 + byte_at s (at + 1)) * 256 + byte_at s (at + 2)) * 256 + byte_at s (at + 3)

abbrev pub eight_at : List ℕ → ℕ → ℕ
eight_at s at = four_at s at * 4294967296 + four_at s (at + 4)

-- how many bytes of n are taken at either end: eight, or four where there are fewer
unfoldable pub side_of : ℕ → ℕ
side_of n = cond (ltb n 8) 4 8

-- that many bytes from a place on as one number
unfoldable pub side_at : List ℕ → ℕ → ℕ → ℕ
side_at s at n = cond (ltb n 8) (four_at s at) (eight_at s at)

-- the first of an edge record's bytes, and the last
abbrev pub key_of : List ℕ → ℕ → Key
key_of s at = let n = record_length EdgeRecord s at in record { at = at; length = n; front = side_at s at n; back = side_at s (at + (n - side_of n)) n }

abbrev pub blank_key : Key
blank_key = record { at = 0; length = 0; front = 0; back = 0 }
