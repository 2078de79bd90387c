-- The records of a sheet, and their fields by access.
use Rattle.std.specs.Prelude.{cond, List, ℕ, zero, suc, ◌+◌, ltb}
use Rattle.std.proofs.Math.Option.{Option, none, some, get_or}
use Rattle.sheet.specs.Bytes.{byte_at, word_at}
use Rattle.sheet.specs.Maps.{stands, place_of}
use Rattle.sheet.specs.Fields.{Edition, edition_at, bound_bit}
use Rattle.sheet.specs.declared.fields.Kind.{Kind}
use Rattle.sheet.specs.declared.fields.Kind.TheVariants.{LocationRecord, EdgeRecord}

-- "Location: map of one byte."; "Edge: map of two bytes"
abbrev pub map_bytes : Kind → ℕ
map_bytes LocationRecord = 1
map_bytes EdgeRecord = 2

abbrev pub map_of : Kind → List ℕ → ℕ → ℕ
map_of LocationRecord s at = byte_at s at
map_of EdgeRecord s at = word_at s at

-- what stands before the fields: the map, and of an edge "then source byte, target byte, then fields"
abbrev pub head_bytes : Kind → ℕ
head_bytes LocationRecord = 1
head_bytes EdgeRecord = 4

-- where the field of bit b begins, in the record at `at`
unfoldable pub field_place : Kind → List ℕ → ℕ → ℕ → ℕ
field_place y s at b = at + head_bytes y + place_of (map_of y s at) b

-- a price has two bytes, another field one
unfoldable pub value_at : List ℕ → ℕ → ℕ → ℕ
value_at s p b = cond (ltb b 2) (word_at s p) (byte_at s p)

-- the field of bit b, in the record at `at`: its value where the bit is set
unfoldable pub field_at : Kind → List ℕ → ℕ → ℕ → Option ℕ
field_at y s at b = cond (stands (map_of y s at) b) (some (value_at s (field_place y s at b) b)) none

-- all fields of a record end below bit 16
unfoldable pub record_length : Kind → List ℕ → ℕ → ℕ
record_length y s at = head_bytes y + place_of (map_of y s at) 16

-- record i of those that begin at `from`
unfoldable pub record_at : Kind → List ℕ → ℕ → ℕ → ℕ
record_at y s from zero = from
record_at y s from (suc i) = record_at y s from i + record_length y s (record_at y s from i)

-- "Four bytes: edition (1), locations L (1 to 12), clocks K (1 to 3), edges E (0 to 32). Then L location records, then E edge records."
-- "Edition 2 allows K up to 4"
abbrev pub edition_of : List ℕ → Edition
edition_of s = edition_at (byte_at s 0)

abbrev pub locations_in : List ℕ → ℕ
locations_in s = byte_at s 1

abbrev pub clocks_in : List ℕ → ℕ
clocks_in s = byte_at s 2

abbrev pub edges_in : List ℕ → ℕ
edges_in s = byte_at s 3

abbrev pub location_at : List ℕ → ℕ → ℕ
location_at s i = record_at LocationRecord s 4 i

abbrev pub edge_at : List ℕ → ℕ → ℕ
edge_at s e = record_at EdgeRecord s (location_at s (locations_in s)) e

-- the upper bound of clock j in the location record at `at`; question 7 sees that it stands
abbrev pub bound_at : List ℕ → ℕ → ℕ → ℕ
bound_at s at j = get_or (field_at LocationRecord s at (bound_bit + j)) 0
