-- Records, one after the other, and their fields.
use mathlib.Core.Path.{◌≡◌, ap}
use mathlib.Core.Bool.{true, false}
use mathlib.Core.List.{List}
use mathlib.Core.Option.{none, some}
use Prim.Native.Nat.{ℕ, zero, suc, ◌+◌, ◌*◌, ◌≤◌, ◌<◌}
use native.Mathlib.Numerals.{add-one}
use native.Mathlib.Decide.{ℕ_discrete}
use native.Mathlib.Omega.{arith}
use borrow.Author.Tests.{lt-ltb, le-ltb}
use Rattle.sheet.specs.Bytes.{byte_at, word_at}
use Rattle.sheet.specs.Maps.{stands}
use Rattle.sheet.specs.Records.{map_bytes, map_of, head_bytes, field_place, value_at, field_at, record_length, record_at}
use Rattle.sheet.specs.declared.fields.Kind.{Kind}
use Rattle.sheet.specs.declared.fields.Kind.TheVariants.{LocationRecord, EdgeRecord}
use Rattle.sheet.proofs.MapLaws.{place_le}

-- docs/PORT.md names this; no proof cites it
pub map-le : (kind : Kind) → map_bytes kind ≤ 2
map-le LocationRecord = omega arith
map-le EdgeRecord = omega arith

pub head_le : (kind : Kind) → head_bytes kind ≤ 4
head_le LocationRecord = omega arith
head_le EdgeRecord = omega arith

pub length-le : (kind : Kind) (s : List ℕ) (at : ℕ) → record_length kind s at ≤ 22
unfolding record_length
length-le kind s at = omega (arith, place_le (map_of kind s at) 16, head_le kind)

-- the map, the source and the target are always there
pub four_there : (s : List ℕ) (at : ℕ) → 4 ≤ record_length EdgeRecord s at
unfolding record_length
four_there s at = omega arith

pub place_bound : (kind : Kind) (s : List ℕ) (at b : ℕ) → field_place kind s at b ≤ at + b + 6
unfolding field_place
place_bound kind s at b = omega (arith, place_le (map_of kind s at) b, head_le kind)

pub at_more : (kind : Kind) (s : List ℕ) (from i : ℕ) → record_at kind s from (i + 1) ≡ record_at kind s from i + record_length kind s (record_at kind s from i)
unfolding record_at
at_more kind s from i = ap (record_at kind s from) (add-one i)

pub at_le : (kind : Kind) (s : List ℕ) (from i : ℕ) → record_at kind s from i ≤ from + 22 * i
unfolding record_at
at_le kind s from zero = omega arith
at_le kind s from (suc i) = omega (arith, at_le kind s from i, length-le kind s (record_at kind s from i))

-- each of n records ends where the last does, or before
pub at_inside : (kind : Kind) (s : List ℕ) (from n i : ℕ) → i < n → record_at kind s from i + record_length kind s (record_at kind s from i) ≤ record_at kind s from n
unfolding record_at
at_inside kind s from zero i h = absurd (omega arith)
at_inside kind s from (suc n) i h = elim (ℕ_discrete i n) [
  | yes e ↦ omega (arith, ap (λ (k : ℕ). record_at kind s from (suc k)) e)
  | no e ↦ omega (arith, at_inside kind s from n i (omega arith))
]

-- ---- the field of bit b

module _ (kind : Kind) (s : List ℕ) (at b : ℕ) where
  pub absent : stands (map_of kind s at) b ≡ false → field_at kind s at b ≡ none
  unfolding field_at
  absent h = simp h

  pub there : stands (map_of kind s at) b ≡ true → field_at kind s at b ≡ some (value_at s (field_place kind s at b) b)
  unfolding field_at
  there h = simp h

pub value_word : (s : List ℕ) (p b : ℕ) → b < 2 → value_at s p b ≡ word_at s p
unfolding value_at
value_word s p b h = simp (lt-ltb _ _ h)

pub value_byte : (s : List ℕ) (p b : ℕ) → 2 ≤ b → value_at s p b ≡ byte_at s p
unfolding value_at
value_byte s p b h = simp (le-ltb _ _ h)
