-- What the bits of a map stand for, and the values that may stand there.
use Rattle.std.specs.Prelude.{Bool, true, false, not, cond, ◌&&◌, ℕ, ◌+◌, ◌-◌, ◌^◌, ltb, leb, eqb, ℤ, nat_abs}
use Rattle.sheet.specs.Bytes.{signed_of}
use Rattle.sheet.specs.declared.fields.Kind.{Kind}
use Rattle.sheet.specs.declared.fields.Kind.TheVariants.{LocationRecord, EdgeRecord}
use Rattle.sheet.specs.declared.fields.Field.{Field}
use Rattle.sheet.specs.declared.fields.Field.TheVariants.{Cost, Reward, Reset, Lower, Upper, Unused}

-- how many clocks an edition has at most; its bits follow from that
pub record Edition : Type 0 where
  pub clocks : ℕ

-- "clocks K (1 to 3)"
abbrev pub first_edition : Edition
first_edition = record { clocks = 3 }

-- "Edition 2 allows K up to 4"
abbrev pub second_edition : Edition
second_edition = record { clocks = 4 }

-- the edition that a first byte stands for; question 3 lets only 1 and 2 pass
abbrev pub edition_at : ℕ → Edition
edition_at edition = cond (eqb edition 1) first_edition second_edition

-- Bits of clock 0, those of the others following. Location: "Bits 2 to 4: upper bound of clocks 0 to 2"; in edition 2 "bits 2 to 5 are upper bounds".
abbrev pub bound_bit : ℕ
bound_bit = 2

-- Edge: "Bits 3 to 5: lower guard of clocks 0 to 2. Bits 6 to 8: upper guard"; in edition 2 "bits 3 to 6 lower guards and 7 to 10 upper guards"
abbrev pub lower_bit : ℕ
lower_bit = 3

abbrev pub upper_bit : Edition → ℕ
upper_bit y = lower_bit + y.clocks

-- v is from low to high
abbrev pub is_within : ℕ → ℕ → ℕ → Bool
is_within v low high = leb low v && leb v high

-- bit b is one of the clocks' bits from `from` on
abbrev pub of_clock : Edition → ℕ → ℕ → Bool
of_clock y from b = leb from b && ltb b (from + y.clocks)

-- "Bit 0: cost. Bit 1: reward." Bit 2 of an edge: "reset mask, one byte, bit j for clock j."
unfoldable pub field_of : Edition → Kind → ℕ → Field
field_of y LocationRecord b =
    cond (eqb b 0) Cost
    (cond (eqb b 1) Reward
    (cond (of_clock y bound_bit b) (Upper (b - bound_bit)) Unused))
field_of y EdgeRecord b =
    cond (eqb b 0) Cost
    (cond (eqb b 1) Reward
    (cond (eqb b 2) Reset
    (cond (of_clock y lower_bit b) (Lower (b - lower_bit))
    (cond (of_clock y (upper_bit y) b) (Upper (b - upper_bit y)) Unused))))

-- "Other bits, and bits of clocks from K on, stay clear."
unfoldable pub permitted_field : ℕ → Field → Bool
permitted_field k Cost = true
permitted_field k Reward = true
permitted_field k Reset = true
permitted_field k (Lower j) = ltb j k
permitted_field k (Upper j) = ltb j k
permitted_field k Unused = false

-- "cost not 0", and "Costs are −10,000 to 10,000"
unfoldable pub cost_in_range : ℤ → Bool
cost_in_range z = not (eqb (nat_abs z) 0) && leb (nat_abs z) 10000

-- "cost not 0, reward 1 to 10,000, mask 1 to 2^K − 1, upper 0 to 25, lower 1 to 25"
unfoldable pub in_range : ℕ → Field → ℕ → Bool
in_range k Cost v = cost_in_range (signed_of v)
in_range k Reward v = is_within v 1 10000
in_range k Reset v = is_within v 1 (2 ^ k - 1)
in_range k (Lower j) v = is_within v 1 25
in_range k (Upper j) v = is_within v 0 25
in_range k Unused v = false
