-- The decoded sheet.
use Rattle.std.specs.Prelude.{cond, List, [], ◌∷◌, ℕ, zero, suc, ◌+◌, eqb, pos, replicate, set}
use Rattle.std.proofs.Math.Option.{get_or}
use Rattle.sheet.specs.Bytes.{byte_at, signed_of}
use Rattle.sheet.specs.Fields.{bound_bit, lower_bit, upper_bit}
use Rattle.sheet.specs.Records.{field_at, record_at, edition_of, location_at, locations_in, clocks_in, edges_in}
use Rattle.sheet.specs.Questions.{check_of}
use Rattle.sheet.specs.declared.fields.Kind.{Kind}
use Rattle.sheet.specs.declared.fields.Kind.TheVariants.{LocationRecord, EdgeRecord}
use Rattle.sheet.specs.declared.Location.{Location}
use Rattle.sheet.specs.declared.Edge.{Edge}
use Rattle.sheet.specs.declared.Sheet.{Sheet}

-- n entries d, of which the first i are set to f 0, f 1, ..
unfoldable pub filled : {A : Type 0} → (ℕ → A) → A → ℕ → ℕ → List A
filled f d n zero = replicate n d
filled f d n (suc i) = set (filled f d n i) i (f i)

-- a byte for each of four clocks, whose bits begin at b; a clock that the edition does not have has no field
unfoldable pub clock_bytes : Kind → List ℕ → ℕ → ℕ → ℕ → List ℕ
clock_bytes y s at b absent = filled (λ j. get_or (field_at y s at (b + j)) absent) absent 4 (edition_of s).clocks

-- "An absent price is 0"
abbrev pub location_of : List ℕ → ℕ → Location
location_of s at = record {
  cost = signed_of (get_or (field_at LocationRecord s at 0) 0);
  reward = get_or (field_at LocationRecord s at 1) 0;
  upper = clock_bytes LocationRecord s at bound_bit 0;
}

-- "an absent reset mask resets nothing, an absent guard allows all": an absent lower guard is the byte 0, from 0 on, and an absent upper
-- guard is 255, above every byte that may stand there
abbrev pub edge_of : List ℕ → ℕ → Edge
edge_of s at = record {
  source = byte_at s (at + 2);
  target = byte_at s (at + 3);
  cost = signed_of (get_or (field_at EdgeRecord s at 0) 0);
  reward = get_or (field_at EdgeRecord s at 1) 0;
  reset = get_or (field_at EdgeRecord s at 2) 0;
  lower = clock_bytes EdgeRecord s at lower_bit 0;
  upper = clock_bytes EdgeRecord s at (upper_bit (edition_of s)) 255;
}

abbrev pub blank_location : Location
blank_location = record { cost = pos 0; reward = 0; upper = 0 ∷ 0 ∷ 0 ∷ 0 ∷ [] }

abbrev pub blank_edge : Edge
blank_edge = record { source = 0; target = 0; cost = pos 0; reward = 0; reset = 0; lower = 0 ∷ 0 ∷ 0 ∷ 0 ∷ []; upper = 0 ∷ 0 ∷ 0 ∷ 0 ∷ [] }

unfoldable pub locations_of : List ℕ → ℕ → List Location
locations_of s count = filled (λ i. location_of s (location_at s i)) blank_location 12 count

unfoldable pub edges_of : List ℕ → ℕ → ℕ → List Edge
edges_of s from count = filled (λ e. edge_of s (record_at EdgeRecord s from e)) blank_edge 32 count

abbrev pub decoded_sheet : List ℕ → Sheet
decoded_sheet s = record {
  refusal = 0;
  edition = byte_at s 0;
  locations = locations_in s;
  clocks = clocks_in s;
  edges = edges_in s;
  location = locations_of s (locations_in s);
  edge = edges_of s (location_at s (locations_in s)) (edges_in s);
}

-- "All numbers besides the refusal are 0."
abbrev pub refused_sheet : ℕ → Sheet
refused_sheet r = record {
  refusal = r;
  edition = 0;
  locations = 0;
  clocks = 0;
  edges = 0;
  location = replicate 12 blank_location;
  edge = replicate 32 blank_edge;
}

unfoldable pub read_of : List ℕ → Sheet
read_of s = cond (eqb (check_of s) 0) (decoded_sheet s) (refused_sheet (check_of s))
