-- One step by the records that it needs: that of its edge, and that of the location which the edge leads to or which a delay stays in.
use Rattle.std.specs.Prelude.{◌≡◌, Bool, cond, ◌&&◌, not, ℕ, ◌<◌, leb, ltb, eqb}
use Rattle.sheet.specs.Decoded.{blank_edge}
use Rattle.sheet.specs.declared.Edge.{Edge}
use Rattle.sheet.specs.declared.Location.{Location}
use Rattle.sheet.specs.declared.Sheet.{Sheet}
use Rattle.nodes.specs.Numbers.{layout_at, bits_of, step_by}
use Rattle.nodes.specs.Decoded.{location_in, edge_in, alone}
use Rattle.region.specs.Answers.{Stepped, refused_step, answered}

-- the location that a number tells
abbrev pub location_told : ℕ → ℕ → ℕ
location_told number edition = bits_of number 4 (layout_at edition).location

-- "Codes 0 to 31 are edges": this one does not leave the number's location
abbrev pub leaves_elsewhere : ℕ → ℕ → ℕ → ℕ → Bool
leaves_elsewhere number edition code source = leb code 31 && not (eqb source (location_told number edition))

abbrev pub location_needed : ℕ → ℕ → ℕ → ℕ → ℕ
location_needed number edition code target = cond (leb code 31) target (location_told number edition)

-- The step of a sheet of this edition, with these counts of clocks and edges. Where the records are those of a sheet it is the sheet's own step, which is
-- proved (proofs/RecordLaws.antt: by_records).
unfoldable pub step_by_records : (number code edition clocks edges : ℕ) → Edge → Location → Stepped
step_by_records number code edition clocks edges edge location =
    cond (leb code 31)
    (cond (ltb code edges) (answered code (step_by (layout_at edition) (alone edition clocks edge location) number 0)) (refused_step 16))
    (answered code (step_by (layout_at edition) (alone edition clocks blank_edge location) number code))

-- the records, the edition and the counts are those of the sheet s
pub record RecordsOf (s : Sheet) (number code edition clocks edges : ℕ) (edge : Edge) (location : Location) : Type 0 where
  pub edition_is : edition ≡ s.edition
  pub clocks_are : clocks ≡ s.clocks
  pub edges_are : edges ≡ s.edges
  pub edge_is : code < 32 → edge ≡ edge_in s code
  pub location_is : location ≡ location_in s (location_needed number edition code edge.target)
