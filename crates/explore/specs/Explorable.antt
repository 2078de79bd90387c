-- What a call of `explore` needs.
use Rattle.std.specs.Prelude.{◌≡◌, ℕ, ◌≤◌}
use Rattle.sheet.specs.Fields.{edition_at}
use Rattle.sheet.specs.declared.Sheet.{Sheet}
use Rattle.explore.specs.Buffers.{GraphBuffers, HasRoom}

-- "locations L (1 to 12), clocks K (1 to 3), edges E (0 to 32)"; "Edition 2 allows K up to 4"
pub record CountsInRange (edition locations clocks edges : ℕ) : Type 0 where
  pub locations_in : (1 ≤ locations) × (locations ≤ 12)
  pub clocks_in : (1 ≤ clocks) × (clocks ≤ (edition_at edition).clocks)
  pub edges_in : edges ≤ 32

pub record Explorable (s : Sheet) (b : GraphBuffers) : Type 0 where
  pub not_refused : s.refusal ≡ 0
  pub counts : CountsInRange s.edition s.locations s.clocks s.edges
  pub room : HasRoom b
