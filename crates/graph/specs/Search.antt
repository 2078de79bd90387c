-- What the private functions of the search promise each other. Only private functions go by this file.
use Rattle.std.specs.Prelude.{List, ℕ, ◌<◌, ℤ, Option, Some, None}
use Rattle.std.specs.declared.ops.Range.{Range}
use Rattle.walks.specs.SearchTerms.{Ended, Climbed}
use Rattle.graph.specs.Answer.{CycleFound, PotentialsFound}

-- the round has come to an end: v fell, or nothing did
abbrev pub EndedAt : List ℕ → List ℕ → (ℕ → ℕ) → ℕ → List ℕ → List ℕ → List ℕ → ℕ → ℕ → Option ℕ → Type 0
EndedAt F T W m D par st b n None = Ended F T W m D par st b n n
EndedAt F T W m D par st b n (Some v) = (v < n) × Ended F T W m D par st b n v

-- the climb from v: a cycle of negative weight stands in a part of climbed, or there is none
abbrev pub ClimbedTo : List ℕ → List ℕ → (ℕ → ℕ) → ℕ → List ℕ → List ℕ → List ℕ → ℕ → ℕ → Option (Range ℕ) → Type 0
ClimbedTo F T W m D st climbed n v None = Climbed F T W m D st climbed n v 0 0
ClimbedTo F T W m D st climbed n v (Some part) = (part.start < part.end) × Climbed F T W m D st climbed n v part.start part.end

-- a cycle of k arcs, or the potentials
abbrev pub SearchFound : List ℕ → List ℕ → (ℕ → ℤ) → ℕ → List ℤ → List ℤ → List ℕ → List ℕ → Option ℕ → Type 0
SearchFound F T weight n potential potential' cycle cycle' (Some k) = CycleFound F T weight n k potential potential' cycle cycle'
SearchFound F T weight n potential potential' cycle cycle' None = PotentialsFound F T weight n potential potential' cycle cycle'
