-- The floor's list of "wait, then change phase": pairs of whole units to wait and an edge number.
use Rattle.std.specs.Prelude.{Bool, cond, List, [], ◌∷◌, map, ℕ, ◌+◌, leb}
use Rattle.automaton.specs.Runs.{Member, delay, edge}
use Rattle.automaton.specs.Times.{units_of}

pub record Pair : Type 0 where
  pub wait : ℕ
  pub edge : ℕ

-- "one for the waits and one for the edge numbers": the two lists of some pairs, in their order
abbrev pub waits : List Pair → List ℕ
waits = map (λ p. p.wait)

abbrev pub edge_numbers : List Pair → List ℕ
edge_numbers = map (λ p. p.edge)

-- the members of a run that the pairs stand for
unfoldable pub members : List Pair → List Member
members [] = []
members (p ∷ ps) = delay p.wait ∷ edge p.edge ∷ members ps

-- "Codes 0 to 31 are edges, 32 is one unit of delay, 33 is a region move."
abbrev pub is_edge : ℕ → Bool
is_edge code = leb code 31

-- The pairs of a list of step codes, with w units of the first wait behind: units add up, region moves take no time, and an edge ends a pair.
unfoldable pub pairs_from : ℕ → List ℕ → List Pair
pairs_from w [] = []
pairs_from w (code ∷ codes) = cond (is_edge code) (record { wait = w; edge = code } ∷ pairs_from 0 codes) (pairs_from (w + units_of code) codes)

abbrev pub pairs_of : List ℕ → List Pair
pairs_of = pairs_from 0
