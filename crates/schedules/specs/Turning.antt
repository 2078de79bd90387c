-- "The cycle is turned so that it starts just after its first edge; the stem grows by that part."
use Rattle.std.specs.Prelude.{cond, List, [], ◌∷◌, ◌++◌, ℕ}
use Rattle.schedules.specs.Pairs.{Pair, is_edge, pairs_of}

-- the step codes up to the first edge, with it
unfoldable pub until_edge : List ℕ → List ℕ
until_edge [] = []
until_edge (code ∷ codes) = code ∷ cond (is_edge code) [] (until_edge codes)

-- and those after it
unfoldable pub past_edge : List ℕ → List ℕ
past_edge [] = []
past_edge (code ∷ codes) = cond (is_edge code) codes (past_edge codes)

-- the pairs of a lasso, given by the step codes of its stem and of its cycle
abbrev pub stem_pairs : List ℕ → List ℕ → List Pair
stem_pairs stem cycle = pairs_of (stem ++ until_edge cycle)

abbrev pub cycle_pairs : List ℕ → List Pair
cycle_pairs cycle = pairs_of (past_edge cycle ++ until_edge cycle)
