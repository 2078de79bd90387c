-- The time that elapses: of a walk in units, by its step codes, and of a run in nths.
use Rattle.std.specs.Prelude.{cond, List, [], ◌∷◌, ℕ, ◌+◌, eqb}
use Rattle.automaton.specs.Runs.{Member, delay, edge}

-- "the units elapsed: 1 for code 32, otherwise 0"
abbrev pub units_of : ℕ → ℕ
units_of code = cond (eqb code 32) 1 0

-- "Whatever sums steps sums this too": the units of a walk
unfoldable pub units_along : List ℕ → ℕ
units_along [] = 0
units_along (code ∷ codes) = units_of code + units_along codes

-- the time of a run in nths is the sum of its delays
unfoldable pub time : List Member → ℕ
time [] = 0
time (delay d ∷ members) = d + time members
time (edge e ∷ members) = time members
