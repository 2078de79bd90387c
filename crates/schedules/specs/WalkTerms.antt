-- Step codes and nodes in the words of runs. Only laws and private functions go by this file.
use Rattle.std.specs.Prelude.{cond, List, [], ◌∷◌, ◌++◌, ℕ, ◌+◌}
use Rattle.automaton.specs.Nodes.{Node, point}
use Rattle.automaton.specs.Runs.{State, Member, delay}
use Rattle.automaton.specs.Times.{units_of}
use Rattle.schedules.specs.Pairs.{is_edge, members, pairs_from}

-- a node as a state with n = 1: its clocks stand at the corner point
abbrev pub corner_state : Node → State
corner_state u = record { location = u.location; values = point u }

-- the units that remain after the last edge
unfoldable pub rest_from : ℕ → List ℕ → ℕ
rest_from w [] = w
rest_from w (code ∷ codes) = cond (is_edge code) (rest_from 0 codes) (rest_from (w + units_of code) codes)

abbrev pub rest_of : List ℕ → ℕ
rest_of = rest_from 0

-- The members that a list of step codes stands for: those of its pairs, and then a delay of what remains.
unfoldable pub members_from : ℕ → List ℕ → List Member
members_from w codes = members (pairs_from w codes) ++ (delay (rest_from w codes) ∷ [])

abbrev pub members_of : List ℕ → List Member
members_of = members_from 0
