-- Automata with no strict bound and no strict guard, the only ones that a work plan in whole units is made for.
use Rattle.std.specs.Prelude.{Bool, ◌&&◌, ℕ, ◌%◌, eqb}
use Rattle.automaton.specs.Automaton.{Automaton}
use Rattle.sheet.specs.Questions.{each, where_there}

-- "An upper byte 2c means clock < c, 2c + 1 means clock ≤ c": one that is not strict is odd
abbrev pub upper_closed : ℕ → Bool
upper_closed u = eqb (u % 2) 1

-- "A lower byte 2c means clock ≥ c, 2c + 1 means clock > c": one that is not strict is even
abbrev pub lower_closed : ℕ → Bool
lower_closed l = eqb (l % 2) 0

-- no bound of a location is strict
unfoldable pub bounds_closed : Automaton → Bool
bounds_closed A = each A.locations (λ l. each A.clocks (λ j. upper_closed (A.bound l j)))

-- no guard of an edge is strict; an absent one is not
unfoldable pub guards_closed : Automaton → Bool
guards_closed A = each A.edges (λ e. each A.clocks (λ j. lower_closed (A.lower e j)) && each A.clocks (λ j. where_there upper_closed (A.upper e j)))

-- 18. Is there no strict bound and no strict guard, whether a run comes to it or not?
unfoldable pub is_closed : Automaton → Bool
is_closed A = bounds_closed A && guards_closed A
