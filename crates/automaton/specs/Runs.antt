-- Runs in nths. Costs and rewards stand times n.
use Rattle.std.specs.Prelude.{Bool, ◌&&◌, List, map, ℕ, ◌+◌, ◌*◌, ltb, eqb, pos, ◌*ℤ◌, replicate}
use Rattle.std.proofs.Math.Option.{Option}
use Rattle.automaton.specs.Tests.{only}
use Rattle.automaton.specs.Bounds.{upper_holds_nths, lower_holds_nths}
use Rattle.automaton.specs.Ranks.{mask}
use Rattle.automaton.specs.Automaton.{Automaton, in_bounds, in_guards}
use Rattle.automaton.specs.Priced.{Priced, chain}

-- "For n ≥ 1 a state is a location and K clock values in nths"
pub record State : Type 0 where
  pub location : ℕ
  pub values : List ℕ

-- a member of a run: a delay in nths, or an edge by its number
pub data Member : Type 0 where
  delay : ℕ → Member
  edge : ℕ → Member

-- "within the location's bounds"
abbrev pub within_bounds : Automaton → ℕ → State → Bool
within_bounds A n s = in_bounds (upper_holds_nths n) A s.location s.values

-- "A delay of d ≥ 0 nths adds d to every clock"
abbrev pub later : ℕ → State → State
later d s = record { location = s.location; values = map (λ v. v + d) s.values }

-- "An edge leads from its source to its target, needs its guards, sets the masked clocks to 0, and must land within the target's bounds."
abbrev pub after : Automaton → ℕ → State → State
after A e s = record { location = A.target e; values = mask (A.reset e) s.values }

abbrev pub may_take : Automaton → ℕ → ℕ → State → Bool
may_take A n e s = ltb e A.edges && (eqb (A.source e) s.location
    && (in_guards (lower_holds_nths n) (upper_holds_nths n) A e s.values && within_bounds A n (after A e s)))

-- One member, where it is allowed. A delay "must end within the location's bounds".
-- "The run's cost times n is n times its edges' costs plus each delay in nths times the rate of its location; reward likewise"
unfoldable pub takes : Automaton → ℕ → State → Member → Option (Priced State)
takes A n s (delay d) = only (within_bounds A n (later d s))
    (record { to = later d s; cost = pos d *ℤ A.cost_rate s.location; reward = d * A.reward_rate s.location })
takes A n s (edge e) = only (may_take A n e s)
    (record { to = after A e s; cost = pos n *ℤ A.cost e; reward = n * A.reward e })

-- "A run is a list of delays and edges of any length and in any order .. each .. from the state that the one before left. A list with a member
-- that is not allowed there is no run."
abbrev pub run : Automaton → ℕ → State → List Member → Option (Priced State)
run A n = chain (takes A n)

-- "The start is location 0 with all clocks 0."
abbrev pub start_state : Automaton → State
start_state A = record { location = 0; values = replicate A.clocks 0 }
