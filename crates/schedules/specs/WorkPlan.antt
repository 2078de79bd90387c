-- A work plan: "Read as a run with n = 1, the pairs keep every bound, come round exactly".
use Rattle.std.specs.Prelude.{◌≡◌, List, [], ◌∷◌, ◌++◌, ℕ, ℤ}
use Rattle.automaton.specs.Automaton.{Automaton}
use Rattle.automaton.specs.Runs.{State, start_state}
use Rattle.schedules.specs.Pairs.{Pair, members}
use Rattle.schedules.specs.WholeRuns.{WholeRun}

-- there is a last pair, and it takes edge e
pub record EndsWith (e : ℕ) (pairs : List Pair) : Type 0 where
  pub before : List Pair
  pub wait : ℕ
  pub is : pairs ≡ before ++ (record { wait = wait; edge = e } ∷ [])

-- The stem leads from the start to a state, and the cycle from that state back to it; the cycle costs c and earns r.
-- A list of members that breaks a bound or a guard is no run, so every bound is kept.
pub record WorkPlan (A : Automaton) (stem cycle : List Pair) (c : ℤ) (r : ℕ) : Type 0 where
  pub state : State
  pub stem_cost : ℤ
  pub stem_reward : ℕ
  pub comes : WholeRun A (start_state A) (members stem) state stem_cost stem_reward
  pub round : WholeRun A state (members cycle) state c r
  -- the cycle "starts just after its first edge": with that edge the stem ends, and the cycle too
  pub turning : ℕ
  pub stem_ends : EndsWith turning stem
  pub cycle_ends : EndsWith turning cycle
