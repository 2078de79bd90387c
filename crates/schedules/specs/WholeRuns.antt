-- Runs in whole units: those in nths with n = 1.
use Rattle.std.specs.Prelude.{◌≡◌, List, ℕ, ℤ}
use Rattle.std.proofs.Math.Option.{some}
use Rattle.automaton.specs.Automaton.{Automaton}
use Rattle.automaton.specs.Runs.{State, Member, run}

-- the members are a run with n = 1 from s to t, which costs c and earns r
pub record WholeRun (A : Automaton) (s : State) (ms : List Member) (t : State) (c : ℤ) (r : ℕ) : Type 0 where
  pub is_run : run A 1 s ms ≡ some (record { to = t; cost = c; reward = r })
