-- Runs in whole units of a given weight.
use Rattle.std.specs.Prelude.{◌≡◌, List, ℕ, ℤ}
use Rattle.automaton.specs.Automaton.{Automaton}
use Rattle.automaton.specs.Weights.{weight}
use Rattle.automaton.specs.Runs.{State, Member, start_state}
use Rattle.schedules.specs.WholeRuns.{WholeRun}

-- of some run with n = 1 from the start, "q times its cost minus p times its reward" is z
pub record RunOfWeight (A : Automaton) (p : ℤ) (q : ℕ) (z : ℤ) : Type 0 where
  pub members : List Member
  pub state : State
  pub cost : ℤ
  pub reward : ℕ
  pub runs : WholeRun A (start_state A) members state cost reward
  pub weighs : weight p q cost reward ≡ z
