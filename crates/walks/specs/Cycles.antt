-- Cycles that a walk from the start reaches: questions 13 and 14 put to a graph.
use Rattle.std.specs.Prelude.{◌≡◌, List, ℕ, ◌<◌, ℤ, pos, ◌≤ℤ◌, ◌<ℤ◌}
use Rattle.walks.specs.Walk.{at, atℤ, Reached, ArcCycle, Distinct}
use Rattle.walks.specs.Weight.{sum, total}

-- c is a simple cycle that a walk from the start reaches
pub record SimpleCycle (F T : List ℕ) (m : ℕ) (c : List ℕ) : Type 0 where
  pub hub : ℕ
  pub reached : Reached F T m hub
  pub cycle : ArcCycle F T m hub c
  pub simple : Distinct F c

-- question 13 answered yes: the reward of this cycle is above 0
pub record EarningArcs (F T : List ℕ) (m : ℕ) (reward : List ℕ) : Type 0 where
  pub arcs : List ℕ
  pub cycle : SimpleCycle F T m arcs
  pub earns : 0 < total (at reward) arcs

-- question 13 answered no: no cycle that a walk from the start reaches has a reward above 0
abbrev pub NoneEarns : List ℕ → List ℕ → ℕ → List ℕ → Type 0
NoneEarns F T m reward = (x : ℕ) (c : List ℕ) → Reached F T m x → ArcCycle F T m x c → total (at reward) c ≡ 0

-- question 14 answered yes: each cycle without reward that a walk from the start reaches costs 0 or more
abbrev pub NoIdleGain : List ℕ → List ℕ → ℕ → List ℤ → List ℕ → Type 0
NoIdleGain F T m cost reward =
    (x : ℕ) (c : List ℕ) → Reached F T m x → ArcCycle F T m x c → total (at reward) c ≡ 0 → pos 0 ≤ℤ sum (atℤ cost) c

-- question 14 answered no: this cycle without reward costs less than 0
pub record IdleGainArcs (F T : List ℕ) (m : ℕ) (cost : List ℤ) (reward : List ℕ) : Type 0 where
  pub arcs : List ℕ
  pub cycle : SimpleCycle F T m arcs
  pub no_reward : total (at reward) arcs ≡ 0
  pub gains : sum (atℤ cost) arcs <ℤ pos 0
