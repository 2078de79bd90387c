-- Questions 12 to 14, for any steps by code.
use Rattle.std.specs.Prelude.{◌≡◌, ℕ, ◌≤◌, ◌<◌, ℤ, pos, ◌<ℤ◌}
use Rattle.std.proofs.Math.Option.{Option}
use Rattle.automaton.specs.Priced.{Priced}
use Rattle.automaton.specs.Walks.{Reachable, ReachableCycle}

module _ (step : ℕ → ℕ → Option (Priced ℕ)) (start : ℕ) where
  -- 12. "Are at most 2,048 nodes reachable?" Answered no: 2,049 different ones are, node 0 to node 2048.
  pub record TooMany : Type 0 where
    pub node : ℕ → ℕ
    pub distinct : (i j : ℕ) → i ≤ 2048 → j ≤ 2048 → node i ≡ node j → i ≡ j
    pub reachable : (i : ℕ) → i ≤ 2048 → Reachable step start (node i)

  -- 13. "is a cycle with reward above 0 reachable?" Answered yes.
  pub record EarningCycle : Type 0 where
    pub cost : ℤ
    pub reward : ℕ
    pub cycle : ReachableCycle step start cost reward
    pub earns : 0 < reward

  -- 14. "does every reachable cycle without reward cost 0 or more?" Answered no: this one costs less.
  pub record IdleGain : Type 0 where
    pub cost : ℤ
    pub cycle : ReachableCycle step start cost 0
    pub gains : cost <ℤ pos 0

  -- "Reading stops at the first question answered no, with that number", and with 0 where each is answered yes. No two cases hold together,
  -- so each number is told if and only if its own case holds.
  pub data Verdict (refusal : ℕ) : Type 0 where
    too_many : refusal ≡ 12 → TooMany → Verdict refusal
    none_earns : refusal ≡ 13 → ¬ TooMany → ¬ EarningCycle → Verdict refusal
    idle_gain : refusal ≡ 14 → ¬ TooMany → EarningCycle → IdleGain → Verdict refusal
    all_yes : refusal ≡ 0 → ¬ TooMany → EarningCycle → ¬ IdleGain → Verdict refusal
