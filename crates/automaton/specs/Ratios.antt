-- The least ratio of the reachable cycles, for any steps by code.
use Rattle.std.specs.Prelude.{◌≡◌, ℕ, ◌<◌, ℤ, pos, ◌*ℤ◌, ◌≤ℤ◌}
use Rattle.std.proofs.Math.Option.{Option}
use Rattle.integers.specs.Lowest.{Lowest}
use Rattle.automaton.specs.Priced.{Priced}
use Rattle.automaton.specs.Walks.{ReachableCycle}

-- "Its ratio is cost over reward", so only a cycle that earns has one: p/q, "in lowest terms with q ≥ 1", is the ratio of one, and none is smaller
pub record LeastRatio {S : Type 0} (step : S → ℕ → Option (Priced S)) (start : S) (p : ℤ) (q : ℕ) : Type 0 where
  pub lowest : Lowest p q
  pub cost : ℤ
  pub reward : ℕ
  pub cycle : ReachableCycle step start cost reward
  pub earns : 0 < reward
  pub exact : pos q *ℤ cost ≡ p *ℤ pos reward
  pub none_below : (c : ℤ) (r : ℕ) → 0 < r → ReachableCycle step start c r → (p *ℤ pos r) ≤ℤ (pos q *ℤ c)
