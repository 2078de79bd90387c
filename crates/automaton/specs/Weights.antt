-- Weights and potentials, for any steps by code.
use Rattle.std.specs.Prelude.{◌≡◌, List, ℕ, ℤ, pos, ◌+ℤ◌, ◌-ℤ◌, ◌*ℤ◌, ◌≤ℤ◌}
use Rattle.std.proofs.Math.Option.{Option, some}
use Rattle.automaton.specs.Priced.{Priced}
use Rattle.automaton.specs.Walks.{Walk, Reachable}

-- "The weight of a step is q times cost minus p times reward"; so is that of a walk, a cycle or a run
unfoldable pub weight : ℤ → ℕ → ℤ → ℕ → ℤ
weight p q c r = pos q *ℤ c -ℤ p *ℤ pos r

module _ {S : Type 0} (step : S → ℕ → Option (Priced S)) (start : S) (p : ℤ) (q : ℕ) where
  -- π is feasible: no step from a reachable node leads to a potential above the node's plus the step's weight
  pub record Feasible (π : S → ℤ) : Type 0 where
    pub holds : (u : S) (code : ℕ) (v : Priced S) → Reachable step start u → step u code ≡ some v
        → π v.to ≤ℤ (π u +ℤ weight p q v.cost v.reward)

  -- "a potential is the least sum over walks from the start": z is that of u
  pub record Potential (u : S) (z : ℤ) : Type 0 where
    pub codes : List ℕ
    pub cost : ℤ
    pub reward : ℕ
    pub walk : Walk step start codes u cost reward
    pub attained : weight p q cost reward ≡ z
    pub least : (l : List ℕ) (c : ℤ) (r : ℕ) → Walk step start l u c r → z ≤ℤ weight p q c r
