-- Walks, reachable nodes and cycles, for any steps by code: those of an automaton A are `step A` from `start_node A`, and node numbers have theirs.
use Rattle.std.specs.Prelude.{◌≡◌, List, ℕ, ◌<◌, length, ℤ}
use Rattle.std.proofs.Math.Option.{Option, some}
use Rattle.automaton.specs.Priced.{Priced, chain}

module _ {S : Type 0} (step : S → ℕ → Option (Priced S)) where
  -- the list of step codes leads from u to v, costs c and earns r
  pub record Walk (u : S) (codes : List ℕ) (v : S) (c : ℤ) (r : ℕ) : Type 0 where
    pub walks : chain step u codes ≡ some (record { to = v; cost = c; reward = r })

  -- "A cycle is a walk of at least one step back to its node." This one costs c and earns r.
  pub record Cycle (u : S) (c : ℤ) (r : ℕ) : Type 0 where
    pub codes : List ℕ
    pub some_step : 0 < length codes
    pub back : Walk u codes u c r

  module _ (start : S) where
    -- some list of step codes leads from the start to u
    pub record Reachable (u : S) : Type 0 where
      pub codes : List ℕ
      pub cost : ℤ
      pub reward : ℕ
      pub walk : Walk start codes u cost reward

    -- a cycle of a reachable node
    pub record ReachableCycle (c : ℤ) (r : ℕ) : Type 0 where
      pub node : S
      pub reached : Reachable node
      pub cycle : Cycle node c r
