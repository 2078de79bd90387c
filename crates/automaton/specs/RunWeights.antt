-- What every run in nths weighs at least, whether it comes back or not.
use Rattle.std.specs.Prelude.{◌≡◌, List, ℕ, ◌<◌, ℤ, pos, ◌*ℤ◌, ◌≤ℤ◌}
use Rattle.std.proofs.Math.Option.{some}
use Rattle.automaton.specs.Automaton.{Automaton}
use Rattle.automaton.specs.Priced.{Priced}
use Rattle.automaton.specs.Weights.{weight}
use Rattle.automaton.specs.Runs.{State, Member, run, start_state}

-- "For each n and every run in nths from the start, repeating or not, q times its cost minus p times its reward is at least" m.
-- The cost and the reward of a run stand times n here, and so its weight does. The other side therefore is n times m; divided by n, this is the sentence.
unfoldable pub NoRunBelow : Automaton → ℤ → ℕ → ℤ → Type 0
NoRunBelow A p q m = (n : ℕ) → 0 < n → (members : List Member) (x : Priced State) → run A n (start_state A) members ≡ some x
    → (pos n *ℤ m) ≤ℤ weight p q x.cost x.reward
