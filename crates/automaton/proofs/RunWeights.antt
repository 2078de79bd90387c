-- What the least weight of runs says of their costs.
use mathlib.Core.Path.{◌≡◌}
use mathlib.Core.List.{List}
use mathlib.Core.Option.{some}
use Prim.Native.Nat.{ℕ, ◌<◌}
use native.Mathlib.Omega.{arith}
use lib.IntN.{ℤ, pos, ◌+ℤ◌, ◌*ℤ◌}
use lib.Signed.{◌≤ℤ◌}
use Rattle.integers.proofs.Parts.{add_parts, sub_parts, le_of, le_parts}
use Rattle.automaton.specs.Automaton.{Automaton}
use Rattle.automaton.specs.Priced.{Priced}
use Rattle.automaton.specs.Weights.{weight}
use Rattle.automaton.specs.Runs.{State, Member, run, start_state}
use Rattle.automaton.specs.RunWeights.{NoRunBelow}

-- In whatever nths: q times what a run costs is at least p times what it earns plus m. Divided by q, it undercuts the ratio by at most minus m over q.
pub run_costs : (A : Automaton) (p : ℤ) (q : ℕ) (m : ℤ) → NoRunBelow A p q m → (n : ℕ) → 0 < n → (members : List Member) (x : Priced State)
    → run A n (start_state A) members ≡ some x → (p *ℤ pos x.reward +ℤ pos n *ℤ m) ≤ℤ (pos q *ℤ x.cost)
unfolding NoRunBelow weight
run_costs A p q m none n h members x e =
    let c : ℤ = pos q *ℤ x.cost in
    let r : ℤ = p *ℤ pos x.reward in
    let k : ℤ = pos n *ℤ m in
    le_of (r +ℤ k) c (omega (arith, le_parts k (weight p q x.cost x.reward) (none n h members x e), sub_parts c r, add_parts r k))
