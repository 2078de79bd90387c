-- Where nothing is strict, a least potential is the weight of a run in whole units.
use mathlib.Core.Path.{◌≡◌, subst}
use mathlib.Core.Bool.{true}
use Prim.Native.Nat.{ℕ}
use native.Mathlib.Omega.{arith}
use lib.IntN.{ℤ}
use lib.Signed.{◌≤ℤ◌}
use Rattle.integers.proofs.Products.{one_times}
use Rattle.automaton.specs.Automaton.{Automaton}
use Rattle.automaton.specs.Nodes.{Node, start_node, Sound}
use Rattle.automaton.specs.Steps.{step}
use Rattle.automaton.specs.Weights.{weight, Potential}
use Rattle.automaton.specs.RunWeights.{NoRunBelow}
use Rattle.schedules.specs.Closed.{is_closed}
use Rattle.schedules.specs.RunOfWeight.{RunOfWeight}
use Rattle.schedules.specs.WalkTerms.{members_of, corner_state}
use Rattle.schedules.proofs.FromStart.{start_runs}

-- the walk that attains it, read as a run
pub potential_run : (A : Automaton) → Sound A → is_closed A ≡ true → (p : ℤ) (q : ℕ) (u : Node) (z : ℤ) → Potential (step A) (start_node A) p q u z
    → RunOfWeight A p q z
potential_run A o closed p q u z h = record {
  members = members_of h.codes;
  state = corner_state u;
  cost = h.cost;
  reward = h.reward;
  runs = start_runs A o closed h.walk;
  weighs = h.attained;
}

-- what no run is below is no more than the weight of a run
pub below_weight : {A : Automaton} {p : ℤ} {q : ℕ} {m z : ℤ} → NoRunBelow A p q m → RunOfWeight A p q z → m ≤ℤ z
unfolding NoRunBelow
below_weight {p = p} {q = q} {m = m} below r = subst (λ (w : ℤ). m ≤ℤ w) r.weighs
    (subst (λ (y : ℤ). y ≤ℤ weight p q r.cost r.reward) (one_times m) (below 1 (omega arith) r.members _ r.runs.is_run))
