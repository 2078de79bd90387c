-- Of an accepted plan of a sheet with nothing strict, the smallest potential is the weight of a run in whole units: the contract says that no run weighs
-- less, so this is the most that can be said of all runs.
use mathlib.Core.Path.{◌≡◌, subst}
use mathlib.Core.Bool.{true}
use mathlib.Core.List.{List}
use Prim.Native.Nat.{ℕ, ◌<◌}
use native.Mathlib.Omega.{arith}
use lib.IntN.{ℤ}
use lib.Signed.{◌≤ℤ◌}
use Rattle.automaton.specs.RunWeights.{NoRunBelow}
use Rattle.nodes.specs.Meaning.{meaning}
use Rattle.nodes.proofs.CheckedLaws.{sound}
use Rattle.schedules.specs.Closed.{is_closed}
use Rattle.schedules.specs.RunOfWeight.{RunOfWeight}
use Rattle.schedules.proofs.PotentialRuns.{potential_run, below_weight}
use Rattle.contract.specs.Plan.{Answer, Buffers, Planned}
use Rattle.contract.specs.Smallest.{smallest_potential}
use Rattle.contract.proofs.Smallest.{Among, smallest_among}
use Rattle.contract.proofs.OnNodes.{passed, on_nodes}
use Rattle.work.proofs.PlanRuns.{potentials_there}

module _ {bytes : List ℕ} {b b' : Buffers} {plan : Answer} (planned : Planned bytes b b' plan) (accepts : plan.refusal ≡ 0) where
  some_node : 0 < plan.n
  some_node = let p = planned.accepted accepts in omega (arith, p.short, p.lasso.some_step)

  smallest_entry : Among b'.potentials plan.n (smallest_potential plan.n b'.potentials)
  smallest_entry = smallest_among plan.n b'.potentials (potentials_there planned accepts) some_node

  module _ (closed : is_closed (meaning bytes) ≡ true) where
    pub smallest_run : RunOfWeight (meaning bytes) plan.p plan.q (smallest_potential plan.n b'.potentials)
    smallest_run = let e = (on_nodes planned accepts).entry smallest_entry.index smallest_entry.below in
        subst (RunOfWeight (meaning bytes) plan.p plan.q) smallest_entry.is
        (potential_run (meaning bytes) (sound bytes (passed planned accepts)) closed plan.p plan.q e.node _ e.potential)

    -- no greater number would do
    pub smallest_greatest : (m : ℤ) → NoRunBelow (meaning bytes) plan.p plan.q m → m ≤ℤ smallest_potential plan.n b'.potentials
    smallest_greatest m below = below_weight below smallest_run
