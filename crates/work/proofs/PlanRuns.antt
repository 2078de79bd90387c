-- An accepted plan of a sheet with nothing strict, read as a work plan: the pairs of its lasso are runs with n = 1, and the cycle takes, costs and earns
-- what the plan tells.
use mathlib.Core.Path.{◌≡◌, sym, ◌∙◌}
use mathlib.Core.Bool.{true}
use mathlib.Core.List.{List}
use Prim.Native.Nat.{ℕ, ◌+◌, ◌≤◌, ◌<◌}
use native.Mathlib.Omega.{arith}
use lib.ListN.{length, take}
use lib.Seq.{slice, length-slice}
use Rattle.automaton.specs.Times.{time}
use Rattle.nodes.specs.Meaning.{meaning, layout_of}
use Rattle.nodes.proofs.CheckedLaws.{sound, room}
use Rattle.schedules.specs.Closed.{is_closed}
use Rattle.schedules.specs.Pairs.{members}
use Rattle.schedules.specs.Turning.{stem_pairs, cycle_pairs}
use Rattle.schedules.specs.WorkPlan.{WorkPlan}
use Rattle.schedules.proofs.NumberPlans.{number_plan}
use Rattle.schedules.proofs.PlanTimes.{cycle_time}
use Rattle.contract.specs.Plan.{Answer, Buffers, Passed, step_on, start_of, Planned}
use Rattle.contract.proofs.Counts.{listed_few}
use Rattle.contract.proofs.JustWhen.{on_its_condition}
use Rattle.work.proofs.ClosedSheet.{some_clock}

module _ {bytes : List ℕ} {b b' : Buffers} {plan : Answer} (planned : Planned bytes b b' plan) (accepts : plan.refusal ≡ 0) where
  passes : Passed bytes b
  passes = ((on_its_condition bytes b plan.refusal planned.judged).just_0.0 accepts).0

  nodes_few : plan.n ≤ 2048
  nodes_few = listed_few (step_on bytes) (start_of bytes) b'.nodes plan.n (planned.accepted accepts).node_list
      ((on_its_condition bytes b plan.refusal planned.judged).just_0.0 accepts).1

  -- the potentials are in their buffer, and the lasso in its own
  pub potentials_there : plan.n ≤ length b'.potentials
  potentials_there = omega (arith, nodes_few, planned.lengths.potentials, passes.0.potentials)

  pub lasso_short : plan.s + plan.m ≤ 2048
  lasso_short = omega (arith, (planned.accepted accepts).short, nodes_few)

  pub lasso_there : plan.s + plan.m ≤ length b'.steps
  lasso_there = omega (arith, lasso_short, planned.lengths.steps, passes.0.steps)

  abbrev pub stem : List ℕ
  stem = take plan.s b'.steps

  abbrev pub cycle : List ℕ
  cycle = slice plan.s (plan.s + plan.m) b'.steps

  some_code : 0 < length cycle
  some_code = omega (arith, length-slice plan.s (plan.s + plan.m) b'.steps lasso_there, (planned.accepted accepts).lasso.some_step)

  module _ (closed : is_closed (meaning bytes) ≡ true) where
    pub lasso_runs : WorkPlan (meaning bytes) (stem_pairs stem cycle) (cycle_pairs cycle) (planned.accepted accepts).lasso.cost (planned.accepted accepts).lasso.reward
    lasso_runs = let l = (planned.accepted accepts).lasso in let ok = passes.1 in
        number_plan (layout_of bytes) (meaning bytes) (room bytes ok) (sound bytes ok) closed (some_clock bytes ok) l.stem some_code l.cycle

    pub plan_runs : WorkPlan (meaning bytes) (stem_pairs stem cycle) (cycle_pairs cycle) plan.cost plan.reward
    plan_runs = let x = (planned.accepted accepts).sums in rw (x.cost_is, x.reward_is) lasso_runs

    pub plan_time : time (members (cycle_pairs cycle)) ≡ plan.units
    plan_time = cycle_time stem cycle lasso_runs ∙ sym (planned.accepted accepts).sums.units_are
