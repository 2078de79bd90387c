-- The lasso of an accepted plan can be stepped: the public step, asked from the start with each of its codes in turn, answers 0 each time and leads
-- through the nodes of the lasso, with its costs and rewards. What it answers along the cycle adds up to the units, the cost and the reward of the plan.
use mathlib.Core.Path.{◌≡◌, sym, ◌∙◌}
use mathlib.Core.List.{List}
use Prim.Native.Nat.{ℕ, ◌+◌}
use lib.Seq.{slice}
use Rattle.automaton.specs.Walks.{Reachable}
use Rattle.automaton.proofs.Walks.{reach_start, reach_walk}
use Rattle.step.specs.Step.{asked, units_asked}
use Rattle.step.proofs.AskedLaws.{walk_asked, asked_walk}
use Rattle.step.proofs.UnitLaws.{units_asked_lem}
use Rattle.contract.specs.Accepted.{Lasso, CycleSums}
use Rattle.contract.specs.Plan.{Answer, Buffers, Planned, step_on, start_of}
use Rattle.contract.proofs.OnNodes.{passed}

module _ {bytes : List ℕ} {before after : Buffers} {a : Answer} (h : Planned bytes before after a) (ok : a.refusal ≡ 0) where
  here : Reachable (step_on bytes) (start_of bytes) (start_of bytes)
  here = reach_start (step_on bytes) (start_of bytes)

  pub stepped_lasso : Lasso (asked bytes) (start_of bytes) a.p a.q a.s a.m after.steps
  stepped_lasso = let l = (h.accepted ok).lasso in let c = passed h ok in record {
    node = l.node;
    stem_cost = l.stem_cost;
    stem_reward = l.stem_reward;
    stem = walk_asked bytes c here l.stem;
    some_step = l.some_step;
    cost = l.cost;
    reward = l.reward;
    cycle = walk_asked bytes c (reach_walk (step_on bytes) (start_of bytes) here l.stem) l.cycle;
    simple = λ i j u v x d e r t w z. l.simple i j u v x d e r t (asked_walk bytes c here w) (asked_walk bytes c here z);
    earns = l.earns;
    exact = l.exact;
    rest = l.rest;
  }

  pub stepped_sums : CycleSums (asked bytes) (start_of bytes) a.p a.q stepped_lasso a.units a.cost a.reward
  unfolding stepped_lasso
  stepped_sums = let s = (h.accepted ok).sums in record { units_are = s.units_are; cost_is = s.cost_is; reward_is = s.reward_is }

  pub stepped_units : units_asked bytes stepped_lasso.node (slice a.s (a.s + a.m) after.steps) ≡ a.units
  stepped_units = units_asked_lem bytes stepped_lasso.cycle ∙ sym (h.accepted ok).sums.units_are
