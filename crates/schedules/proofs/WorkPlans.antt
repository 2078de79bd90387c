-- The turned pairs of a lasso are a work plan, which costs and earns what the lasso's cycle does.
use mathlib.Core.Path.{◌≡◌, refl, sym, ap, ◌∙◌}
use mathlib.Core.Bool.{true}
use mathlib.Core.List.{List, ◌++◌}
use mathlib.Core.Option.{some}
use Prim.Native.Nat.{ℕ, ◌+◌, ◌<◌}
use native.Mathlib.Nat.{add_comm}
use lib.IntN.{ℤ, ◌+ℤ◌, +ℤ_comm}
use lib.ListN.{length}
use Rattle.automaton.specs.Automaton.{Automaton}
use Rattle.automaton.specs.Priced.{Priced, chain}
use Rattle.automaton.specs.Nodes.{Node, is_node, start_node, Sound}
use Rattle.automaton.specs.Steps.{step}
use Rattle.automaton.specs.Walks.{Walk, Reachable}
use Rattle.automaton.proofs.Chains.{Split, then_split, chain_append}
use Rattle.automaton.proofs.Walks.{walk_append, reach_walk}
use Rattle.automaton.proofs.Reached.{reached_is_node}
use Rattle.schedules.specs.Closed.{is_closed}
use Rattle.schedules.specs.Turning.{until_edge, past_edge, stem_pairs, cycle_pairs}
use Rattle.schedules.specs.WorkPlan.{WorkPlan}
use Rattle.schedules.specs.WalkTerms.{corner_state}
use Rattle.schedules.proofs.RunLaws.{runs_as}
use Rattle.schedules.proofs.EdgeInCycle.{edge_in_cycle}
use Rattle.schedules.proofs.TurnLaws.{parts_whole, TurnedAt, until_ends, last_after, pairs_end}
use Rattle.schedules.proofs.FromStart.{pairs_run, stem_runs}

module _ (A : Automaton) (o : Sound A) (closed : is_closed A ≡ true) (clock : 0 < A.clocks) where
  -- a cycle with an edge, in its two parts
  record Parts (u : Node) (cycle : List ℕ) (c : ℤ) (r : ℕ) : Type 0 where
    turn : Node
    until_cost : ℤ
    until_reward : ℕ
    until : Walk (step A) u (until_edge cycle) turn until_cost until_reward
    after_cost : ℤ
    after_reward : ℕ
    after : Walk (step A) turn (past_edge cycle) u after_cost after_reward
    cost : until_cost +ℤ after_cost ≡ c
    reward : until_reward + after_reward ≡ r

  parts_of : {u : Node} {cycle : List ℕ} {c : ℤ} {r : ℕ} → Walk (step A) u cycle u c r → Parts u cycle c r
  parts_of {u} {cycle} {c} {r} w = record {
    turn = split.first.to;
    until_cost = split.first.cost;
    until_reward = split.first.reward;
    until = record { walks = split.took };
    after_cost = split.second.cost;
    after_reward = split.second.reward;
    after = record {
      walks = split.went ∙ ap some (λ i. record {
        to = ap (λ (x : Priced Node). x.to) split.total i;
        cost = split.second.cost;
        reward = split.second.reward;
      });
    };
    cost = ap (λ (x : Priced Node). x.cost) split.total;
    reward = ap (λ (x : Priced Node). x.reward) split.total;
  }
    where
      back : Priced Node
      back = record { to = u; cost = c; reward = r }

      split : Split (chain (step A) u (until_edge cycle)) (λ v. chain (step A) v (past_edge cycle)) back
      split = then_split (chain (step A) u (until_edge cycle)) (λ v. chain (step A) v (past_edge cycle)) back
          (sym (chain_append (step A) u (until_edge cycle) (past_edge cycle)) ∙ ap (chain (step A) u) (parts_whole cycle) ∙ w.walks)

  pub work_plan : {u : Node} {stem cycle : List ℕ} {b c : ℤ} {q r : ℕ} → Walk (step A) (start_node A) stem u b q
      → 0 < length cycle → Walk (step A) u cycle u c r → WorkPlan A (stem_pairs stem cycle) (cycle_pairs cycle) c r
  work_plan {u} {stem} {cycle} {b} {c} {q} {r} s l w = record {
    state = corner_state parts.turn;
    stem_cost = b +ℤ parts.until_cost;
    stem_reward = q + parts.until_reward;
    comes = stem_runs A o closed (last_after stem (until_edge cycle) turned.last) (walk_append (step A) s parts.until);
    round = runs_as refl (+ℤ_comm parts.after_cost parts.until_cost ∙ parts.cost) (add_comm parts.after_reward parts.until_reward ∙ parts.reward)
        (pairs_run A o closed (last_after (past_edge cycle) (until_edge cycle) turned.last)
        (node parts.turn (reach_walk (step A) (start_node A) there parts.until))
        (walk_append (step A) parts.after parts.until));
    turning = turned.edge;
    stem_ends = pairs_end (stem ++ until_edge cycle) (last_after stem (until_edge cycle) turned.last);
    cycle_ends = pairs_end (past_edge cycle ++ until_edge cycle) (last_after (past_edge cycle) (until_edge cycle) turned.last);
  }
    where
      node : (v : Node) → Reachable (step A) (start_node A) v → is_node A v ≡ true
      node = reached_is_node A o

      there : Reachable (step A) (start_node A) u
      there = record { codes = stem; cost = b; reward = q; walk = s }

      parts : Parts u cycle c r
      parts = parts_of w

      turned : TurnedAt cycle
      turned = until_ends cycle (edge_in_cycle A o clock (node u there) l w)
