-- The same of node numbers, by any layout that has room for the nodes: a lasso on numbers gives a work plan.
use mathlib.Core.Path.{◌≡◌, sym, ◌∙◌, subst}
use mathlib.Core.Bool.{true}
use mathlib.Core.List.{List}
use Prim.Native.Nat.{ℕ, ◌<◌}
use lib.IntN.{ℤ}
use lib.ListN.{length}
use Rattle.automaton.specs.Automaton.{Automaton}
use Rattle.automaton.specs.Nodes.{Node, is_node, start_node, Sound}
use Rattle.automaton.specs.Steps.{step}
use Rattle.automaton.specs.Walks.{Walk}
use Rattle.automaton.proofs.Reached.{start_is_node}
use Rattle.nodes.specs.Numbers.{Layout, number, step_by, start_number}
use Rattle.nodes.proofs.Carried.{Back}
use Rattle.nodes.proofs.NumberLaws.{Room, apart, walk_number}
use Rattle.schedules.specs.Closed.{is_closed}
use Rattle.schedules.specs.Turning.{stem_pairs, cycle_pairs}
use Rattle.schedules.specs.WorkPlan.{WorkPlan}
use Rattle.schedules.proofs.WorkPlans.{work_plan}

module _ (y : Layout) (A : Automaton) (room : Room y A) (o : Sound A) (closed : is_closed A ≡ true) where
  -- a walk on numbers as one on nodes
  NodeWalk : Node → List ℕ → ℕ → ℤ → ℕ → Type 0
  NodeWalk = Back (step A) (number y) (λ u. is_node A u ≡ true)

  pub number_plan : 0 < A.clocks → {x : ℕ} {stem cycle : List ℕ} {b c : ℤ} {q r : ℕ} → Walk (step_by y A) (start_number y A) stem x b q
      → 0 < length cycle → Walk (step_by y A) x cycle x c r → WorkPlan A (stem_pairs stem cycle) (cycle_pairs cycle) c r
  unfolding NodeWalk
  number_plan clock {x} {stem} {cycle} {b} {c} {q} {r} s l w =
      work_plan A o closed clock there.walk l (subst (λ (v : Node). Walk (step A) there.to cycle v c r) same back.walk)
    where
      there : NodeWalk (start_node A) stem x b q
      there = walk_number y A room o (start_is_node A o) s

      back : NodeWalk there.to cycle x c r
      back = walk_number y A room o there.holds (subst (λ (z : ℕ). Walk (step_by y A) z cycle x c r) (sym there.is) w)

      same : back.to ≡ there.to
      same = apart y A room back.to there.to back.holds there.holds (back.is ∙ sym there.is)
