-- The comparison theorem: with a feasible potential no loop of a run in nths is below the ratio, and no run at all, whether it comes back or not,
-- by more than the smallest potential.
use mathlib.Core.Path.{◌≡◌, sym, ap, ◌∙◌, subst}
use mathlib.Core.List.{List}
use Prim.Native.Nat.{ℕ, zero, suc, ◌≤◌, ◌<◌}
use native.Mathlib.Omega.{arith}
use lib.IntN.{ℤ, pos}
use lib.ListN.{take}
use lib.Seq.{slice}
use lib.Signed.{◌≤ℤ◌}
use Rattle.automaton.specs.Automaton.{Automaton}
use Rattle.automaton.specs.Nodes.{Node, start_node}
use Rattle.automaton.specs.Steps.{step}
use Rattle.automaton.specs.Walks.{Reachable}
use Rattle.automaton.specs.Weights.{weight, Feasible}
use Rattle.automaton.specs.Runs.{State, Member, start_state}
use Rattle.automaton.specs.Loops.{Loop, NoLoopBelow}
use Rattle.automaton.specs.RunWeights.{NoRunBelow}
use Rattle.automaton.proofs.Thresholds.{node_at, start_node_lem}
use Rattle.automaton.proofs.Falls.{Falls, falls_loop, falls_least, sum_zero, sum_least}
use Rattle.automaton.proofs.Weights.{weight_ratio}
use Rattle.automaton.proofs.Covers.{Φ, Covered, Passes, start_covered, run_passes}

module _ (A : Automaton) (few : A.edges ≤ 32) (p : ℤ) (q : ℕ) (π : Node → ℤ) (ok : Feasible (step A) (start_node A) p q π) where
  -- a loop weighs at least 0
  pub loop_weighs : (n : ℕ) → 0 < n → (members : List Member) (c : ℤ) (r : ℕ) → Loop A n members c r → pos 0 ≤ℤ weight p q c r
  loop_weighs zero h members c r l = absurd (omega arith)
  loop_weighs (suc n) h members c r l = falls_loop
      (subst (λ (s : State). Falls (Φ π (suc n) l.first.to) (Φ π (suc n) s) (weight p q c r)) (sym l.same)
      ((run_passes A p q π ok few n l.first.to (slice l.i l.j members) (record { to = l.last.to; cost = c; reward = r }) l.between
      ).falls covered))
    where
      covered : Covered A (suc n) l.first.to
      covered = (run_passes A p q π ok few n (start_state A) (take l.i members) l.first l.place_i).covers (start_covered A (suc n))

  -- demand 3
  pub no_loop_below : NoLoopBelow A p q
  unfolding NoLoopBelow
  no_loop_below n h members c r l = (weight_ratio p q c r).0 (loop_weighs n h members c r l)

  -- the companion for every run, whether it comes back or not
  pub no_run_below : (m : ℤ) → ((u : Node) → Reachable (step A) (start_node A) u → m ≤ℤ π u) → π (start_node A) ≡ pos 0 → NoRunBelow A p q m
  unfolding NoRunBelow
  no_run_below m least begins zero h members x e = absurd (omega arith)
  no_run_below m least begins (suc n) h members x e = falls_least (passes.falls begun)
      (unfold Φ in sum_zero (suc n) (λ t. π (node_at (suc n) (start_state A) t)) (λ t. ap π (start_node_lem A (suc n) t) ∙ begins))
      (unfold Φ in sum_least (suc n) (λ t. π (node_at (suc n) x.to t)) m (λ t k. least (node_at (suc n) x.to t) ((passes.covers begun).node t k)))
    where
      begun : Covered A (suc n) (start_state A)
      begun = start_covered A (suc n)

      passes : Passes A π (suc n) (weight p q x.cost x.reward) (start_state A) x.to
      passes = run_passes A p q π ok few n (start_state A) members x e
