-- Walks as runs: one that ends with an edge is the run of its pairs, and any from the start is that of its pairs and a last delay.
use mathlib.Core.Path.{◌≡◌, refl, ap, ap₂, subst}
use mathlib.Core.Bool.{true}
use mathlib.Core.List.{List, [], ◌∷◌, ◌++◌, zip_with}
use Prim.Native.Nat.{ℕ, zero, suc}
use lib.IntN.{ℤ}
use lib.ListN.{replicate}
use lib.Dec.{ltb}
use Rattle.automaton.specs.Tests.{one_more_if}
use Rattle.automaton.specs.Automaton.{Automaton}
use Rattle.automaton.specs.Nodes.{Node, is_node, start_node, Sound}
use Rattle.automaton.specs.Steps.{step}
use Rattle.automaton.specs.Walks.{Walk}
use Rattle.automaton.specs.Runs.{State, Member, delay, start_state}
use Rattle.automaton.proofs.Reached.{start_is_node}
use Rattle.schedules.specs.Closed.{is_closed}
use Rattle.schedules.specs.Pairs.{members, pairs_of}
use Rattle.schedules.specs.WholeRuns.{WholeRun}
use Rattle.schedules.specs.WalkTerms.{members_from, members_of, corner_state}
use Rattle.schedules.proofs.RunLaws.{runs_as, runs_before}
use Rattle.schedules.proofs.WalkedRuns.{walk_runs}
use Rattle.schedules.proofs.TurnLaws.{LastEdge, nothing_left}

zip_zeros : (f : ℕ → ℕ → ℕ) → f 0 0 ≡ 0 → (k : ℕ) → zip_with f (replicate k 0) (replicate k 0) ≡ replicate k 0
unfolding zip_with
zip_zeros f z zero = refl
zip_zeros f z (suc k) = ap₂ ◌∷◌ z (zip_zeros f z k)

start_corner : (A : Automaton) → corner_state (start_node A) ≡ start_state A
unfolding start_node
start_corner A = λ i. record { location = 0; values = zip_zeros (λ h k. one_more_if (ltb 0 k) h) refl A.clocks i }

module _ (A : Automaton) (o : Sound A) (closed : is_closed A ≡ true) where
  -- a walk that ends with an edge is the run of its pairs
  pub pairs_run : {e : ℕ} {u v : Node} {codes : List ℕ} {c : ℤ} {r : ℕ} → LastEdge e codes → is_node A u ≡ true → Walk (step A) u codes v c r
      → WholeRun A (corner_state u) (members (pairs_of codes)) (corner_state v) c r
  unfolding members_from
  pairs_run {codes = codes} l h w = runs_before (runs_as (ap (λ (k : ℕ). members (pairs_of codes) ++ (delay k ∷ [])) (nothing_left codes l)) refl refl
      (walk_runs A o closed h w))

  from_start : {ms : List Member} {t : State} {c : ℤ} {r : ℕ} → WholeRun A (corner_state (start_node A)) ms t c r → WholeRun A (start_state A) ms t c r
  from_start {ms} {t} {c} {r} = subst (λ (s : State). WholeRun A s ms t c r) (start_corner A)

  pub stem_runs : {e : ℕ} {v : Node} {codes : List ℕ} {c : ℤ} {r : ℕ} → LastEdge e codes → Walk (step A) (start_node A) codes v c r
      → WholeRun A (start_state A) (members (pairs_of codes)) (corner_state v) c r
  stem_runs l w = from_start (pairs_run l (start_is_node A o) w)

  -- every walk from the start
  pub start_runs : {v : Node} {codes : List ℕ} {c : ℤ} {r : ℕ} → Walk (step A) (start_node A) codes v c r
      → WholeRun A (start_state A) (members_of codes) (corner_state v) c r
  start_runs w = from_start (walk_runs A o closed (start_is_node A o) w)
