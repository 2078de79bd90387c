-- The definitions compute: small cases, each by computation alone. Bench is 01's sheet of eighteen bytes as an automaton.
use mathlib.Core.Path.{◌≡◌, refl}
use mathlib.Core.Bool.{Bool, true, false, cond, ◌&&◌, ◌||◌}
use mathlib.Core.List.{List, [], ◌∷◌, ◌++◌, map, zip_with}
use mathlib.Core.Option.{Option, none, some}
use Prim.Native.Nat.{ℕ, zero, suc}
use lib.Dec.{eqb}
use lib.IntN.{pos}
use lib.ListN.{length}
use Rattle.automaton.specs.Tests.{every}
use Rattle.automaton.specs.Bounds.{interval, upper_holds, lower_holds}
use Rattle.automaton.specs.Ranks.{rank, close_up, mask, largest}
use Rattle.automaton.specs.Automaton.{Automaton, in_bounds, in_guards}
use Rattle.automaton.specs.Priced.{Priced, chain}
use Rattle.automaton.specs.Nodes.{Node, point, is_node, start_node}
use Rattle.automaton.specs.Steps.{edge_step, unit_step, move_step, step}
use Rattle.automaton.specs.Runs.{delay, edge, takes, run, start_state}
use Rattle.automaton.specs.Loops.{place}

-- "an index with class values 1 and 3 becomes 1 and 2"
closes_up : close_up (1 ∷ 3 ∷ 0 ∷ []) ≡ 1 ∷ 2 ∷ 0 ∷ []
unfolding close_up rank
closes_up = refl

-- clock > 1 holds strictly between 1 and 2, and not at 1; clock < 2 holds there, and not at 2
over_one : map (lower_holds 3) (interval 1 0 ∷ interval 1 1 ∷ interval 2 0 ∷ []) ≡ false ∷ true ∷ true ∷ []
over_one = refl

under_two : map (upper_holds 4) (interval 1 0 ∷ interval 1 1 ∷ interval 2 0 ∷ []) ≡ true ∷ true ∷ false ∷ []
under_two = refl

-- the corners 0, 1 and 2 of a region with ranks 1 and 2: from all fractions rounded up to none
corner_points : map (λ i. point (record { location = 0; region = record { whole = 4 ∷ 7 ∷ []; class = 2 ∷ 1 ∷ [] }; corner = i })) (0 ∷ 1 ∷ 2 ∷ [])
    ≡ (5 ∷ 8 ∷ []) ∷ (5 ∷ 7 ∷ []) ∷ (4 ∷ 7 ∷ []) ∷ []
unfolding zip_with
corner_points = refl

-- "One location, clock ≤ 2, rate 1; one edge, clock ≥ 1, reset, cost 5, reward 2", with the bytes of the bound and of the lower guard open
unfoldable bench : ℕ → ℕ → Automaton
bench bound lower = record {
  locations = 1;
  clocks = 1;
  edges = 1;
  bound = λ l j. bound;
  cost_rate = λ l. pos 1;
  reward_rate = λ l. 0;
  source = λ e. 0;
  target = λ e. 0;
  lower = λ e j. lower;
  upper = λ e j. none;
  reset = λ e j. true;
  cost = λ e. pos 5;
  reward = λ e. 2;
}

-- Bench's cycle at 3/1: a move, a unit of delay, a move, the edge
bench_cycle : chain (step (bench 5 2)) (start_node (bench 5 2)) (33 ∷ 32 ∷ 33 ∷ 0 ∷ []) ≡ some (record { to = start_node (bench 5 2); cost = pos 6; reward = 2 })
unfolding bench chain step edge_step unit_step move_step start_node in_bounds in_guards every zip_with rank close_up mask largest
bench_cycle = refl

-- with lower byte 03, clock > 1, the edge is taken from corner 1 of the region between 1 and 2, at the same price
bench_over_one : chain (step (bench 5 3)) (start_node (bench 5 3)) (33 ∷ 32 ∷ 33 ∷ 33 ∷ 0 ∷ [])
    ≡ some (record { to = start_node (bench 5 3); cost = pos 6; reward = 2 })
unfolding bench chain step edge_step unit_step move_step start_node in_bounds in_guards every zip_with rank close_up mask largest
bench_over_one = refl

-- "codes 0 to 31 .. 32 .. 33", no other
no_other_code : step (bench 5 2) (start_node (bench 5 2)) 34 ≡ none
unfolding step
no_other_code = refl

-- in halves: wait three of them, take the edge, and be back; three halves at rate 1 and two times 5 cost 13, times n
bench_run : place (bench 5 2) 2 (delay 1 ∷ delay 2 ∷ edge 0 ∷ []) 3 ≡ some (record { to = start_state (bench 5 2); cost = pos 13; reward = 4 })
unfolding bench chain takes in_bounds in_guards every mask
bench_run = refl

-- one half is too early for the edge
bench_early : run (bench 5 2) 2 (start_state (bench 5 2)) (delay 1 ∷ edge 0 ∷ []) ≡ none
unfolding bench chain takes in_bounds in_guards every mask
bench_early = refl

-- ---- the nodes that steps reach, first come first served

same_list : List ℕ → List ℕ → Bool
same_list [] [] = true
same_list [] (y ∷ ys) = false
same_list (x ∷ xs) [] = false
same_list (x ∷ xs) (y ∷ ys) = eqb x y && same_list xs ys

listed : Node → List Node → Bool
listed u [] = false
listed u (v ∷ vs) = (eqb u.location v.location && (same_list u.region.whole v.region.whole
    && (same_list u.region.class v.region.class && eqb u.corner v.corner))) || listed u vs

add : List Node → Option (Priced Node) → List Node → List Node
add seen none todo = todo
add seen (some x) todo = cond (listed x.to (seen ++ todo)) todo (todo ++ x.to ∷ [])

explore : Automaton → ℕ → List Node → List Node → List Node
explore A zero seen todo = seen
explore A (suc k) seen [] = seen
explore A (suc k) seen (u ∷ todo) = explore A k (u ∷ seen) (add (u ∷ seen) (step A u 0) (add (u ∷ seen) (step A u 32) (add (u ∷ seen) (step A u 33) todo)))

-- "nodes 7"; "Bound 04 .. 6 nodes"; "Bound 19 (hexadecimal) .. 37 nodes"
nodes : ℕ → List Node
nodes bound = explore (bench bound 2) 100 [] (start_node (bench bound 2) ∷ [])

bench_nodes : map (λ bound. length (nodes bound)) (5 ∷ 4 ∷ 25 ∷ []) ≡ 7 ∷ 6 ∷ 37 ∷ []
unfolding nodes explore add listed same_list bench step edge_step unit_step move_step start_node in_bounds in_guards every zip_with rank close_up mask largest
bench_nodes = refl

bench_proper : map (is_node (bench 5 2)) (nodes 5) ≡ true ∷ true ∷ true ∷ true ∷ true ∷ true ∷ true ∷ []
unfolding nodes explore add listed same_list bench step edge_step unit_step move_step start_node is_node in_bounds in_guards every zip_with rank close_up mask largest
bench_proper = refl
