-- The nodes of a state in nths, one for each threshold t < n; bounds, guards and edges agree.
use mathlib.Core.Path.{◌≡◌, refl, sym, ap, ap₂, ◌∙◌}
use mathlib.Core.Bool.{Bool, true, false, ◌&&◌, ◌||◌}
use mathlib.Core.List.{List, map, map-map, zip_with}
use mathlib.Core.Option.{some}
use Prim.Native.Nat.{ℕ, zero, suc, ◌/◌, ◌%◌, ◌<◌}
use native.Mathlib.Nat.{zero-mod, zero-div}
use native.Mathlib.Omega.{arith}
use borrow.Author.Tests.{ne_eqb}
use lib.Dec.{ltb, eqb}
use lib.ListN.{replicate}
use Rattle.automaton.specs.Tests.{occurs}
use Rattle.automaton.specs.Bounds.{interval, upper_holds, lower_holds, upper_holds_nths, lower_holds_nths, if_present}
use Rattle.automaton.specs.Ranks.{rank, close_up, mask}
use Rattle.automaton.specs.Automaton.{Automaton, in_bounds, in_guards}
use Rattle.automaton.specs.Nodes.{Region, Node, intervals, inside, start_node}
use Rattle.automaton.specs.Steps.{edge_to, edge_allowed, edge_step}
use Rattle.automaton.specs.Runs.{State, within_bounds, after, may_take, start_state}
use Rattle.automaton.proofs.Tests.{only_yes}
use Rattle.automaton.proofs.Lists.{occurs_map, every_cong, zip-map, map_zeros}
use Rattle.automaton.proofs.Ranks.{rank_zero, rank_out, rank_whole, map_mask, rank_mask, close_mask}
use Rattle.automaton.proofs.Bounds.{upper_agrees, lower_agrees, present_agrees}

abbrev pub fractions : ℕ → List ℕ → List ℕ
fractions n vs = map (λ v. v % n) vs

abbrev pub wholes : ℕ → List ℕ → List ℕ
wholes n vs = map (λ v. v / n) vs

-- the region of a state: fractions are told by their ranks
abbrev pub region_of : ℕ → List ℕ → Region
region_of n vs = record { whole = wholes n vs; class = close_up (fractions n vs) }

-- its node at the threshold t: the corner gives a clock its whole part where its fraction is at most t
unfoldable pub node_at : ℕ → State → ℕ → Node
node_at n s t = record { location = s.location; region = region_of n s.values; corner = rank (fractions n s.values) t }

-- ---- bounds and guards

-- the interval of a value
abbrev interval_of : ℕ → List ℕ → ℕ → ℕ
interval_of n vs v = interval (v / n) (rank (fractions n vs) (v % n))

intervals_of : (n : ℕ) (vs : List ℕ) → intervals (region_of n vs) ≡ map (interval_of n vs) vs
unfolding close_up
intervals_of n vs = ap (zip_with interval (wholes n vs)) (map-map (rank (fractions n vs)) (λ v. v % n) vs)
    ∙ zip-map interval (λ v. v / n) (λ v. rank (fractions n vs) (v % n)) vs

whole_class : (n : ℕ) (vs : List ℕ) (v : ℕ) → occurs v vs ≡ true → eqb (rank (fractions n vs) (v % n)) 0 ≡ eqb (v % n) 0
whole_class n vs v m = rank_whole (fractions n vs) (v % n) (occurs_map (λ x. x % n) v vs m)

pub bounds_agree : (A : Automaton) (n l : ℕ) (vs : List ℕ) → 0 < n → in_bounds upper_holds A l (intervals (region_of n vs)) ≡ in_bounds (upper_holds_nths n) A l vs
unfolding in_bounds
bounds_agree A n l vs p = ap (in_bounds upper_holds A l) (intervals_of n vs)
    ∙ every_cong (λ j. upper_holds (A.bound l j)) (λ j. upper_holds_nths n (A.bound l j)) (interval_of n vs) vs
    (record { at = λ v m j. upper_agrees n v (rank (fractions n vs) (v % n)) p (whole_class n vs v m) (A.bound l j) })

guards_agree : (A : Automaton) (n e : ℕ) (vs : List ℕ) → 0 < n
    → in_guards lower_holds upper_holds A e (intervals (region_of n vs)) ≡ in_guards (lower_holds_nths n) (upper_holds_nths n) A e vs
unfolding in_guards
guards_agree A n e vs p = ap (in_guards lower_holds upper_holds A e) (intervals_of n vs)
    ∙ every_cong (λ j x. lower_holds (A.lower e j) x && if_present upper_holds (A.upper e j) x)
    (λ j v. lower_holds_nths n (A.lower e j) v && if_present (upper_holds_nths n) (A.upper e j) v) (interval_of n vs) vs
    (record {
      at = λ v m j. (let k = rank (fractions n vs) (v % n) in let w = whole_class n vs v m in
          ap₂ ◌&&◌ (lower_agrees n v k p w (A.lower e j)) (present_agrees n v k p w (A.upper e j)));
    })

pub inside_agrees : (A : Automaton) (n : ℕ) (s : State) (t : ℕ) → 0 < n → inside A (node_at n s t) ≡ within_bounds A n s
unfolding node_at
inside_agrees A n s t p = bounds_agree A n s.location s.values p

-- ---- an edge

fractions_mask : (n : ℕ) (r : ℕ → Bool) (vs : List ℕ) → fractions n (mask r vs) ≡ mask r (fractions n vs)
fractions_mask n r vs = map_mask (λ v. v % n) (zero-mod n) r vs

wholes_mask : (n : ℕ) (r : ℕ → Bool) (vs : List ℕ) → wholes n (mask r vs) ≡ mask r (wholes n vs)
wholes_mask n r vs = map_mask (λ v. v / n) (zero-div n) r vs

-- the edge takes the node of a state to that of the state after it, at the same threshold
edge_node : (A : Automaton) (n e : ℕ) (s : State) (t : ℕ) → edge_to A (node_at n s t) e ≡ node_at n (after A e s) t
unfolding node_at
edge_node A n e s t = λ i. record {
  location = A.target e;
  region = record {
    whole = sym (wholes_mask n (A.reset e) s.values) i;
    class = (close_mask (A.reset e) (fractions n s.values) ∙ ap close_up (sym (fractions_mask n (A.reset e) s.values))) i;
  };
  corner = (rank_mask (A.reset e) (fractions n s.values) t ∙ ap (λ f. rank f t) (sym (fractions_mask n (A.reset e) s.values))) i;
}

edge_test : (A : Automaton) (n e : ℕ) (s : State) (t : ℕ) → 0 < n → may_take A n e s ≡ edge_allowed A (node_at n s t) e
unfolding node_at
edge_test A n e s t p = ap (λ b. ltb e A.edges && (eqb (A.source e) s.location && b))
    (ap₂ ◌&&◌ (sym (guards_agree A n e s.values p)) (sym (inside_agrees A n (after A e s) t p) ∙ ap (inside A) (sym (edge_node A n e s t))))

pub edge_step_lem : (A : Automaton) (n e : ℕ) (s : State) (t : ℕ) → 0 < n → may_take A n e s ≡ true
    → edge_step A (node_at n s t) e ≡ some (record { to = node_at n (after A e s) t; cost = A.cost e; reward = A.reward e })
unfolding edge_step
edge_step_lem A n e s t p h = only_yes (sym (edge_test A n e s t p) ∙ h)
    (λ i. record { to = edge_node A n e s t i; cost = A.cost e; reward = A.reward e })

-- ---- the start

rank_zeros : (k t : ℕ) → rank (replicate k 0) t ≡ 0
rank_zeros k zero = rank_zero (replicate k 0)
rank_zeros k (suc t) = rank_out (replicate k 0) t (none_there k) ∙ rank_zeros k t
  where
    none_there : (k : ℕ) → occurs (suc t) (replicate k 0) ≡ false
    none_there zero = refl
    none_there (suc k) = ap₂ ◌||◌ (ne_eqb (suc t) 0 (λ e. omega arith)) (none_there k)

pub close_zeros : (k : ℕ) → close_up (replicate k 0) ≡ replicate k 0
unfolding close_up
close_zeros k = map_zeros (rank (replicate k 0)) (rank_zero (replicate k 0)) k

-- all nodes of the start are the start
pub start_node_lem : (A : Automaton) (n t : ℕ) → node_at n (start_state A) t ≡ start_node A
unfolding node_at start_node
start_node_lem A n t = λ i. record {
  location = 0;
  region = record { whole = map_zeros (λ v. v / n) (zero-div n) A.clocks i; class = (ap close_up fs ∙ close_zeros A.clocks) i };
  corner = (ap (λ f. rank f t) fs ∙ rank_zeros A.clocks t) i;
}
  where
    fs : fractions n (replicate A.clocks 0) ≡ replicate A.clocks 0
    fs = map_zeros (λ v. v % n) (zero-mod n) A.clocks
