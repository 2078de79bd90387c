-- Steps lead from nodes to nodes, so every reachable node is a node.
use mathlib.Core.Path.{◌≡◌, sym, ap, ap₂, ◌∙◌, subst}
use mathlib.Core.Bool.{Bool, true}
use mathlib.Core.List.{List, map}
use mathlib.Core.Option.{some}
use Prim.Native.Nat.{ℕ, suc, ◌≤◌, ◌<◌}
use native.Mathlib.Omega.{arith}
use borrow.Author.Tests.{ltb-true}
use lib.Dec.{ltb, eqb}
use lib.ListN.{length-map, length-replicate}
use Rattle.automaton.specs.Tests.{one_more_if, occurs}
use Rattle.automaton.specs.Bounds.{upper_holds, lower_holds}
use Rattle.automaton.specs.Ranks.{rank, close_up, mask, largest}
use Rattle.automaton.specs.Automaton.{Automaton, in_guards}
use Rattle.automaton.specs.Priced.{Priced}
use Rattle.automaton.specs.Nodes.{Node, intervals, inside, largest_class, is_node, start_node, Sound}
use Rattle.automaton.specs.Steps.{edge_to, edge_allowed, some_whole, unit_to, rise_to, carry_whole, carry_class, carry_to, step}
use Rattle.automaton.specs.Walks.{Reachable}
use Rattle.automaton.proofs.Tests.{by_order, &&-left, &&-right}
use Rattle.automaton.proofs.Lists.{occurs_map, Each, length-zip}
use Rattle.automaton.proofs.Ranks.{rank_grows, length_close, length_mask, close_close, close_suc}
use Rattle.automaton.proofs.Largest.{occurs_le, le_largest, largest_occurs, largest_close, rank_le_largest, rank_carry, close_carry}
use Rattle.automaton.proofs.Codes.{step-cases, edge_needs, unit_needs, move-cases}
use Rattle.automaton.proofs.Thresholds.{close_zeros}
use Rattle.automaton.proofs.Walks.{reach_holds}
use Rattle.automaton.proofs.Nodes.{Proper, proper_of, of_proper, whole_small}

start_proper : (A : Automaton) → Sound A → Proper A (start_node A)
unfolding start_node
start_proper A o = record {
  here = o.some_location;
  wholes = length-replicate A.clocks 0;
  classes = length-replicate A.clocks 0;
  closed = close_zeros A.clocks;
  cornered = omega arith;
  bounded = o.start_inside;
}

module _ (A : Automaton) (u : Node) (h : Proper A u) where
  edge_proper : (e : ℕ) → Sound A → edge_allowed A u e ≡ true → Proper A (edge_to A u e)
  edge_proper e o t = record {
    here = o.targets e (ltb-true e A.edges (&&-left (ltb e A.edges) _ t));
    wholes = length_mask (A.reset e) u.region.whole ∙ h.wholes;
    classes = length_close (mask (A.reset e) u.region.class) ∙ length_mask (A.reset e) u.region.class ∙ h.classes;
    closed = close_close (mask (A.reset e) u.region.class);
    cornered = rank_le_largest (mask (A.reset e) u.region.class) u.corner;
    bounded = &&-right (in_guards lower_holds upper_holds A e (intervals u.region)) (inside A (edge_to A u e))
        (&&-right (eqb (A.source e) u.location) _ (&&-right (ltb e A.edges) _ t));
  }

  unit_proper : Proper A (unit_to u)
  unit_proper = record { here = h.here; wholes = h.wholes; classes = h.classes; closed = h.closed; cornered = omega arith; bounded = h.bounded }

  rise_proper : some_whole u ≡ true → inside A (rise_to u) ≡ true → Proper A (rise_to u)
  rise_proper m i = record {
    here = h.here;
    wholes = h.wholes;
    classes = length-map u.region.class suc ∙ h.classes;
    closed = close_suc u.region.class ∙ ap (λ (b : Bool). map (one_more_if b) (close_up u.region.class)) m ∙ ap (map suc) h.closed;
    cornered = omega (
      arith,
      h.cornered,
      occurs_le (suc (largest_class u)) (map suc u.region.class) (occurs_map suc (largest_class u) u.region.class there),
    );
    bounded = i;
  }
    where
      there : occurs (largest_class u) u.region.class ≡ true
      there = by_order 0 (largest_class u) (largest_occurs u.region.class)
          (λ e. subst (λ (k : ℕ). occurs k u.region.class ≡ true) e m) (λ k. absurd (omega arith))

  carry_proper : u.corner < largest_class u → inside A (carry_to u) ≡ true → Proper A (carry_to u)
  carry_proper l i = record {
    here = h.here;
    wholes = length-zip (carry_whole (largest_class u)) u.region.whole u.region.class (h.wholes ∙ sym h.classes) ∙ h.wholes;
    classes = length-map u.region.class (carry_class (largest_class u)) ∙ h.classes;
    closed = shut;
    cornered = omega (
      arith,
      rank_grows u.region.class u.corner (largest_class u) (omega arith),
      own,
      rank_carry (largest_class u) u.region.class u.corner l,
      rank_le_largest (map (carry_class (largest_class u)) u.region.class) u.corner,
      ap largest shut,
    );
    bounded = i;
  }
    where
      own : rank u.region.class (largest_class u) ≡ largest_class u
      own = sym (largest_close u.region.class (largest_class u) (le_largest u.region.class)) ∙ ap largest h.closed

      shut : close_up (map (carry_class (largest_class u)) u.region.class) ≡ map (carry_class (largest_class u)) u.region.class
      shut = close_carry (largest_class u) u.region.class (le_largest u.region.class) (largest_occurs u.region.class (omega arith)) (omega arith)
          ∙ ap₂ (λ (k : ℕ) (f : List ℕ). map (carry_class k) f) own h.closed

step_proper : (A : Automaton) → Sound A → (u : Node) (code : ℕ) (x : Priced Node) → step A u code ≡ some x → Proper A u → Proper A x.to
step_proper A o u code x e h = step-cases A u code x e
    (λ l s. let n = edge_needs A u x code s in leads n.1 (edge_proper A u h code o n.0))
    (λ l s. leads (unit_needs A u x s).2 (unit_proper A u h))
    (λ l s. move-cases A u x s (λ m i q. leads q (rise_proper A u h m i)) (λ m k i q. leads q (carry_proper A u h k i)))
  where
    leads : {y : Priced Node} → x ≡ y → Proper A y.to → Proper A x.to
    leads q = subst (λ (z : Priced Node). Proper A z.to) (sym q)

pub start_is_node : (A : Automaton) → Sound A → is_node A (start_node A) ≡ true
start_is_node A o = of_proper A (start_node A) (start_proper A o)

-- a step from a node leads to a node
pub step_to_node : (A : Automaton) → Sound A → (u : Node) (code : ℕ) (x : Priced Node) → step A u code ≡ some x → is_node A u ≡ true → is_node A x.to ≡ true
step_to_node A o u code x e h = of_proper A x.to (step_proper A o u code x e (proper_of A u h))

-- every reachable node is a node
pub reached_is_node : (A : Automaton) → Sound A → (u : Node) → Reachable (step A) (start_node A) u → is_node A u ≡ true
reached_is_node A o = reach_holds (step A) (start_node A) (λ u. is_node A u ≡ true) (start_is_node A o) (step_to_node A o)

-- and with bounds up to 25 its whole parts are 12 at most
pub reached_whole : (A : Automaton) → Sound A → ((l j : ℕ) → l < A.locations → j < A.clocks → A.bound l j ≤ 25)
    → (u : Node) → Reachable (step A) (start_node A) u → Each (λ h. h ≤ 12) u.region.whole
reached_whole A o small u h = let k = proper_of A u (reached_is_node A o u h) in whole_small 12 k (λ j. small u.location j k.here)
