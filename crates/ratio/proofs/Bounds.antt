-- How large the cost and the reward of a simple cycle can be, and what the code may sum up.
use mathlib.Core.Path.{◌≡◌, sym, ◌∙◌}
use mathlib.Core.List.{List, [], ◌∷◌}
use Prim.Native.Nat.{ℕ, ◌*◌, ◌/◌, ◌≤◌, ◌<◌}
use native.Mathlib.Omega.{arith}
use lib.ListN.{length, take}
use lib.IntN.{ℤ, pos, nat_abs, *ℤ_comm}
use lib.Seq.{length-take-le}
use Rattle.integers.specs.Lowest.{Gcd, signed_as}
use Rattle.integers.proofs.Products.{abs_add}
use Rattle.integers.proofs.Reduction.{lowest, same_ratio, no_larger}
use Rattle.walks.specs.Walk.{at, atℤ, ArcWalk}
use Rattle.walks.specs.Weight.{sum, total}
use Rattle.walks.specs.Form.{Graph}
use Rattle.walks.proofs.Walks.{walk_arc}
use Rattle.ratio.specs.Turns.{Reduced, Summed, InHand, Earns}

module _ {F T : List ℕ} {cost : List ℤ} {reward : List ℕ} {n : ℕ} (g : Graph F T cost reward n) where
  cost_bound : (x : ℕ) (c : List ℕ) (y : ℕ) → ArcWalk F T (length F) x c y → nat_abs (sum (atℤ cost) c) ≤ 10000 * length c
  cost_bound x [] y w = omega arith
  cost_bound x (e ∷ c) y w =
      omega (arith, abs_add (atℤ cost e) (sum (atℤ cost) c), (g.arc e w.0).cost_small, cost_bound (at T e) c y w.2)

  reward_bound : (x : ℕ) (c : List ℕ) (y : ℕ) → ArcWalk F T (length F) x c y → total (at reward) c ≤ 10000 * length c
  reward_bound x [] y w = omega arith
  reward_bound x (e ∷ c) y w = omega (arith, (g.arc e w.0).reward_small, reward_bound (at T e) c y w.2)

  module _ {hand : List ℕ} {k : ℕ} (h : InHand F T n hand k) where
    pub arcs : length (take k hand) ≡ k
    arcs = length-take-le k hand (omega (arith, h.short, h.room))

    pub hand_cost : nat_abs (sum (atℤ cost) (take k hand)) ≤ 20480000
    hand_cost = omega (arith, cost_bound h.cycle.hub (take k hand) h.cycle.hub h.cycle.cycle.walk, arcs, h.short, g.nodes)

    pub hand_reward : total (at reward) (take k hand) ≤ 20480000
    hand_reward = omega (arith, reward_bound h.cycle.hub (take k hand) h.cycle.hub h.cycle.cycle.walk, arcs, h.short, g.nodes)

    pub in_cycle : (i : ℕ) → i < length (take k hand) → at (take k hand) i < length F
    in_cycle i l = walk_arc F T (length F) h.cycle.hub (take k hand) h.cycle.hub h.cycle.cycle.walk i l

pub summed : {F T : List ℕ} {cost : List ℤ} {reward : List ℕ} {n : ℕ} → Graph F T cost reward n → {hand : List ℕ} {k : ℕ} → InHand F T n hand k → Earns reward hand k
    → Summed cost reward (take k hand)
summed {F} g {hand} {k} h e = record {
  short = omega (arith, arcs g h, h.short, g.nodes);
  costs = λ i l. omega (arith, in_cycle g h i l, g.costs);
  rewards = λ i l. omega (arith, in_cycle g h i l, g.rewards);
  cost_small = hand_cost g h;
  earns = e;
}

-- a fraction divided by the greatest common divisor
pub reduced : (cost : ℤ) (reward g : ℕ) → Gcd (nat_abs cost) reward g → 0 < reward → Reduced cost reward (signed_as (nat_abs cost / g) cost) (reward / g)
reduced cost reward g h r = record {
  lowest = lowest cost reward g h r;
  exact = sym (same_ratio cost reward g h r) ∙ *ℤ_comm (pos reward) (signed_as (nat_abs cost / g) cost);
  p_small = (no_larger cost reward g h r).0;
  q_small = (no_larger cost reward g h r).1;
}
