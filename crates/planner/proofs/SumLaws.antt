-- The loop that sums up the arcs of a cycle.
use mathlib.Core.Path.{◌≡◌, refl, sym, ap₂, ◌∙◌}
use mathlib.Core.List.{List}
use Prim.Native.Nat.{ℕ, ◌+◌, ◌-◌, ◌*◌, ◌≤◌, ◌<◌}
use native.Mathlib.Omega.{arith}
use lib.IntN.{ℤ, pos, nat_abs, ◌+ℤ◌}
use lib.ListN.{length, take}
use lib.Seq.{slice, slice_empty}
use Rattle.automaton.specs.Times.{units_of}
use Rattle.walks.specs.Walk.{at, atℤ}
use Rattle.walks.specs.Weight.{sum, total}
use Rattle.ratio.proofs.SumLaws.{again, total_more, sum_more, sum_again, sum_bound}
use Rattle.planner.specs.PrivatePromises.{Summable}

-- the first i arcs are passed
pub record SumsTo (C : List ℕ) (Z : List ℤ) (R cycle : List ℕ) (i units : ℕ) (cost : ℤ) (reward : ℕ) : Type 0 where
  pub units_are : units ≡ total (λ e. units_of (at C e)) (take i cycle)
  pub cost_is : cost ≡ sum (atℤ Z) (take i cycle)
  pub reward_is : reward ≡ total (at R) (take i cycle)
  pub units_few : units ≤ i
  pub cost_small : nat_abs cost ≤ 32768 * i
  pub reward_small : reward ≤ 65536 * i

-- one more
pub summed_more : {C : List ℕ} {Z : List ℤ} {R cycle : List ℕ} {i units : ℕ} {cost : ℤ} {reward : ℕ} → Summable C Z R cycle
    → SumsTo C Z R cycle i units cost reward → i < length cycle → {u : ℕ} {z : ℤ} {r : ℕ} → u ≡ units_of (at C (at cycle i)) → u ≤ 1
    → z ≡ atℤ Z (at cycle i) → nat_abs z ≤ 32768 → r ≡ at R (at cycle i) → r < 65536
    → SumsTo C Z R cycle (i + 1) (units + u) (again (cost +ℤ again z)) (reward + r)
summed_more {C} {Z} {R} {cycle} {i} {units} {cost} {reward} o h l {u} {z} {r} p one q small e below =
    let few : i ≤ 2048 = omega (arith, o.few) in
    let back = sum_again cost z i few h.cost_small small in record {
      units_are = ap₂ ◌+◌ h.units_are p ∙ sym (total_more cycle i l (λ e. units_of (at C e)));
      cost_is = back ∙ ap₂ ◌+ℤ◌ h.cost_is q ∙ sym (sum_more cycle i l (atℤ Z));
      reward_is = ap₂ ◌+◌ h.reward_is e ∙ sym (total_more cycle i l (at R));
      units_few = omega (arith, h.units_few);
      cost_small = rw back (sum_bound cost z i few h.cost_small small);
      reward_small = omega (arith, h.reward_small);
    }

-- ---- from the last to the first: docs/PORT.md names this; no proof cites it

module _ (C : List ℕ) (Z : List ℤ) (R arcs : List ℕ) (from to : ℕ) where
  -- those from i on are passed
  pub record SumsFrom (i units : ℕ) (cost : ℤ) (reward : ℕ) : Type 0 where
    pub low : from ≤ i
    pub high : i ≤ to
    pub units_are : units ≡ total (λ e. units_of (at C e)) (slice i to arcs)
    pub cost_is : cost ≡ sum (atℤ Z) (slice i to arcs)
    pub reward_is : reward ≡ total (at R) (slice i to arcs)
    pub units_few : units ≤ to - i
    pub cost_small : nat_abs cost ≤ 65536 * (to - i)
    pub reward_small : reward ≤ 65536 * (to - i)

  pub summed_none : from ≤ to → SumsFrom to 0 (pos 0) 0
  summed_none h = record {
    low = h;
    high = omega arith;
    units_are = rw (slice_empty to arcs) refl;
    cost_is = rw (slice_empty to arcs) refl;
    reward_is = rw (slice_empty to arcs) refl;
    units_few = omega arith;
    cost_small = omega arith;
    reward_small = omega arith;
  }
