-- The arcs of a graph, with their weights raised, are in range.
use mathlib.Core.Path.{◌≡◌, refl, ap}
use mathlib.Core.List.{List}
use Prim.Native.Nat.{ℕ, ◌≤◌, ◌<◌}
use native.Mathlib.Omega.{arith}
use native.Mathlib.Nat.{lt_of_lt_of_le}
use lib.ListN.{length}
use lib.IntN.{ℤ, pos, nat_abs}
use Rattle.integers.proofs.Parts.{Parts, abs_parts}
use Rattle.walks.specs.Walk.{at, atℤ}
use Rattle.walks.specs.Weight.{weight_of}
use Rattle.walks.specs.Form.{Graph, CoefficientsInRange}
use Rattle.walks.specs.SearchNumbers.{raised, bias, most}
use Rattle.walks.specs.SearchTerms.{raised_weight}
use Rattle.walks.proofs.Weights.{all_parts}
use Rattle.walks.proofs.Raised.{raised_parts}
use Rattle.walks.proofs.Rounds.{Arcs}

pub raised_weight_is : (a b c : ℤ) (cost : List ℤ) (reward : List ℕ) (e : ℕ) (z : ℤ) → z ≡ weight_of a b c cost reward e → raised bias z ≡ raised_weight a b c cost reward e
unfolding raised_weight
raised_weight_is a b c cost reward e z p = ap (raised bias) p

-- a graph of n nodes is one of 2048
pub widen : {F T : List ℕ} {cost : List ℤ} {reward : List ℕ} {n : ℕ} → Graph F T cost reward n → Graph F T cost reward 2048
widen g = record {
  some = omega arith;
  nodes = omega arith;
  arcs = g.arcs;
  tos = g.tos;
  costs = g.costs;
  rewards = g.rewards;
  arc = λ e h. record {
    source = lt_of_lt_of_le (g.arc e h).source g.nodes;
    target = lt_of_lt_of_le (g.arc e h).target g.nodes;
    cost_small = (g.arc e h).cost_small;
    reward_small = (g.arc e h).reward_small;
  };
}

module _ {F T : List ℕ} {cost : List ℤ} {reward : List ℕ} {a b c : ℤ} {n : ℕ} (g : Graph F T cost reward n) (k : CoefficientsInRange a b c) where
  pub small : (e : ℕ) → e < length F → nat_abs (weight_of a b c cost reward e) ≤ most
  small e h = all_parts a b c (atℤ cost e) (pos (at reward e)) k (g.arc e h).cost_small (g.arc e h).reward_small

  pub parts : (e : ℕ) → e < length F → Parts (weight_of a b c cost reward e) (raised_weight a b c cost reward e) bias
  unfolding raised_weight
  parts e h = raised_parts bias (weight_of a b c cost reward e) (omega (arith, small e h, abs_parts (weight_of a b c cost reward e)))

  pub arcs : Arcs F T (raised_weight a b c cost reward) (length F) 2048
  arcs = record {
    some = omega arith;
    small = omega arith;
    few = g.arcs;
    froms = refl;
    tos = g.tos;
    source = λ e h. lt_of_lt_of_le (g.arc e h).source g.nodes;
    target = λ e h. lt_of_lt_of_le (g.arc e h).target g.nodes;
    light = λ e h. omega (arith, parts e h, small e h, abs_parts (weight_of a b c cost reward e));
    heavy = λ e h. omega (arith, parts e h, small e h, abs_parts (weight_of a b c cost reward e));
  }
