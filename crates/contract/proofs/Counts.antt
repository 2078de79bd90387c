-- Question 12: counting nodes.
use mathlib.Core.Path.{◌≡◌, sym, ap, ◌∙◌, subst}
use mathlib.Core.List.{List}
use mathlib.Core.Option.{Option}
use Prim.Native.Nat.{ℕ, min, ◌≤◌}
use native.Mathlib.Decide.{dec_lt}
use native.Mathlib.Omega.{arith}
use Rattle.integers.proofs.Pigeonhole.{pigeon, also, also_before, also_after, also_one}
use Rattle.automaton.specs.Priced.{Priced}
use Rattle.automaton.specs.Walks.{Reachable}
use Rattle.automaton.proofs.Tests.{by_order}
use Rattle.walks.specs.Walk.{at}
use Rattle.contract.specs.Questions.{TooMany}
use Rattle.contract.specs.Accepted.{Listed, NodeList}
use Rattle.contract.specs.Explored.{Overfull}

module _ (step : ℕ → ℕ → Option (Priced ℕ)) (start : ℕ) where
  -- no more nodes are reachable than are listed
  pub few_listed : (node : List ℕ) (n : ℕ) → n ≤ 2048 → ((z : ℕ) → Reachable step start z → Listed node n z) → ¬ TooMany step start
  few_listed node n h listed o = omega (
    arith,
    pigeon 2049 n (λ i. (place i).index) (λ i l. (place i).below)
        (λ i j hi hj e. let k : min i 2048 ≡ min j 2048 = o.distinct (min i 2048) (min j 2048) (omega arith) (omega arith)
        (sym (place i).is ∙ ap (at node) e ∙ (place j).is) in omega arith),
  )
    where
      place : (i : ℕ) → Listed node n (o.node (min i 2048))
      place i = listed (o.node (min i 2048)) (o.reachable (min i 2048) (omega arith))

  -- and no more are listed, where no more are reachable
  pub listed_few : (node : List ℕ) (n : ℕ) → NodeList step start n node → ¬ TooMany step start → n ≤ 2048
  listed_few node n l few = elim (dec_lt 2048 n) [
    | yes h ↦ absurd (few (record {
      node = at node;
      distinct = λ i j a b e. by_order i j (λ k. absurd (omega (arith, l.rising i j k (omega arith)))) (λ k. k)
          (λ k. absurd (omega (arith, l.rising j i k (omega arith))));
      reachable = λ i a. l.reachable i (omega arith);
    }))
    | no h ↦ omega arith
  ]

  pub too_many : (node : List ℕ) → Overfull step start node → TooMany step start
  too_many node o = record {
    node = also (at node) 2048 o.extra;
    distinct = also_one (at node) 2048 o.extra o.distinct o.fresh;
    reachable = λ i h. elim (dec_lt i 2048) [
      | yes l ↦ subst (Reachable step start) (sym (also_before (at node) 2048 o.extra i l)) (o.reachable i l)
      | no l ↦ subst (Reachable step start) (sym (also_after (at node) 2048 o.extra i (omega arith))) o.extra_reachable
    ];
  }
