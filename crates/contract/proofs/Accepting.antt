-- The accepted plan, from what the code has in hand.
use mathlib.Core.Path.{◌≡◌, sym, ap, ◌∙◌, subst}
use mathlib.Core.List.{List}
use mathlib.Core.Option.{Option}
use Prim.Native.Nat.{ℕ, ◌≤◌, ◌<◌}
use native.Mathlib.Omega.{arith}
use lib.IntN.{ℤ, pos, nat_abs}
use lib.ListN.{length}
use Rattle.integers.proofs.Pigeonhole.{onto}
use Rattle.automaton.specs.Priced.{Priced}
use Rattle.automaton.specs.Walks.{Reachable}
use Rattle.automaton.proofs.Tests.{by_order}
use Rattle.walks.specs.Walk.{at, atℤ}
use Rattle.walks.specs.Weight.{LeastWeight, PotentialOrMark}
use Rattle.walks.proofs.Weights.{least_of_lem}
use Rattle.contract.specs.Accepted.{Listed, NodeList, PotentialList}
use Rattle.contract.specs.Explored.{Found, Explored, Sorted}
use Rattle.contract.proofs.Checklist.{weight_at}
use Rattle.contract.proofs.Arcs.{listed, all_reached}
use Rattle.contract.proofs.Searches.{potential}

module _ {step : ℕ → ℕ → Option (Priced ℕ)} {start : ℕ} {g : Found} (x : Explored step start g) where
  -- ---- the order of output
  module _ (order nodes : List ℕ) (sorted : Sorted g order nodes) where
    order_one : (i j : ℕ) → i < g.n → j < g.n → at order i ≡ at order j → i ≡ j
    order_one i j hi hj e = let s : at nodes i ≡ at nodes j = sorted.is i hi ∙ ap (at g.node) e ∙ sym (sorted.is j hj) in
        by_order i j (λ h. absurd (omega (arith, sorted.rising i j h hj))) (λ e. e) (λ h. absurd (omega (arith, sorted.rising j i h hi)))

    -- each reachable number stands in the list
    pub complete : (z : ℕ) → Reachable step start z → Listed nodes g.n z
    complete z r =
        let k = listed x z r in
        let a = onto (at order) g.n k.index order_one sorted.below k.below in
        record { index = a.place; below = a.below; is = sorted.is a.place a.below ∙ ap (at g.node) a.is ∙ k.is }

    pub node_list : ((i : ℕ) → g.n ≤ i → i < length nodes → at nodes i ≡ 0) → NodeList step start g.n nodes
    node_list rest = record {
      rising = sorted.rising;
      reachable = λ i h. subst (Reachable step start) (sym (sorted.is i h)) (x.reachable (at order i) (sorted.below i h));
      complete = complete;
      rest = rest;
    }

  -- ---- the potentials
  module _ (p : ℤ) (q : ℕ) (D : List ℤ)
      (found : (v : ℕ) → v < g.n → PotentialOrMark g.from g.to g.m (weight_at p q g) v (atℤ D v)) where
    least : (v : ℕ) → v < g.n → LeastWeight g.from g.to g.m (weight_at p q g) v (atℤ D v) × (nat_abs (atℤ D v) < 1000000000000000)
    least v h = least_of_lem g.from g.to g.m (weight_at p q g) v (atℤ D v) (found v h) (all_reached x v h)

    pub potential_list : (order nodes : List ℕ) → Sorted g order nodes → (potentials : List ℤ)
        → ((i : ℕ) → i < g.n → atℤ potentials i ≡ atℤ D (at order i))
        → ((i : ℕ) → g.n ≤ i → i < length potentials → atℤ potentials i ≡ pos 0) → PotentialList step start p q g.n nodes potentials
    potential_list order nodes sorted potentials are rest = record {
      least = λ i h. (let v = at order i in let l = sorted.below i h in rw (sorted.is i h, are i h)
          (potential x p q (at order i) (atℤ D (at order i)) l (least (at order i) l).0));
      small = λ i h. rw (are i h) (least (at order i) (sorted.below i h)).1;
      rest = rest;
    }
