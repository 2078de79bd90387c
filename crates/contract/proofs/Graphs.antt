-- The explored graph as `graph::negative_cycle` takes it: as many entries in each list as there are arcs, and prices in range.
use mathlib.Core.Path.{◌≡◌, sym, ◌∙◌, subst}
use mathlib.Core.Bool.{true}
use mathlib.Core.List.{List, ◌++◌}
use mathlib.Core.Option.{Option, some}
use Prim.Native.Nat.{ℕ, ◌≤◌, ◌<◌}
use native.Mathlib.Omega.{arith}
use lib.IntN.{pos, nat_abs, +ℤ_comm}
use lib.ListN.{length, take}
use lib.Seq.{get_or-take, length-take-le}
use borrow.Author.Tests.{ltb-true}
use lib.Dec.{ltb}
use Rattle.automaton.specs.Automaton.{Automaton}
use Rattle.automaton.specs.Priced.{Priced}
use Rattle.automaton.specs.Nodes.{Node, is_node}
use Rattle.automaton.specs.Steps.{step}
use Rattle.automaton.specs.Walks.{Reachable}
use Rattle.automaton.proofs.Tests.{&&-left}
use Rattle.automaton.proofs.Codes.{step-cases, edge_needs, unit_needs, move-cases}
use Rattle.automaton.proofs.Nodes.{proper_of}
use Rattle.sheet.specs.Questions.{check_of}
use Rattle.nodes.specs.Numbers.{Layout, number, node_of, step_by}
use Rattle.nodes.specs.Meaning.{meaning, layout_of}
use Rattle.nodes.proofs.Carried.{named_some}
use Rattle.nodes.proofs.NumberLaws.{node_there, reached_is_number}
use Rattle.nodes.proofs.CheckedLaws.{sound, room, rates_small, prices_small}
use Rattle.walks.specs.Walk.{at, atℤ}
use Rattle.walks.specs.Form.{Graph}
use Rattle.walks.proofs.Weights.{sum-append, total_append}
use Rattle.contract.specs.Plan.{step_on, start_of}
use Rattle.contract.specs.Explored.{Found, Explored}
use Rattle.contract.proofs.Arcs.{cost_of, reward_of}

-- codes from 34 on are no steps
pub code_below : (y : Layout) (A : Automaton) (x code : ℕ) (v : Priced ℕ) → step_by y A x code ≡ some v → code < 34
unfolding step_by
code_below y A x code v e =
    let a = named_some (number y) (step A (node_of y A.clocks x) code) v e in
    step-cases A (node_of y A.clocks x) code a.value a.is (λ h k. omega arith) (λ h k. omega arith) (λ h k. omega arith)

-- ---- the fronts of the lists

-- the same nodes and arcs, in lists that end with the last arc: the slices that the search is given
abbrev pub cut : Found → Found
cut g = record {
  node = g.node;
  from = take g.m g.from;
  to = take g.m g.to;
  code = take g.m g.code;
  cost = take g.m g.cost;
  reward = take g.m g.reward;
  n = g.n;
  m = length (take g.m g.from);
}

-- the lists have room for the arcs, and the search for as many
pub record Room (g : Found) : Type 0 where
  pub from : g.m ≤ length g.from
  pub to : g.m ≤ length g.to
  pub cost : g.m ≤ length g.cost
  pub reward : g.m ≤ length g.reward
  pub few : g.m ≤ 69632

module _ {g : Found} (room : Room g) where
  front : (l : List ℕ) (e : ℕ) → e < g.m → at (take g.m l) e ≡ at l e
  front l e h = get_or-take g.m l e 0 h

  all_arcs : length (take g.m g.from) ≡ g.m
  all_arcs = length-take-le g.m g.from room.from

  pub explored_cut : {step : ℕ → ℕ → Option (Priced ℕ)} {start : ℕ} → Explored step start g → Explored step start (cut g)
  explored_cut x = record {
    some_node = x.some_node;
    first = x.first;
    few = x.few;
    distinct = x.distinct;
    reachable = x.reachable;
    source = λ e h. (let l : e < g.m = omega (arith, all_arcs) in rw (front g.from e l) (x.source e l));
    target = λ e h. (let l : e < g.m = omega (arith, all_arcs) in rw (front g.to e l) (x.target e l));
    sound = λ e h. (let l : e < g.m = omega (arith, all_arcs) in
        rw (front g.from e l, front g.to e l, front g.code e l, front g.reward e l, get_or-take g.m g.cost e (pos 0) l) (x.sound e l));
    complete = λ a code v h e. (let t = x.complete a code v h e in record {
      arc = t.arc;
      below = omega (arith, all_arcs, t.below);
      source = front g.from t.arc t.below ∙ t.source;
      code_is = front g.code t.arc t.below ∙ t.code_is;
    });
  }

-- ---- prices in range
module _ (bytes : List ℕ) (ok : check_of bytes ≡ 0) where
  abbrev Small : {S : Type 0} → Priced S → Type 0
  Small v = (nat_abs v.cost ≤ 10000) × (v.reward ≤ 10000)

  node_prices : (u : Node) (code : ℕ) (v : Priced Node) → is_node (meaning bytes) u ≡ true → step (meaning bytes) u code ≡ some v → Small v
  node_prices u code v h e = step-cases (meaning bytes) u code v e
      (λ l k. let n = edge_needs (meaning bytes) u v code k in
      subst (λ (w : Priced Node). Small w) (sym n.1) (prices_small bytes ok code
      (ltb-true code (meaning bytes).edges (&&-left (ltb code (meaning bytes).edges) _ n.0))))
      (λ l k. subst (λ (w : Priced Node). Small w) (sym (unit_needs (meaning bytes) u v k).2)
      (rates_small bytes ok u.location (proper_of (meaning bytes) u h).here))
      (λ l k. move-cases (meaning bytes) u v k
      (λ a i q. subst (λ (w : Priced Node). Small w) (sym q) (omega arith))
      (λ a b i q. subst (λ (w : Priced Node). Small w) (sym q) (omega arith)))

  -- of a step from a reachable node
  pub prices : (x code : ℕ) (v : Priced ℕ) → Reachable (step_on bytes) (start_of bytes) x → step_on bytes x code ≡ some v
      → (nat_abs v.cost ≤ 10000) × (v.reward ≤ 10000)
  unfolding step_by
  prices x code v r e =
      let u = node_of (layout_of bytes) (meaning bytes).clocks x in
      let a = named_some (number (layout_of bytes)) (step (meaning bytes) u code) v e in
      subst (λ (w : Priced ℕ). Small w) a.name (node_prices u code a.value
      (node_there (layout_of bytes) (meaning bytes) (room bytes ok) x (reached_is_number (layout_of bytes) (meaning bytes) (room bytes ok) (sound bytes ok) r))
      a.is)

  pub graph : {g : Found} → Room g → Explored (step_on bytes) (start_of bytes) g
      → Graph (cut g).from (cut g).to (cut g).cost (cut g).reward g.n
  graph {g} room whole = record {
    some = x.some_node;
    nodes = x.few;
    arcs = omega (arith, all_arcs room, room.few);
    tos = length-take-le g.m g.to room.to ∙ sym (all_arcs room);
    costs = length-take-le g.m g.cost room.cost ∙ sym (all_arcs room);
    rewards = length-take-le g.m g.reward room.reward ∙ sym (all_arcs room);
    arc = λ e h. (let s = prices (at g.node (at (cut g).from e)) (at (cut g).code e) _ (x.reachable (at (cut g).from e) (x.source e h)) (x.sound e h) in
        record { source = x.source e h; target = x.target e h; cost_small = s.0; reward_small = s.1 });
  }
    where
      x : Explored (step_on bytes) (start_of bytes) (cut g)
      x = explored_cut room whole

-- ---- a cycle turned costs and earns the same
module _ (g : Found) (a b : List ℕ) where
  pub cost_turned : cost_of g (b ++ a) ≡ cost_of g (a ++ b)
  cost_turned = sum-append (atℤ g.cost) b a ∙ +ℤ_comm (cost_of g b) (cost_of g a) ∙ sym (sum-append (atℤ g.cost) a b)

  pub reward_turned : reward_of g (b ++ a) ≡ reward_of g (a ++ b)
  reward_turned = omega (arith, total_append (at g.reward) a b, total_append (at g.reward) b a)
