-- What the answers for the graph say of the steps: questions 13 and 14, and the potentials at p/q.
use mathlib.Core.Path.{◌≡◌, sym, ap, ap₂, ◌∙◌, subst}
use mathlib.Core.List.{List}
use mathlib.Core.Option.{Option}
use Prim.Native.Nat.{ℕ, ◌*◌, ◌<◌}
use native.Mathlib.Omega.{arith}
use lib.IntN.{ℤ, pos, neg_ℤ, ◌+ℤ◌, ◌*ℤ◌}
use lib.Signed.{◌≤ℤ◌}
use Rattle.integers.proofs.Parts.{up, dn, ext, mul_parts, neg_up, neg_dn}
use Rattle.automaton.specs.Priced.{Priced}
use Rattle.automaton.specs.Walks.{ReachableCycle}
use Rattle.automaton.specs.Weights.{weight, Potential}
use Rattle.walks.specs.Walk as Graph
use Rattle.walks.specs.Walk.{at}
use Rattle.walks.specs.Weight.{sum, LeastWeight}
use Rattle.walks.specs.Cycles.{SimpleCycle, EarningArcs, NoneEarns, IdleGainArcs}
use Rattle.walks.proofs.Weights.{weight_sum_0}
use Rattle.contract.specs.Questions.{EarningCycle, IdleGain}
use Rattle.contract.specs.Explored.{Found, Explored}
use Rattle.contract.proofs.Checklist.{weight_at}
use Rattle.contract.proofs.Arcs.{cost_of, reward_of, codes_of, Route, start_route, start_walk, cycle_steps, cycle_arcs}

-- minus p times, and p times taken away
neg_times : (p x : ℤ) → neg_ℤ p *ℤ x ≡ neg_ℤ (p *ℤ x)
neg_times p x = ext (neg_ℤ p *ℤ x) (neg_ℤ (p *ℤ x)) (omega (
  arith,
  mul_parts (neg_ℤ p) x,
  mul_parts p x,
  neg_up (p *ℤ x),
  neg_dn (p *ℤ x),
  ap (λ (k : ℕ). k * up x) (neg_up p),
  ap (λ (k : ℕ). k * dn x) (neg_up p),
  ap (λ (k : ℕ). k * up x) (neg_dn p),
  ap (λ (k : ℕ). k * dn x) (neg_dn p),
))

-- the weight of a list of arcs is that of a walk
pub weighed : (p : ℤ) (q : ℕ) (g : Found) (l : List ℕ) → sum (weight_at p q g) l ≡ weight p q (cost_of g l) (reward_of g l)
unfolding weight
weighed p q g l = weight_sum_0 (pos q) (neg_ℤ p) g.cost g.reward l
    ∙ ap (λ (z : ℤ). pos q *ℤ cost_of g l +ℤ z) (neg_times p (pos (reward_of g l)))

-- ---- questions 13 and 14

module _ {step : ℕ → ℕ → Option (Priced ℕ)} {start : ℕ} {g : Found} (x : Explored step start g) where
  found : (l : List ℕ) → SimpleCycle g.from g.to g.m l → ReachableCycle step start (cost_of g l) (reward_of g l)
  found l o = cycle_steps x o.hub l o.reached o.cycle

  pub none_earns : NoneEarns g.from g.to g.m g.reward → ¬ EarningCycle step start
  none_earns none o = let k = cycle_arcs x o.cost o.reward o.cycle in
      omega (arith, none k.node k.arcs k.reached k.cycle, k.reward, o.earns)

  pub earning : EarningArcs g.from g.to g.m g.reward → EarningCycle step start
  earning o = record { cost = cost_of g o.arcs; reward = reward_of g o.arcs; cycle = found o.arcs o.cycle; earns = o.earns }

  pub idle_gain : IdleGainArcs g.from g.to g.m g.cost g.reward → IdleGain step start
  idle_gain o = record {
    cost = cost_of g o.arcs;
    cycle = subst (ReachableCycle step start (cost_of g o.arcs)) o.no_reward (found o.arcs o.cycle);
    gains = o.gains;
  }

  -- ---- least weights are potentials
  pub potential : (p : ℤ) (q v : ℕ) (z : ℤ) → v < g.n → LeastWeight g.from g.to g.m (weight_at p q g) v z
      → Potential step start p q (at g.node v) z
  potential p q v z h o = record {
    codes = codes_of g o.path;
    cost = cost_of g o.path;
    reward = reward_of g o.path;
    walk = start_walk x o.path v o.walk;
    attained = sym (weighed p q g o.path) ∙ o.weighs;
    least = λ l c r w. (let k : Route g 0 l (at g.node v) c r = start_route x l (at g.node v) c r w in
        subst (λ (y : ℤ). z ≤ℤ y) (weighed p q g k.arcs ∙ ap₂ (weight p q) k.cost k.reward)
        (o.least k.arcs (subst (Graph.ArcWalk g.from g.to g.m 0 k.arcs) (x.distinct k.end v k.below h k.is) k.walk)));
  }
