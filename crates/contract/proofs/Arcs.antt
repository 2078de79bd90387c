-- The explored graph and the steps: walks, reachable nodes and cycles of the one are those of the other.
use mathlib.Core.Path.{◌≡◌, refl, sym, ap, ap₂, ◌∙◌, subst}
use mathlib.Core.List.{List, [], ◌∷◌, map}
use mathlib.Core.Option
use mathlib.Core.Option.{Option, some}
use Prim.Native.Nat.{ℕ, ◌+◌, ◌<◌}
use native.Mathlib.Omega.{arith}
use lib.IntN.{ℤ, pos, ◌+ℤ◌}
use lib.ListN.{length, length-map}
use Rattle.automaton.specs.Priced.{Priced, joined, and_then, chain}
use Rattle.automaton.specs.Walks.{Walk, Reachable, ReachableCycle}
use Rattle.automaton.specs.Times.{units_of, units_along}
use Rattle.automaton.proofs.Chains.{some_inj, then_split}
use Rattle.walks.specs.Walk as Graph
use Rattle.walks.specs.Walk.{at, atℤ}
use Rattle.walks.specs.Weight.{sum, total}
use Rattle.contract.specs.Accepted.{Listed}
use Rattle.contract.specs.Explored.{Found, Explored}

-- units, cost and reward of a list of arcs
abbrev pub units_over : Found → List ℕ → ℕ
units_over g = total (λ e. units_of (at g.code e))

abbrev pub cost_of : Found → List ℕ → ℤ
cost_of g = sum (atℤ g.cost)

abbrev pub reward_of : Found → List ℕ → ℕ
reward_of g = total (at g.reward)

-- the codes along a list of arcs
abbrev pub codes_of : Found → List ℕ → List ℕ
codes_of g = map (at g.code)

pub units_arcs : (g : Found) (l : List ℕ) → units_along (codes_of g l) ≡ units_over g l
unfolding units_along
units_arcs g [] = refl
units_arcs g (e ∷ l) = ap (λ (n : ℕ). units_of (at g.code e) + n) (units_arcs g l)

-- the arc that stands for a step
pub record Taken (g : Found) (a code : ℕ) (v : Priced ℕ) : Type 0 where
  pub arc : ℕ
  pub below : arc < g.m
  pub source : at g.from arc ≡ a
  pub code_is : at g.code arc ≡ code
  pub is : record { to = at g.node (at g.to arc); cost = atℤ g.cost arc; reward = at g.reward arc } ≡ v

-- the arcs of a walk from the node a to the number z
pub record Route (g : Found) (a : ℕ) (codes : List ℕ) (z : ℕ) (c : ℤ) (r : ℕ) : Type 0 where
  pub end : ℕ
  pub below : end < g.n
  pub is : at g.node end ≡ z
  pub arcs : List ℕ
  pub walk : Graph.ArcWalk g.from g.to g.m a arcs end
  pub cost : cost_of g arcs ≡ c
  pub reward : reward_of g arcs ≡ r
  pub codes_are : codes_of g arcs ≡ codes

-- the arcs of a reachable cycle
pub record CycleOf (g : Found) (c : ℤ) (r : ℕ) : Type 0 where
  pub node : ℕ
  pub arcs : List ℕ
  pub reached : Graph.Reached g.from g.to g.m node
  pub cycle : Graph.ArcCycle g.from g.to g.m node arcs
  pub cost : cost_of g arcs ≡ c
  pub reward : reward_of g arcs ≡ r

module _ {step : ℕ → ℕ → Option (Priced ℕ)} {start : ℕ} {g : Found} (x : Explored step start g) where
  taken : (a code : ℕ) (v : Priced ℕ) → a < g.n → step (at g.node a) code ≡ some v → Taken g a code v
  taken a code v h e = let t = x.complete a code v h e in record {
    arc = t.arc;
    below = t.below;
    source = t.source;
    code_is = t.code_is;
    is = some_inj (sym (x.sound t.arc t.below) ∙ ap₂ (λ (i j : ℕ). step (at g.node i) j) t.source t.code_is ∙ e);
  }

  -- a walk along arcs is a walk by their codes
  pub walk_of : (a : ℕ) (l : List ℕ) (b : ℕ) → Graph.ArcWalk g.from g.to g.m a l b
      → Walk step (at g.node a) (codes_of g l) (at g.node b) (cost_of g l) (reward_of g l)
  unfolding chain
  walk_of a [] b w = record { walks = ap (λ (i : ℕ). some (record { to = at g.node i; cost = pos 0; reward = 0 })) w }
  walk_of a (e ∷ l) b w = record {
    walks = ap (λ (o : Option (Priced ℕ)). and_then o (λ t. chain step t (codes_of g l)))
        (ap (λ (i : ℕ). step (at g.node i) (at g.code e)) (sym w.1) ∙ x.sound e w.0)
        ∙ ap (Option.map (joined (record { to = at g.node (at g.to e); cost = atℤ g.cost e; reward = at g.reward e })))
        (walk_of (at g.to e) l b w.2).walks;
  }

  -- and a walk from a listed node goes along arcs
  pub route_of : (a : ℕ) (l : List ℕ) (z : ℕ) (c : ℤ) (r : ℕ) → a < g.n → Walk step (at g.node a) l z c r → Route g a l z c r
  unfolding chain
  route_of a [] z c r h w = let e = some_inj w.walks in record {
    end = a;
    below = h;
    is = ap (λ (v : Priced ℕ). v.to) e;
    arcs = [];
    walk = refl;
    cost = ap (λ (v : Priced ℕ). v.cost) e;
    reward = ap (λ (v : Priced ℕ). v.reward) e;
    codes_are = refl;
  }
  route_of a (code ∷ l) z c r h w =
      let s = then_split (step (at g.node a) code) (λ t. chain step t l) (record { to = z; cost = c; reward = r }) w.walks in
      let t : Taken g a code s.first = taken a code s.first h s.took in
      let goes : Walk step (at g.node (at g.to t.arc)) l s.second.to s.second.cost s.second.reward =
      record { walks = ap (λ (v : Priced ℕ). chain step v.to l) t.is ∙ s.went } in
      let rest : Route g (at g.to t.arc) l s.second.to s.second.cost s.second.reward =
      route_of (at g.to t.arc) l s.second.to s.second.cost s.second.reward (x.target t.arc t.below) goes in
      record {
        end = rest.end;
        below = rest.below;
        is = rest.is ∙ ap (λ (v : Priced ℕ). v.to) s.total;
        arcs = t.arc ∷ rest.arcs;
        walk = (t.below, t.source, rest.walk);
        cost = ap₂ ◌+ℤ◌ (ap (λ (v : Priced ℕ). v.cost) t.is) rest.cost ∙ ap (λ (v : Priced ℕ). v.cost) s.total;
        reward = ap₂ ◌+◌ (ap (λ (v : Priced ℕ). v.reward) t.is) rest.reward ∙ ap (λ (v : Priced ℕ). v.reward) s.total;
        codes_are = ap₂ ◌∷◌ t.code_is rest.codes_are;
      }

  -- a walk from the start goes along arcs from node 0
  pub start_route : (l : List ℕ) (z : ℕ) (c : ℤ) (r : ℕ) → Walk step start l z c r → Route g 0 l z c r
  start_route l z c r w = route_of 0 l z c r x.some_node (subst (λ (s : ℕ). Walk step s l z c r) (sym x.first) w)

  pub start_walk : (l : List ℕ) (b : ℕ) → Graph.ArcWalk g.from g.to g.m 0 l b
      → Walk step start (codes_of g l) (at g.node b) (cost_of g l) (reward_of g l)
  start_walk l b w = subst (λ (s : ℕ). Walk step s (codes_of g l) (at g.node b) (cost_of g l) (reward_of g l)) x.first (walk_of 0 l b w)

  -- the listed nodes are the reachable ones
  pub listed : (z : ℕ) → Reachable step start z → Listed g.node g.n z
  listed z r = let k = start_route r.codes z r.cost r.reward r.walk in record { index = k.end; below = k.below; is = k.is }

  -- each node of the graph is reached in it
  pub all_reached : (a : ℕ) → a < g.n → Graph.Reached g.from g.to g.m a
  all_reached a h =
      let r = x.reachable a h in
      let k = start_route r.codes (at g.node a) r.cost r.reward r.walk in
      record { path = k.arcs; walk = subst (Graph.ArcWalk g.from g.to g.m 0 k.arcs) (x.distinct k.end a k.below h k.is) k.walk }

  -- a cycle of arcs that is reached is a reachable cycle
  pub cycle_steps : (a : ℕ) (l : List ℕ) → Graph.Reached g.from g.to g.m a → Graph.ArcCycle g.from g.to g.m a l
      → ReachableCycle step start (cost_of g l) (reward_of g l)
  cycle_steps a l r c = record {
    node = at g.node a;
    reached = record { codes = codes_of g r.path; cost = cost_of g r.path; reward = reward_of g r.path; walk = start_walk r.path a r.walk };
    cycle = record { codes = codes_of g l; some_step = omega (arith, length-map l (at g.code), c.some); back = walk_of a l a c.walk };
  }

  -- and a reachable cycle goes along one
  pub cycle_arcs : (c : ℤ) (r : ℕ) → ReachableCycle step start c r → CycleOf g c r
  cycle_arcs c r o =
      let i = listed o.node o.reached in
      let w : Walk step (at g.node i.index) o.cycle.codes (at g.node i.index) c r =
      subst (λ (z : ℕ). Walk step z o.cycle.codes z c r) (sym i.is) o.cycle.back in
      let k = route_of i.index o.cycle.codes (at g.node i.index) c r i.below w in
      record {
        node = i.index;
        arcs = k.arcs;
        reached = all_reached i.index i.below;
        cycle = record {
          some = omega (arith, o.cycle.some_step, length-map k.arcs (at g.code), ap length k.codes_are);
          walk = subst (Graph.ArcWalk g.from g.to g.m i.index k.arcs) (x.distinct k.end i.index k.below i.below k.is) k.walk;
        };
        cost = k.cost;
        reward = k.reward;
      }
