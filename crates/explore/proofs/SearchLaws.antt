-- How the search goes on: turn t is the code t % 34 at the node t / 34.
use mathlib.Core.Path.{◌≡◌, refl, sym, ap, subst, ◌∙◌}
use mathlib.Core.Logic.{◌⊎◌, inl, inr, ⊎_elim}
use mathlib.Core.List.{List}
use mathlib.Core.Option.{Option, none, some}
use Prim.Native.Nat.{ℕ, ◌+◌, ◌*◌, ◌≤◌, ◌<◌}
use native.Mathlib.Omega.{arith}
use native.Mathlib.Decide.{ℕ_discrete}
use lib.ListN.{length, set, drop, get_or}
use lib.Seq.{get_or-set_same, get_or-set_other, drop-set-lt, drop-drop}
use Rattle.automaton.specs.Priced.{Priced}
use Rattle.automaton.specs.Walks.{Reachable}
use Rattle.automaton.proofs.Walks.{reach_start, reach_step}
use Rattle.walks.specs.Walk.{at}
use Rattle.contract.specs.Explored.{ArcOf, Explored}
use Rattle.explore.specs.Buffers.{GraphBuffers, graph_buffers, found, HasRoom}
use Rattle.explore.specs.Index.{Index}
use Rattle.explore.specs.Answer.{SearchTree, BySource, turn_of, turn_of_arc, Rest, Filled, IsStep, Stopped}
use Rattle.explore.proofs.IndexLaws.{one}

-- below m, or m
pub up_to : (P : ℕ → Type 0) (m : ℕ) → ((e : ℕ) → e < m → P e) → P m → (e : ℕ) → e < m + 1 → P e
up_to P m low top e h = elim (ℕ_discrete e m) [ yes p ↦ subst P (sym p) top | no q ↦ low e (omega arith) ]

-- ---- an entry set, and the ones beyond it
module _ {A : Type 0} (d : A) (l l' : List A) (m : ℕ) (x : A) (w : l' ≡ set l m x) where
  pub kept : (e : ℕ) → e < m → get_or l' e d ≡ get_or l e d
  kept e h = ap (λ (l : List A). get_or l e d) w ∙ get_or-set_other l m e x d (λ p. omega arith)

  pub there : m < length l → get_or l' m d ≡ x
  there h = ap (λ (l : List A). get_or l m d) w ∙ get_or-set_same l m x d h

later : {A : Type 0} (l l₀ : List A) (n : ℕ) → drop n l ≡ drop n l₀ → drop (n + 1) l ≡ drop (n + 1) l₀
later {A} l l₀ n e = sym (drop-drop 1 n l) ∙ ap (λ (l : List A). drop 1 l) e ∙ drop-drop 1 n l₀

pub beyond : {A : Type 0} (l l' l₀ : List A) (n : ℕ) → drop (n + 1) l' ≡ drop (n + 1) l → drop n l ≡ drop n l₀ → drop (n + 1) l' ≡ drop (n + 1) l₀
beyond l l' l₀ n w e = w ∙ later l l₀ n e

pub set_rest : {A : Type 0} (l l' : List A) (n : ℕ) (x : A) → l' ≡ set l n x → drop (n + 1) l' ≡ drop (n + 1) l
set_rest {A} l l' n x w = ap (λ (l : List A). drop (n + 1) l) w ∙ drop-set-lt (n + 1) l n x (omega arith)

-- the start is written, node 0 with the number 0
abbrev pub seeded : GraphBuffers → GraphBuffers
seeded b = graph_buffers (set b.node 0 0) (set b.sorted 0 0) (set b.order 0 0) b.tree b.from b.to b.code b.cost b.reward

-- what stands beyond the nodes found is what stood there before that
rest_seeded : (b b' : GraphBuffers) (n m : ℕ) → 0 < n → Rest (seeded b) b' n m → Rest b b' n m
rest_seeded b b' n m h r = record {
  node = r.node ∙ drop-set-lt n b.node 0 0 h;
  sorted = r.sorted ∙ drop-set-lt n b.sorted 0 0 h;
  order = r.order ∙ drop-set-lt n b.order 0 0 h;
  tree = r.tree;
  root = r.root;
  from = r.from;
  to = r.to;
  code = r.code;
  cost = r.cost;
  reward = r.reward;
}

module _ (step : ℕ → ℕ → Option (Priced ℕ)) (start : ℕ) where
  -- n nodes and m arcs are found, and t turns taken
  pub record Searched (before after : GraphBuffers) (n m t : ℕ) : Type 0 where
    pub some_node : 0 < n
    pub few_nodes : n ≤ 2048
    pub few_arcs : m ≤ t
    pub few_turns : t ≤ 34 * n
    pub first : at after.node 0 ≡ start
    pub distinct : (a b : ℕ) → a < n → b < n → at after.node a ≡ at after.node b → a ≡ b
    pub reachable : (a : ℕ) → a < n → Reachable step start (at after.node a)
    pub steps : (e : ℕ) → e < m → IsStep step after n e
    pub complete : (a c : ℕ) (v : Priced ℕ) → c < 34 → turn_of a c < t → step (at after.node a) c ≡ some v → ArcOf (found after n m) a c
    pub passed : (e : ℕ) → e < m → turn_of_arc after e < t
    pub codes : (e : ℕ) → e < m → at after.code e < 34
    pub by_source : BySource after m
    pub tree : SearchTree after n m
    pub index : Index after.node after.sorted after.order n
    pub rest : Rest before after n m

  pub begin : (b : GraphBuffers) → HasRoom b → start ≡ 0 → Searched (seeded b) (seeded b) 1 0 0
  begin b r z =
      let p : at (set b.node 0 0) 0 ≡ start = get_or-set_same b.node 0 0 0 (omega (arith, r.node)) ∙ sym z in record {
        some_node = omega arith;
        few_nodes = omega arith;
        few_arcs = omega arith;
        few_turns = omega arith;
        first = p;
        distinct = λ a b ha hb _. omega arith;
        reachable = λ a h. (let e : 0 ≡ a = omega arith in
            subst (λ (i : ℕ). Reachable step start (at (set b.node 0 0) i)) e (subst (λ (x : ℕ). Reachable step start x) (sym p) (reach_start step start)));
        steps = λ e h. absurd (omega arith);
        complete = λ a c v hc h. absurd (omega arith);
        passed = λ e h. absurd (omega arith);
        codes = λ e h. absurd (omega arith);
        by_source = λ d e h l. absurd (omega arith);
        tree = record {
          arc = λ v h p. absurd (omega arith);
          ends = λ v h p. absurd (omega arith);
          earlier = λ v h p. absurd (omega arith);
          first = λ e h. absurd (omega arith);
          rising = λ u v h l p. absurd (omega arith);
        };
        index = one (set b.node 0 0) (set b.sorted 0 0) (set b.order 0 0)
            (get_or-set_same b.sorted 0 0 0 (omega (arith, r.sorted)) ∙ sym (p ∙ z)) (get_or-set_same b.order 0 0 0 (omega (arith, r.order)));
        rest = record {
          node = refl;
          sorted = refl;
          order = refl;
          tree = refl;
          root = refl;
          from = refl;
          to = refl;
          code = refl;
          cost = refl;
          reward = refl;
        };
      }

  -- the turns below t, and turn t
  pub next_turn : (a c i k t : ℕ) → c < 34 → k < 34 → t ≡ 34 * i + k → 34 * a + c < t + 1 → (34 * a + c < t) ⊎ ((a ≡ i) × (c ≡ k))
  next_turn a c i k t hc hk e h = elim (ℕ_discrete (34 * a + c) t) [ yes p ↦ inr (omega arith) | no q ↦ inl (omega arith) ]

  some_none : {A B : Type 0} (o : Option A) (v : A) → o ≡ none → o ≡ some v → B
  some_none o v p q = absurd (let z : ◌≡◌ {A = ℕ} 0 1 = cc in omega arith)

  -- no step
  pub skip : (b₀ b : GraphBuffers) (n m i k t : ℕ) → Searched b₀ b n m t → k < 34 → t ≡ 34 * i + k → t < 34 * n → step (at b.node i) k ≡ none
      → Searched b₀ b n m (t + 1)
  skip b₀ b n m i k t g hk e ht p = record {
    some_node = g.some_node;
    few_nodes = g.few_nodes;
    few_arcs = omega (arith, g.few_arcs);
    few_turns = omega arith;
    first = g.first;
    distinct = g.distinct;
    reachable = g.reachable;
    steps = g.steps;
    complete = λ a c v hc h q. ⊎_elim (λ l. g.complete a c v hc l q)
        (λ w. some_none (step (at b.node a) c) v (rw (w.0, w.1) p) q) (next_turn a c i k t hc hk e h);
    passed = λ e h. omega (arith, g.passed e h);
    codes = g.codes;
    by_source = g.by_source;
    tree = g.tree;
    index = g.index;
    rest = g.rest;
  }

  -- every turn is taken
  pub done : (b₀ b : GraphBuffers) (n m t : ℕ) → ((x code : ℕ) (v : Priced ℕ) → step x code ≡ some v → code < 34) → Searched b₀ b n m t → 34 * n ≤ t
      → Explored step start (found b n m)
  done b₀ b n m t few g h = record {
    some_node = g.some_node;
    first = g.first;
    few = g.few_nodes;
    distinct = g.distinct;
    reachable = g.reachable;
    source = λ e l. (g.steps e l).source;
    target = λ e l. (g.steps e l).target;
    sound = λ e l. (g.steps e l).sound;
    complete = λ a code v l q. (let c = few (at b.node a) code v q in g.complete a code v c (omega arith) q);
  }

  pub filled : (b₀ b : GraphBuffers) (n m t : ℕ) → Searched (seeded b₀) b n m t → Filled b₀ b n m
  filled b₀ b n m t g = record {
    index = g.index;
    tree = g.tree;
    by_source = g.by_source;
    few_arcs = omega (arith, g.few_arcs, g.few_turns);
    codes = g.codes;
    rest = rest_seeded b₀ b n m g.some_node g.rest;
  }

  -- a step to one node more than there is room for
  pub stop : (b₀ b : GraphBuffers) (n m i k t : ℕ) (v : Priced ℕ) → Searched (seeded b₀) b n m t → i < n → k < 34 → t ≡ 34 * i + k → n ≡ 2048
      → step (at b.node i) k ≡ some v → ((a : ℕ) → a < n → at b.node a ≡ v.to → ⊥) → Stopped step start b₀ b
  stop b₀ b n m i k t v g hi hk turn z leads fresh = record {
    overfull = record {
      distinct = λ a c ha hc. g.distinct a c (omega arith) (omega arith);
      reachable = λ a h. g.reachable a (omega arith);
      extra = v.to;
      fresh = λ a h. fresh a (omega arith);
      extra_reachable = reach_step step start (at b.node i) k v (g.reachable i hi) leads;
    };
    first = g.first;
    node = i;
    code = k;
    cost = v.cost;
    reward = v.reward;
    node_in = omega arith;
    code_in = hk;
    leads = leads;
    arcs = m;
    filled = subst (λ (n : ℕ). Filled b₀ b n m) z (filled b₀ b n m t g);
    steps = λ e h. subst (λ (n : ℕ). IsStep step b n e) z (g.steps e h);
    earlier = λ e h. omega (arith, g.passed e h);
    complete = λ a c w hc h q. subst (λ (n : ℕ). ArcOf (found b n m) a c) z (g.complete a c w hc (omega arith) q);
  }
