-- One turn that finds an arc, to a node that was found before or to a new one.
use mathlib.Core.Path.{◌≡◌, refl, sym, ap, subst, ◌∙◌}
use mathlib.Core.Logic.{◌⊎◌, inl, inr, ⊎_elim}
use mathlib.Core.List.{List}
use mathlib.Core.Option.{Option, some}
use Prim.Native.Nat.{ℕ, ◌+◌, ◌*◌, ◌≤◌, ◌<◌}
use native.Mathlib.Omega.{arith}
use lib.ListN.{drop}
use lib.IntN.{pos}
use Rattle.automaton.specs.Priced.{Priced}
use Rattle.automaton.specs.Walks.{Reachable}
use Rattle.automaton.proofs.Walks.{reach_step}
use Rattle.walks.specs.Walk.{at}
use Rattle.contract.specs.Explored.{ArcOf}
use Rattle.region.specs.declared.Step.{Step}
use Rattle.explore.specs.Buffers.{GraphBuffers, found, HasRoom}
use Rattle.explore.specs.Index.{Index, Known, Added}
use Rattle.explore.specs.Answer.{SearchTree, Rest, IsStep}
use Rattle.explore.proofs.ArcLaws.{led, Pushed}
use Rattle.explore.proofs.SearchLaws.{Searched, up_to, kept, there, beyond, set_rest, next_turn}

module _ (step : ℕ → ℕ → Option (Priced ℕ)) (start : ℕ) (b₀ b b' : GraphBuffers) (n m i k t : ℕ) (s : Step) (g : Searched step start b₀ b n m t)
    (long : HasRoom b) (hi : i < n) (hk : k < 34) (turn : t ≡ 34 * i + k) (leads : step (at b.node i) k ≡ some (led s)) where
  under : m < 69632
  under = omega (arith, g.few_arcs, g.few_nodes)

  -- to node j; where n grows, j is the last node, and m the arc in the tree
  module _ (j n' : ℕ) (w : Pushed b b' m i j k s) (grows : n ≤ n') (room : n' ≤ 2048) (keep : (a : ℕ) → a < n → at b'.node a ≡ at b.node a)
      (distinct : (a c : ℕ) → a < n' → c < n' → at b'.node a ≡ at b'.node c → a ≡ c)
      (reachable : (a : ℕ) → a < n' → Reachable step start (at b'.node a)) (hj : j < n') (is : at b'.node j ≡ s.number)
      (keep-tree : (v : ℕ) → v < n → at b'.tree v ≡ at b.tree v)
      (olds : (v : ℕ) → v < n' → (v < n) ⊎ ((v ≡ n) × ((j ≡ n) × (at b'.tree v ≡ m)))) where
    from_low : (e : ℕ) → e < m → at b'.from e ≡ at b.from e
    from_low = kept 0 b.from b'.from m i w.from

    to_low : (e : ℕ) → e < m → at b'.to e ≡ at b.to e
    to_low = kept 0 b.to b'.to m j w.to

    code_low : (e : ℕ) → e < m → at b'.code e ≡ at b.code e
    code_low = kept 0 b.code b'.code m k w.code

    from_m : at b'.from m ≡ i
    from_m = there 0 b.from b'.from m i w.from (omega (arith, under, long.from))

    to_m : at b'.to m ≡ j
    to_m = there 0 b.to b'.to m j w.to (omega (arith, under, long.to))

    code_m : at b'.code m ≡ k
    code_m = there 0 b.code b'.code m k w.code (omega (arith, under, long.code))

    steps : (e : ℕ) → e < m + 1 → IsStep step b' n' e
    steps = up_to (λ e. IsStep step b' n' e) m
        (λ e h. let q = g.steps e h in record {
          source = omega (arith, from_low e h, q.source);
          target = omega (arith, to_low e h, q.target);
          sound = rw (
            from_low e h,
            to_low e h,
            code_low e h,
            kept (pos 0) b.cost b'.cost m s.cost w.cost e h,
            kept 0 b.reward b'.reward m s.reward w.reward e h,
            keep (at b.from e) q.source,
            keep (at b.to e) q.target,
          ) q.sound;
        })
        record {
          source = omega (arith, from_m);
          target = omega (arith, to_m);
          sound = rw (
            from_m,
            to_m,
            code_m,
            there (pos 0) b.cost b'.cost m s.cost w.cost (omega (arith, under, long.cost)),
            there 0 b.reward b'.reward m s.reward w.reward (omega (arith, under, long.reward)),
            keep i hi,
            is,
          ) leads;
        }

    more : (a c : ℕ) → ArcOf (found b n m) a c → ArcOf (found b' n' (m + 1)) a c
    more a c r = record {
      arc = r.arc;
      below = omega (arith, r.below);
      source = from_low r.arc r.below ∙ r.source;
      code_is = code_low r.arc r.below ∙ r.code_is;
    }

    tree : SearchTree b' n' (m + 1)
    tree = record {
      arc = λ v h p. ⊎_elim (λ l. omega (arith, keep-tree v l, g.tree.arc v l p)) (λ q. omega (arith, q.1.1)) (olds v h);
      ends = λ v h p. ⊎_elim
          (λ l. ap (at b'.to) (keep-tree v l) ∙ to_low (at b.tree v) (g.tree.arc v l p) ∙ g.tree.ends v l p)
          (λ q. ap (at b'.to) q.1.1 ∙ to_m ∙ q.1.0 ∙ sym q.0) (olds v h);
      earlier = λ v h p. ⊎_elim
          (λ l. omega (arith, ap (at b'.from) (keep-tree v l), from_low (at b.tree v) (g.tree.arc v l p), g.tree.earlier v l p))
          (λ q. omega (arith, ap (at b'.from) q.1.1, from_m, q.0)) (olds v h);
      first = up_to (λ e. 0 < at b'.to e → at b'.tree (at b'.to e) ≤ e) m
          (λ e h p. omega (
            arith,
            ap (at b'.tree) (to_low e h),
            keep-tree (at b.to e) (g.steps e h).target,
            g.tree.first e h (omega (arith, to_low e h)),
          ))
          (λ p. ⊎_elim (λ l. omega (arith, ap (at b'.tree) to_m, keep-tree j l, g.tree.arc j l (omega (arith, to_m))))
          (λ q. omega (arith, ap (at b'.tree) to_m, q.1.1)) (olds j hj));
      rising = λ u v h l p. ⊎_elim
          (λ lv. omega (arith, keep-tree u (omega arith), keep-tree v lv, g.tree.rising u v h lv p))
          (λ q. let lu : u < n = omega (arith, q.0) in omega (arith, keep-tree u lu, q.1.1, g.tree.arc u lu p)) (olds v l);
    }

    push : t < 34 * n → Index b'.node b'.sorted b'.order n' → Rest b₀ b' n' (m + 1) → Searched step start b₀ b' n' (m + 1) (t + 1)
    push ht index rest = record {
      some_node = omega (arith, g.some_node);
      few_nodes = room;
      few_arcs = omega (arith, g.few_arcs);
      few_turns = omega arith;
      first = keep 0 g.some_node ∙ g.first;
      distinct = distinct;
      reachable = reachable;
      steps = steps;
      complete = λ a c v hc h q. ⊎_elim
          (λ l. more a c (g.complete a c v hc l (subst (λ (x : ℕ). step x c ≡ some v) (keep a (omega (arith, g.few_turns))) q)))
          (λ e. record { arc = m; below = omega arith; source = from_m ∙ sym e.0; code_is = code_m ∙ sym e.1 })
          (next_turn step start a c i k t hc hk turn h);
      passed = up_to (λ e. 34 * at b'.from e + at b'.code e < t + 1) m (λ e h. omega (arith, from_low e h, code_low e h, g.passed e h))
          (omega (arith, from_m, code_m));
      codes = up_to (λ e. at b'.code e < 34) m (λ e h. omega (arith, code_low e h, g.codes e h)) (omega (arith, code_m));
      by_source = λ d e h l. up_to (λ e. d < e → 34 * at b'.from d + at b'.code d < 34 * at b'.from e + at b'.code e) m
          (λ e l h. omega (arith, from_low d (omega arith), code_low d (omega arith), from_low e l, code_low e l, g.by_source d e h l))
          (λ h. omega (arith, from_low d h, code_low d h, from_m, code_m, g.passed d h)) e l h;
      tree = tree;
      index = index;
      rest = rest;
    }

  -- a node that was found before
  pub known_turn : (j : ℕ) → t < 34 * n
      → Known b.node b.sorted b.order b.tree b'.node b'.sorted b'.order b'.tree n s.number j
      → Pushed b b' m i j k s → Searched step start b₀ b' n (m + 1) (t + 1)
  known_turn j ht a w =
      let same : (v : ℕ) → at b'.node v ≡ at b.node v = λ v. ap (λ (l : List ℕ). at l v) a.nodes in
      push j n w (omega arith) g.few_nodes (λ v h. same v)
      (λ u v hu hv e. g.distinct u v hu hv (sym (same u) ∙ e ∙ same v))
      (λ v h. subst (λ (x : ℕ). Reachable step start x) (sym (same v)) (g.reachable v h))
      a.below (same j ∙ a.is) (λ v h. ap (λ (l : List ℕ). at l v) a.tree) (λ v h. inl h) ht
      (rw (a.nodes, a.sorted, a.order) g.index)
      record {
        node = ap (λ (l : List ℕ). drop n l) a.nodes ∙ g.rest.node;
        sorted = ap (λ (l : List ℕ). drop n l) a.sorted ∙ g.rest.sorted;
        order = ap (λ (l : List ℕ). drop n l) a.order ∙ g.rest.order;
        tree = ap (λ (l : List ℕ). drop n l) a.tree ∙ g.rest.tree;
        root = ap (λ (l : List ℕ). at l 0) a.tree ∙ g.rest.root;
        from = beyond b.from b'.from b₀.from m (set_rest b.from b'.from m i w.from) g.rest.from;
        to = beyond b.to b'.to b₀.to m (set_rest b.to b'.to m j w.to) g.rest.to;
        code = beyond b.code b'.code b₀.code m (set_rest b.code b'.code m k w.code) g.rest.code;
        cost = beyond b.cost b'.cost b₀.cost m (set_rest b.cost b'.cost m s.cost w.cost) g.rest.cost;
        reward = beyond b.reward b'.reward b₀.reward m (set_rest b.reward b'.reward m s.reward w.reward) g.rest.reward;
      }

  -- a new node
  module _ (a : Added b.node b.sorted b.order b.tree b'.node b'.sorted b'.order b'.tree n s.number m n) (w : Pushed b b' m i n k s) where
    low : (v : ℕ) → v < n → at b'.node v ≡ at b.node v
    low = kept 0 b.node b'.node n s.number a.nodes

    last : at b'.node n ≡ s.number
    last = there 0 b.node b'.node n s.number a.nodes (omega (arith, a.room, long.node))

    distinct : (u v : ℕ) → u < n + 1 → v < n + 1 → at b'.node u ≡ at b'.node v → u ≡ v
    distinct u v hu hv = up_to (λ u. at b'.node u ≡ at b'.node v → u ≡ v) n
        (λ u hu. up_to (λ v. at b'.node u ≡ at b'.node v → u ≡ v) n
        (λ v hv e. g.distinct u v hu hv (sym (low u hu) ∙ e ∙ low v hv))
        (λ e. absurd (a.fresh u hu (sym (low u hu) ∙ e ∙ last))) v hv)
        (up_to (λ v. at b'.node n ≡ at b'.node v → n ≡ v) n
        (λ v hv e. absurd (a.fresh v hv (sym (low v hv) ∙ sym e ∙ last)))
        (λ e. refl) v hv) u hu

    reachable : (v : ℕ) → v < n + 1 → Reachable step start (at b'.node v)
    reachable = up_to (λ v. Reachable step start (at b'.node v)) n
        (λ v h. subst (λ (x : ℕ). Reachable step start x) (sym (low v h)) (g.reachable v h))
        (subst (λ (x : ℕ). Reachable step start x) (sym last) (reach_step step start (at b.node i) k (led s) (g.reachable i hi) leads))

    tree_last : at b'.tree n ≡ m
    tree_last = there 0 b.tree b'.tree n m a.tree (omega (arith, a.room, long.tree))

    tree_low : (v : ℕ) → v < n → at b'.tree v ≡ at b.tree v
    tree_low = kept 0 b.tree b'.tree n m a.tree

    pub new_turn : t < 34 * n → Searched step start b₀ b' (n + 1) (m + 1) (t + 1)
    new_turn ht = push n (n + 1) w (omega arith) (omega (arith, a.room)) low distinct reachable (omega arith) last tree_low
        (up_to (λ v. (v < n) ⊎ ((v ≡ n) × ((n ≡ n) × (at b'.tree v ≡ m)))) n (λ v h. inl h) (inr (refl, (refl, tree_last)))) ht a.index
        record {
          node = beyond b.node b'.node b₀.node n (set_rest b.node b'.node n s.number a.nodes) g.rest.node;
          sorted = beyond b.sorted b'.sorted b₀.sorted n a.sorted_rest g.rest.sorted;
          order = beyond b.order b'.order b₀.order n a.order_rest g.rest.order;
          tree = beyond b.tree b'.tree b₀.tree n (set_rest b.tree b'.tree n m a.tree) g.rest.tree;
          root = tree_low 0 g.some_node ∙ g.rest.root;
          from = beyond b.from b'.from b₀.from m (set_rest b.from b'.from m i w.from) g.rest.from;
          to = beyond b.to b'.to b₀.to m (set_rest b.to b'.to m n w.to) g.rest.to;
          code = beyond b.code b'.code b₀.code m (set_rest b.code b'.code m k w.code) g.rest.code;
          cost = beyond b.cost b'.cost b₀.cost m (set_rest b.cost b'.cost m s.cost w.cost) g.rest.cost;
          reward = beyond b.reward b'.reward b₀.reward m (set_rest b.reward b'.reward m s.reward w.reward) g.rest.reward;
        }
