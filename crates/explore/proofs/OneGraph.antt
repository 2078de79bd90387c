-- The contract of `explore` fixes its answer and every entry of the buffers: two answers that meet it are one.
use mathlib.Core.Path.{◌≡◌, refl, sym, ap, ap₂, subst, ◌∙◌}
use mathlib.Core.List.{List}
use mathlib.Core.Option.{Option, some}
use Prim.Native.Nat.{ℕ, zero, suc, ◌+◌, ◌-◌, ◌*◌, ◌≤◌, ◌<◌}
use native.Mathlib.Decide.{dec_lt}
use native.Mathlib.Omega.{arith}
use lib.IntN.{pos}
use lib.ListN.{length, drop, get_or}
use lib.Seq.{get_or-drop, ext_get_or}
use Rattle.automaton.specs.Priced.{Priced}
use Rattle.automaton.proofs.Chains.{some_inj}
use Rattle.std.specs.Prelude.{Ok, Err}
use Rattle.sheet.specs.declared.Sheet.{Sheet}
use Rattle.walks.specs.Walk.{at}
use Rattle.contract.specs.Accepted.{Listed}
use Rattle.contract.specs.Explored.{ArcOf, Explored}
use Rattle.contract.proofs.Rising.{same_entry}
use Rattle.explore.specs.Buffers.{GraphBuffers, found}
use Rattle.explore.specs.Index.{Index}
use Rattle.explore.specs.Answer.{Outcome, turn_of, turn_of_arc, BySource, Filled, IsStep, Stopped, QuestionTwelve, answered_no, answered_yes, ExploreAnswered}
use Rattle.explore.specs.declared.Unexplored.TheVariants.{Malformed, TooMany}
use Rattle.explore.proofs.SearchLaws.{Searched}
use Rattle.explore.proofs.LengthLaws.{Same}
use Rattle.explore.proofs.OneSearch.{SameArc, SameNode, same_arcs, same_nodes, goes_on}

-- ---- the lists, entry by entry
same_list : {X : Type 0} (d : X) (n : ℕ) (l l' l₀ : List X) → length l ≡ length l₀ → length l' ≡ length l₀ → drop n l ≡ drop n l₀
    → drop n l' ≡ drop n l₀ → ((i : ℕ) → i < n → get_or l i d ≡ get_or l' i d) → l ≡ l'
same_list {X} d n l l' l₀ p p' r r' f = ext_get_or d l l' (p ∙ sym p') (λ i h. elim (dec_lt i n) [
  | yes u ↦ f i u
  | no u ↦
      let q : n + (i - n) ≡ i = omega arith in
      subst (λ (j : ℕ). get_or l j d ≡ get_or l' j d) q
      (sym (get_or-drop n l (i - n) d) ∙ ap (λ (x : List X). get_or x (i - n) d) (r ∙ sym r') ∙ get_or-drop n l' (i - n) d)
])

-- an index over a list of distinct numbers is fixed
in_other : {N N' K K' I I' : List ℕ} {n : ℕ} → Index N K I n → Index N' K' I' n → ((v : ℕ) → v < n → at N v ≡ at N' v) → (i : ℕ) → i < n
    → Listed K' n (at K i)
in_other {N' = N'} {I = I} x x' same i h = let s = x'.onto (at I i) (x.below i h) in record {
  index = s.place;
  below = s.below;
  is = x'.is s.place s.below ∙ ap (at N') s.is ∙ sym (same (at I i) (x.below i h)) ∙ sym (x.is i h);
}

module _ {N N' K K' I I' : List ℕ} {n : ℕ} (x : Index N K I n) (x' : Index N' K' I' n) (same : (v : ℕ) → v < n → at N v ≡ at N' v) where
  same_sorted : (i : ℕ) → i < n → at K i ≡ at K' i
  same_sorted = same_entry n K n K' x.rising.rises x'.rising.rises (in_other x x' same) (in_other x' x (λ v h. sym (same v h)))

  same_order : ((u v : ℕ) → u < n → v < n → at N u ≡ at N v → u ≡ v) → (i : ℕ) → i < n → at I i ≡ at I' i
  same_order distinct i h = distinct (at I i) (at I' i) (x.below i h) (x'.below i h)
      (sym (x.is i h) ∙ same_sorted i h ∙ x'.is i h ∙ sym (same (at I' i) (x'.below i h)))

-- searches that find as much leave the same buffers
one_search : {step : ℕ → ℕ → Option (Priced ℕ)} {start : ℕ} {before b b' : GraphBuffers} {n m t t' : ℕ} → Searched step start before b n m t
    → Searched step start before b' n m t' → Same before b → Same before b' → b ≡ b'
one_search {before = before} {b} {b'} {n} {m} g g' w w' = λ i. record {
  node = same_list 0 n b.node b'.node before.node w.nodes w'.nodes g.rest.node g'.rest.node number i;
  sorted = same_list 0 n b.sorted b'.sorted before.sorted w.sorted w'.sorted g.rest.sorted g'.rest.sorted
      (same_sorted g.index g'.index number) i;
  order = same_list 0 n b.order b'.order before.order w.order w'.order g.rest.order g'.rest.order
      (same_order g.index g'.index number g.distinct) i;
  tree = same_list 0 n b.tree b'.tree before.tree w.tree w'.tree g.rest.tree g'.rest.tree tree i;
  from = same_list 0 m b.from b'.from before.from w.from w'.from g.rest.from g'.rest.from (λ d h. (arc d h).from) i;
  to = same_list 0 m b.to b'.to before.to w.to w'.to g.rest.to g'.rest.to (λ d h. (arc d h).to) i;
  code = same_list 0 m b.code b'.code before.code w.code w'.code g.rest.code g'.rest.code (λ d h. (arc d h).code) i;
  cost = same_list (pos 0) m b.cost b'.cost before.cost w.cost w'.cost g.rest.cost g'.rest.cost
      (λ d h. ap (λ (x : Priced ℕ). x.cost) (arc d h).leads) i;
  reward = same_list 0 m b.reward b'.reward before.reward w.reward w'.reward g.rest.reward g'.rest.reward
      (λ d h. ap (λ (x : Priced ℕ). x.reward) (arc d h).leads) i;
}
  where
    arc : (d : ℕ) → d < m → SameArc b b' d
    arc = same_arcs g g' m (omega arith) (omega arith)

    number : (v : ℕ) → v < n → at b.node v ≡ at b'.node v
    number v h = (same_nodes g g' (omega arith) v h).number

    tree : (v : ℕ) → v < n → at b.tree v ≡ at b'.tree v
    tree v h = elim (dec_lt 0 v) [
      | yes p ↦ (same_nodes g g' (omega arith) v h).tree p
      | no p ↦
          let z : 0 ≡ v = omega arith in
          subst (λ (v : ℕ). at b.tree v ≡ at b'.tree v) z (g.rest.root ∙ sym g'.rest.root)
    ]

-- ---- each answer is a search: of all turns, or of those before the one that stops
few_arcs : (b : GraphBuffers) (m t : ℕ) → BySource b m → ((e : ℕ) → e < m → turn_of_arc b e < t) → m ≤ t
few_arcs b zero t up passed = omega arith
few_arcs b (suc m) t up passed = omega (
  arith,
  few_arcs b m (turn_of_arc b m) (λ d e h l. up d e h (omega arith)) (λ e h. up e m h (omega arith)),
  passed m (omega arith),
)

module _ {step : ℕ → ℕ → Option (Priced ℕ)} {start : ℕ} {before : GraphBuffers} where
  explored_search : {b : GraphBuffers} {n m : ℕ} → Explored step start (found b n m) → Filled before b n m → Searched step start before b n m (34 * n)
  explored_search x f = record {
    some_node = x.some_node;
    few_nodes = x.few;
    few_arcs = f.few_arcs;
    few_turns = omega arith;
    first = x.first;
    distinct = x.distinct;
    reachable = x.reachable;
    steps = λ e h. record { source = x.source e h; target = x.target e h; sound = x.sound e h };
    complete = λ a c v hc h q. x.complete a c v (omega arith) q;
    passed = λ e h. omega (arith, x.source e h, f.codes e h);
    codes = f.codes;
    by_source = f.by_source;
    tree = f.tree;
    index = f.index;
    rest = f.rest;
  }

  stopped_search : {b : GraphBuffers} (o : Stopped step start before b) → Searched step start before b 2048 o.arcs (turn_of o.node o.code)
  stopped_search {b} o = record {
    some_node = omega arith;
    few_nodes = omega arith;
    few_arcs = few_arcs b o.arcs (turn_of o.node o.code) o.filled.by_source o.earlier;
    few_turns = omega (arith, o.node_in, o.code_in);
    first = o.first;
    distinct = o.overfull.distinct;
    reachable = o.overfull.reachable;
    steps = o.steps;
    complete = o.complete;
    passed = o.earlier;
    codes = o.filled.codes;
    by_source = o.filled.by_source;
    tree = o.filled.tree;
    index = o.filled.index;
    rest = o.filled.rest;
  }

  -- ---- two answers have as many arcs
  -- all turns of all nodes are taken: none is left for an arc more
  graph_arcs : {b b' : GraphBuffers} {n n' m m' : ℕ} → Searched step start before b n m (34 * n) → Searched step start before b' n' m' (34 * n') → m < m' → ⊥
  graph_arcs {m = m} g g' l = omega (arith, (goes_on g g' l).0, (goes_on g g' l).1, g'.codes m l)

  graph_nodes : {b b' : GraphBuffers} {n n' m m' t t' : ℕ} → Searched step start before b n m t → Searched step start before b' n' m' t' → m ≤ m' → n ≤ n'
  graph_nodes {n = zero} g g' l = omega arith
  graph_nodes {n = suc n} g g' l = omega (arith, (same_nodes g g' l n (omega arith)).below)

  -- the step that stops the one would be an arc of the other, to a node of both
  stopped_arcs : {b b' : GraphBuffers} (o : Stopped step start before b) (o' : Stopped step start before b') → o.arcs < o'.arcs → ⊥
  stopped_arcs {b} {b'} o o' l = o.overfull.fresh (at b'.to a.arc) s.target ((node (at b'.to a.arc) s.target).number
      ∙ ap (λ (x : Priced ℕ). x.to) (some_inj (sym s.sound ∙ ap₂ (λ (v c : ℕ). step (at b'.node v) c) a.source a.code_is ∙ leads)))
    where
      node : (v : ℕ) → v < 2048 → SameNode b b' 2048 v
      node = same_nodes (stopped_search o) (stopped_search o') (omega arith)

      leads : step (at b'.node o.node) o.code ≡ some (record { to = o.overfull.extra; cost = o.cost; reward = o.reward })
      leads = ap (λ (x : ℕ). step x o.code) (sym (node o.node o.node_in).number) ∙ o.leads

      a : ArcOf (found b' 2048 o'.arcs) o.node o.code
      a = o'.complete o.node o.code (record { to = o.overfull.extra; cost = o.cost; reward = o.reward }) o.code_in
          (omega (arith, (goes_on (stopped_search o) (stopped_search o') l).1, o'.earlier o.arcs l)) leads

      s : IsStep step b' 2048 a.arc
      s = o'.steps a.arc a.below

  -- ---- two answers of a kind
  one_graph : {b b' : GraphBuffers} {n n' m m' : ℕ} → Same before b → Same before b' → Searched step start before b n m (34 * n)
      → Searched step start before b' n' m' (34 * n') → (n ≡ n') × (m ≡ m') × (b ≡ b')
  one_graph {b} {b'} {n} {n'} {m} {m'} w w' g g' = (
    nodes,
    arcs,
    one_search g (subst (λ (k : ℕ). Searched step start before b' k m (34 * n')) (sym nodes)
        (subst (λ (k : ℕ). Searched step start before b' n' k (34 * n')) (sym arcs) g')) w w',
  )
    where
      arcs : m ≡ m'
      arcs = omega (arith, graph_arcs g g', graph_arcs g' g)

      nodes : n ≡ n'
      nodes = omega (arith, graph_nodes g g' (omega (arith, arcs)), graph_nodes g' g (omega (arith, arcs)))

  one_stop : {b b' : GraphBuffers} → Same before b → Same before b' → Stopped step start before b → Stopped step start before b' → b ≡ b'
  one_stop {b} {b'} w w' o o' =
      one_search (stopped_search o) (subst (λ (k : ℕ). Searched step start before b' 2048 k (turn_of o'.node o'.code)) (sym arcs) (stopped_search o')) w w'
    where
      arcs : o.arcs ≡ o'.arcs
      arcs = omega (arith, stopped_arcs o o', stopped_arcs o' o)

-- question 12 has one answer
not_both : {step : ℕ → ℕ → Option (Priced ℕ)} {start : ℕ} → QuestionTwelve step start 12 → QuestionTwelve step start 0 → ⊥
not_both (answered_yes z _) _ = omega (arith, z)
not_both (answered_no _ _) (answered_no z _) = omega (arith, z)
not_both (answered_no _ h) (answered_yes _ k) = k h

-- two answers to one call, each with the buffers that it leaves, of the lengths that they had
pub one_answer : (s : Sheet) (before after after' : GraphBuffers) (r r' : Outcome) → Same before after → Same before after'
    → ExploreAnswered s before after r → ExploreAnswered s before after' r' → (r ≡ r') × (after ≡ after')
one_answer s before after after' (Err Malformed) (Err Malformed) w w' a a' = (refl, a.1 ∙ sym a'.1)
one_answer s before after after' (Err Malformed) (Err TooMany) w w' a a' = absurd (a.0 a'.0.0)
one_answer s before after after' (Err Malformed) (Ok g) w w' a a' = absurd (a.0 a'.0.0)
one_answer s before after after' (Err TooMany) (Err Malformed) w w' a a' = absurd (a'.0 a.0.0)
one_answer s before after after' (Err TooMany) (Err TooMany) w w' a a' = (refl, one_stop w w' a.1 a'.1)
one_answer s before after after' (Err TooMany) (Ok g) w w' a a' = absurd (not_both a.0.1 a'.0.1)
one_answer s before after after' (Ok g) (Err Malformed) w w' a a' = absurd (a'.0 a.0.0)
one_answer s before after after' (Ok g) (Err TooMany) w w' a a' = absurd (not_both a'.0.1 a.0.1)
one_answer s before after after' (Ok g) (Ok g') w w' a a' =
    let o = one_graph w w' (explored_search a.1.0 a.1.1) (explored_search a'.1.0 a'.1.1) in
    (ap₂ (λ (n m : ℕ). Ok (record { nodes = n; arcs = m })) o.0 o.1, o.2)
