-- The lists lent stay, and keep their lengths; and what a test of the lengths says.
use mathlib.Core.List.{List}
use mathlib.Core.Path.{◌≡◌, sym, ◌∙◌}
use mathlib.Core.Bool.{Bool, true, false, ◌&&◌}
use Prim.Native.Nat.{ℕ, ◌≤◌}
use native.Mathlib.Omega.{arith}
use borrow.Author.Tests.{leb-true, le-leb}
use lib.Dec.{leb}
use lib.ListN.{length}
use Rattle.std.specs.Borrow.{MutBor}
use Rattle.automaton.proofs.Tests.{&&-left, &&-right}
use Rattle.explore.specs.Buffers.{GraphBuffers, HasRoom}
use Rattle.explore.specs.Lists.{buffers_of, SameList, SameNodeLists, SameArcLists}
use Rattle.explore.specs.declared.index.NodeLists.{NodeLists}
use Rattle.explore.specs.declared.arcs.ArcLists.{ArcLists}

pub same_list : {A : Type 0} {a b c : MutBor (List A)} → SameList a b → SameList b c → SameList a c
same_list p q = record { name = q.name ∙ p.name; long = q.long ∙ p.long }

pub same_nodes : {a b c : NodeLists} → SameNodeLists a b → SameNodeLists b c → SameNodeLists a c
same_nodes p q = record {
  numbers = same_list p.numbers q.numbers;
  sorted = same_list p.sorted q.sorted;
  order = same_list p.order q.order;
  tree = same_list p.tree q.tree;
}

pub same_arcs : {a b c : ArcLists} → SameArcLists a b → SameArcLists b c → SameArcLists a c
same_arcs p q = record {
  from = same_list p.from q.from;
  to = same_list p.to q.to;
  code = same_list p.code q.code;
  cost = same_list p.cost q.cost;
  reward = same_list p.reward q.reward;
}

pub long_kept : {v v' : NodeLists} {e e' : ArcLists} → SameNodeLists v v' → SameArcLists e e' → HasRoom (buffers_of v e) → HasRoom (buffers_of v' e')
long_kept s t r = record {
  node = omega (arith, s.numbers.long, r.node);
  sorted = omega (arith, s.sorted.long, r.sorted);
  order = omega (arith, s.order.long, r.order);
  tree = omega (arith, s.tree.long, r.tree);
  from = omega (arith, t.from.long, r.from);
  to = omega (arith, t.to.long, r.to);
  code = omega (arith, t.code.long, r.code);
  cost = omega (arith, t.cost.long, r.cost);
  reward = omega (arith, t.reward.long, r.reward);
}

-- the lengths of all nine
pub record Same (before after : GraphBuffers) : Type 0 where
  pub nodes : length after.node ≡ length before.node
  pub sorted : length after.sorted ≡ length before.sorted
  pub order : length after.order ≡ length before.order
  pub tree : length after.tree ≡ length before.tree
  pub from : length after.from ≡ length before.from
  pub to : length after.to ≡ length before.to
  pub code : length after.code ≡ length before.code
  pub cost : length after.cost ≡ length before.cost
  pub reward : length after.reward ≡ length before.reward

pub lengths : {v v' : NodeLists} {e e' : ArcLists} → SameNodeLists v v' → SameArcLists e e' → Same (buffers_of v e) (buffers_of v' e')
lengths s t = record {
  nodes = s.numbers.long;
  sorted = s.sorted.long;
  order = s.order.long;
  tree = s.tree.long;
  from = t.from.long;
  to = t.to.long;
  code = t.code.long;
  cost = t.cost.long;
  reward = t.reward.long;
}

-- ---- a test of the lengths: docs/PORT.md names these; no proof cites them

abbrev each_at_least : ℕ → ℕ → ℕ → ℕ → ℕ → Bool
each_at_least least a b c d = leb least a && (leb least b && (leb least c && leb least d))

each_true : (least a b c d : ℕ) → each_at_least least a b c d ≡ true → (least ≤ a) × ((least ≤ b) × ((least ≤ c) × (least ≤ d)))
each_true least a b c d e =
    let f = &&-right (leb least a) (leb least b && (leb least c && leb least d)) e in
    let h = &&-right (leb least b) (leb least c && leb least d) f in (
      leb-true least a (&&-left (leb least a) (leb least b && (leb least c && leb least d)) e),
      (leb-true least b (&&-left (leb least b) (leb least c && leb least d) f), (leb-true least c (&&-left (leb least c) (leb least d) h), leb-true least d (&&-right (leb least c) (leb least d) h))),
    )

each_is : (least a b c d : ℕ) → least ≤ a → least ≤ b → least ≤ c → least ≤ d → each_at_least least a b c d ≡ true
each_is least a b c d p q r s = simp (le-leb least a p, le-leb least b q, le-leb least c r, le-leb least d s)

-- the whole test
abbrev fits : GraphBuffers → Bool
fits b = each_at_least 2048 (length b.node) (length b.sorted) (length b.order) (length b.tree)
    && (each_at_least 69632 (length b.from) (length b.to) (length b.code) (length b.cost) && leb 69632 (length b.reward))

pub long_of : (b : GraphBuffers) (t : Bool) → t ≡ fits b → t ≡ true → HasRoom b
long_of b t d y =
    let e : fits b ≡ true = sym d ∙ y in
    let n = each_at_least 2048 (length b.node) (length b.sorted) (length b.order) (length b.tree) in
    let m = each_at_least 69632 (length b.from) (length b.to) (length b.code) (length b.cost) in
    let r = leb 69632 (length b.reward) in
    let p = each_true 2048 (length b.node) (length b.sorted) (length b.order) (length b.tree) (&&-left n (m && r) e) in
    let f = &&-right n (m && r) e in
    let q = each_true 69632 (length b.from) (length b.to) (length b.code) (length b.cost) (&&-left m r f) in
    record {
      node = p.0;
      sorted = p.1.0;
      order = p.1.1.0;
      tree = p.1.1.1;
      from = q.0;
      to = q.1.0;
      code = q.1.1.0;
      cost = q.1.1.1;
      reward = leb-true 69632 (length b.reward) (&&-right m r f);
    }

pub not_long : (b : GraphBuffers) (t : Bool) → t ≡ fits b → t ≡ false → HasRoom b → ⊥
not_long b t d f g =
    let e : fits b ≡ false = sym d ∙ f in
    let z : fits b ≡ true = simp (
      each_is 2048 (length b.node) (length b.sorted) (length b.order) (length b.tree) g.node g.sorted g.order g.tree,
      each_is 69632 (length b.from) (length b.to) (length b.code) (length b.cost) g.from g.to g.code g.cost,
      le-leb 69632 (length b.reward) g.reward,
    ) in
    let y : ◌≡◌ {A = ℕ} 0 1 = cc in omega arith
