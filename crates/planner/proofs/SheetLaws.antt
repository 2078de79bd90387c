-- What `explore` answered of a sheet, with its buffers cut to the arcs.
use mathlib.Core.Path.{◌≡◌, refl, sym, ap, ◌∙◌, subst}
use mathlib.Core.List.{List}
use Prim.Native.Nat.{ℕ, ◌≤◌, ◌<◌}
use native.Mathlib.Omega.{arith}
use lib.IntN.{ℤ, pos}
use lib.ListN.{length, take, replicate}
use lib.Seq.{get_or-take, length-take-le}
use Rattle.std.specs.Prelude.{Ok, Err}
use Rattle.sheet.specs.declared.Sheet.{Sheet}
use Rattle.sheet.proofs.AcceptedLaws.{header}
use Rattle.nodes.proofs.DecodedLaws.{read_passed}
use Rattle.walks.specs.Walk.{at}
use Rattle.lasso.specs.Answer.{TreeArc}
use Rattle.ratio.proofs.RatioAnswerLaws.{room}
use Rattle.contract.specs.Plan as Contract
use Rattle.contract.specs.Plan.{step_on, start_of}
use Rattle.contract.specs.Explored.{Explored, Overfull, step_read, start_read}
use Rattle.contract.proofs.Graphs.{Room, explored_cut, graph}
use Rattle.contract.proofs.DecodedSheets.{explored_read, overfull_read}
use Rattle.explore.specs.Buffers.{GraphBuffers, graph_buffers, found, HasRoom}
use Rattle.explore.specs.Explorable.{Explorable}
use Rattle.explore.specs.Answer.{Outcome, Filled, ExploreAnswered}
use Rattle.explore.specs.declared.Unexplored.TheVariants.{Malformed, TooMany}
use Rattle.explore.proofs.LengthLaws.{Same}
use Rattle.planner.specs.PrivatePromises.{ReadFrom, Handed, OfSheet}

-- the buffers as `explore` finds them: new ones, but for the lent one that takes the numbers in rising order
abbrev pub fresh : List ℕ → GraphBuffers
fresh N = graph_buffers (replicate 2048 0) N (replicate 2048 0) (replicate 2048 0)
    (replicate 69632 0) (replicate 69632 0) (replicate 69632 0) (replicate 69632 (pos 0)) (replicate 69632 0)

fresh_long : (N : List ℕ) → 2048 ≤ length N → HasRoom (fresh N)
fresh_long N h = record {
  node = room {A = ℕ} 2048 0 (omega arith);
  sorted = h;
  order = room {A = ℕ} 2048 0 (omega arith);
  tree = room {A = ℕ} 2048 0 (omega arith);
  from = room {A = ℕ} 69632 0 (omega arith);
  to = room {A = ℕ} 69632 0 (omega arith);
  code = room {A = ℕ} 69632 0 (omega arith);
  cost = room 69632 (pos 0) (omega arith);
  reward = room {A = ℕ} 69632 0 (omega arith);
}

-- the lists that `explore` left, by the names that the planner has for them
pub record Named (b : GraphBuffers) (F T C : List ℕ) (Z : List ℤ) (R I P N : List ℕ) : Type 0 where
  pub from : F ≡ b.from
  pub to : T ≡ b.to
  pub code : C ≡ b.code
  pub cost : Z ≡ b.cost
  pub reward : R ≡ b.reward
  pub order : I ≡ b.order
  pub tree : P ≡ b.tree
  pub sorted : N ≡ b.sorted

-- a sheet that was read from checked bytes can be explored
explorable : (read : Sheet) (b : GraphBuffers) → ReadFrom read → HasRoom b → Explorable read b
explorable read b o room =
    let head = header o.bytes o.checked in
    subst (λ (s : Sheet). Explorable s b) (sym (o.is ∙ read_passed o.bytes o.checked))
    (record { not_refused = refl; counts = record { locations_in = head.locations; clocks_in = head.clocks; edges_in = head.edges }; room = room })

module _ (read : Sheet) (N : List ℕ) (b : GraphBuffers) (A : Outcome) (z : ExploreAnswered read (fresh N) b A) where
  abbrev Is : Outcome → Type 0
  Is = ExploreAnswered read (fresh N) b

  pub never : A ≡ Err Malformed → ReadFrom read → 2048 ≤ length N → ⊥
  never e o h = (subst Is e z).0 (explorable read (fresh N) o (fresh_long N h))

  pub overfull : A ≡ Err TooMany → (o : ReadFrom read) → Overfull (step_on o.bytes) (start_of o.bytes) b.node
  overfull e o = overfull_read o.bytes o.checked
      (subst (λ (s : Sheet). Overfull (step_read s) (start_read s) b.node) o.is (subst Is e z).1.overfull)

  module _ (n m : ℕ) (e : A ≡ Ok (record { nodes = n; arcs = m })) where
    pub filled : Filled (fresh N) b n m
    filled = (subst Is e z).1.1

    pub explored : (o : ReadFrom read) → Explored (step_on o.bytes) (start_of o.bytes) (found b n m)
    explored o = explored_read o.bytes o.checked
        (subst (λ (s : Sheet). Explored (step_read s) (start_read s) (found b n m)) o.is (subst Is e z).1.0)

    pub few_arcs : (o : ReadFrom read) → m ≤ 69632
    few_arcs o = omega (arith, filled.few_arcs, (explored o).few)

    module _ (o : ReadFrom read) (long : 2048 ≤ length N) (kept : Same (fresh N) b) where
      pub room_left : Room (found b n m)
      room_left =
          let few = few_arcs o in
          let before = fresh_long N long in record {
            from = omega (arith, few, kept.from, before.from);
            to = omega (arith, few, kept.to, before.to);
            cost = omega (arith, few, kept.cost, before.cost);
            reward = omega (arith, few, kept.reward, before.reward);
            few = few;
          }

      pub codes_left : m ≤ length b.code
      codes_left = omega (arith, few_arcs o, kept.code, (fresh_long N long).code)

      arcs : length (take m b.from) ≡ m
      arcs = length-take-le m b.from room_left.from

      tree_arc : (v : ℕ) → 0 < v → v < n → TreeArc (take m b.from) (take m b.to) b.tree v
      tree_arc v p h = let l = filled.tree.arc v h p in record {
        arc = omega (arith, arcs, l);
        ends = get_or-take m b.to (at b.tree v) 0 l ∙ filled.tree.ends v h p;
        earlier = omega (arith, get_or-take m b.from (at b.tree v) 0 l, filled.tree.earlier v h p);
      }

      few_nodes : n ≤ 2048
      few_nodes = omega (arith, (explored o).few)

      tree_sized : length (take n b.tree) ≡ n
      tree_sized = length-take-le n b.tree (omega (arith, few_nodes, kept.tree, (fresh_long N long).tree))

      order_sized : length (take n b.order) ≡ n
      order_sized = length-take-le n b.order (omega (arith, few_nodes, kept.order, (fresh_long N long).order))

      pub ordered_at : (i : ℕ) → i < n → at (take n b.order) i ≡ at b.order i
      ordered_at i h = get_or-take n b.order i 0 h

      tree_cut : (v : ℕ) → 0 < v → v < n → TreeArc (take m b.from) (take m b.to) (take n b.tree) v
      tree_cut v p h = let t = tree_arc v p h in let e = get_or-take n b.tree v 0 h in record { arc = rw e t.arc; ends = rw e t.ends; earlier = rw e t.earlier }

      module _ {F T C : List ℕ} {Z : List ℤ} {R I P K : List ℕ} (w : Named b F T C Z R I P K) where
        pub handed : Handed (take m F) (take m T) (take m C) (take m Z) (take m R) (take n I) (take n P) (length (take n P))
        handed = rw (w.from, w.to, w.code, w.cost, w.reward, w.order, w.tree) (subst (Handed (take m b.from) (take m b.to) (take m b.code) (take m b.cost) (take m b.reward) (take n b.order) (take n b.tree)) (sym tree_sized) (record {
          graph = graph o.bytes o.checked room_left (explored o);
          codes = length-take-le m b.code codes_left ∙ sym arcs;
          ordered = order_sized;
          order_below = λ i h. omega (arith, ordered_at i h, filled.index.below i h);
          tree_room = omega (arith, tree_sized);
          tree_arcs = tree_cut;
        }))

        pub cut_nodes : length (take n P) ≡ n
        cut_nodes = rw w.tree tree_sized

        abbrev pub of_sheet : (before : Contract.Buffers) → Contract.LongEnough before → N ≡ before.nodes
            → OfSheet (take m F) (take m T) (take m C) (take m Z) (take m R) (take n I) (length (take n P)) (record before { nodes = K })
        of_sheet before enough is = record {
          bytes = o.bytes;
          before = before;
          node = b.node;
          checked = o.checked;
          long = enough;
          lengths = record { nodes = ap length w.sorted ∙ kept.sorted ∙ ap length is; potentials = refl; steps = refl };
          explored = rw (cut_nodes, w.from, w.to, w.code, w.cost, w.reward) (explored_cut room_left (explored o));
          sorted = rw (cut_nodes, w.from, w.to, w.code, w.cost, w.reward, w.order, w.sorted) (record {
            below = λ i h. rw (ordered_at i h) (filled.index.below i h);
            is = λ i h. rw (ordered_at i h) (filled.index.is i h);
            rising = filled.index.rising.rises;
          });
        }
