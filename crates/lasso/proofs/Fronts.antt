-- What holds of the fronts of tree and cycle, n and k entries long, holds of the whole lists.
use mathlib.Core.Path.{◌≡◌, sym, ap, ap₂, subst, ◌∙◌}
use mathlib.Core.List.{List, [], ◌∷◌, ◌++◌}
use Prim.Native.Nat.{ℕ, ◌≤◌, ◌<◌}
use native.Mathlib.Omega.{arith}
use lib.ListN.{length, take, drop}
use lib.Seq.{take-take, length-take-le, get_or-take}
use Rattle.walks.specs.Walk.{at, ArcWalk}
use Rattle.walks.specs.Lasso.{Forward, Stem}
use Rattle.lasso.specs.Answer.{TreeArc, CycleArc, LassoArguments, AlongTree, LaidOut}

module _ (F T : List ℕ) where
  same_tree_arc : (l r : List ℕ) (v : ℕ) → at l v ≡ at r v → TreeArc F T l v → TreeArc F T r v
  same_tree_arc l r v e a = record {
    arc = subst (λ (y : ℕ). y < length F) e a.arc;
    ends = subst (λ (y : ℕ). at T y ≡ v) e a.ends;
    earlier = subst (λ (y : ℕ). at F y < v) e a.earlier;
  }

  same_cycle_arc : (l r : List ℕ) (n i : ℕ) → at l i ≡ at r i → CycleArc F l n i → CycleArc F r n i
  same_cycle_arc l r n i e a = record {
    arc = subst (λ (y : ℕ). y < length F) e a.arc;
    source = subst (λ (y : ℕ). at F y < n) e a.source;
  }

module _ (F T tree cycle : List ℕ) (n k : ℕ) (ht : n ≤ length tree) (hk : k ≤ length cycle) where
  long_tree : length (take n tree) ≡ n
  long_tree = length-take-le n tree ht

  long_cycle : length (take k cycle) ≡ k
  long_cycle = length-take-le k cycle hk

  pub whole_arguments : (room : ℕ) → LassoArguments F T (take n tree) (take k cycle) (length (take n tree)) (length (take k cycle)) room
      → LassoArguments F T tree cycle n k room
  whole_arguments room z = record {
    few = w.few;
    tos = w.tos;
    tree_room = ht;
    tree_arcs = λ v p h. same_tree_arc F T (take n tree) tree v (get_or-take n tree v 0 h) (w.tree_arcs v p h);
    some = w.some;
    cycle_room = hk;
    cycle_arcs = λ i h. same_cycle_arc F T (take k cycle) cycle n i (get_or-take k cycle i 0 h) (w.cycle_arcs i h);
    arcs_room = w.arcs_room;
  }
    where
      w : LassoArguments F T (take n tree) (take k cycle) n k room
      w = subst (λ (j : ℕ). LassoArguments F T (take n tree) (take k cycle) n j room) long_cycle
          (subst (λ (i : ℕ). LassoArguments F T (take n tree) (take k cycle) i (length (take k cycle)) room) long_tree z)

  -- a walk forward to one of the n nodes meets no others
  along_whole : (m x h : ℕ) (l : List ℕ) → h < n → ArcWalk F T m x l h → Forward F T l → AlongTree T (take n tree) l → (x ≤ h) × AlongTree T tree l
  along_whole m x h [] p w f a = (omega (arith, w), tt)
  along_whole m x h (e ∷ l) p w f a =
      let r = along_whole m (at T e) h l p w.2 f.1 a.1 in
      (omega (arith, w.1, f.0, r.0), (sym (get_or-take n tree (at T e) 0 (omega (arith, r.0, p))) ∙ a.0, r.1))

  pub whole_laid : (room s : ℕ) (arcs arcs' : List ℕ) → LassoArguments F T tree cycle n k room
      → LaidOut F T (take n tree) (take k cycle) (length (take n tree)) (length (take k cycle)) s arcs arcs' → LaidOut F T tree cycle n k s arcs arcs'
  whole_laid room s arcs arcs' w z = record {
    turn = t;
    below = l.below;
    first = λ i h. omega (arith, l.first i h, source t l.below, source i h);
    earliest = λ i h. omega (arith, l.earliest i h, source t l.below, source i (omega (arith, h, l.below)));
    short = l.short;
    stem = subst (λ (y : ℕ). Stem F T (length F) 0 (take s arcs') y) (source t l.below) l.stem;
    along = (along_whole (length F) 0 (at F (at (take k cycle) t)) (take s arcs')
        (omega (arith, source t l.below, (w.cycle_arcs t l.below).source)) l.stem.walk l.stem.rising l.along).1;
    turned = l.turned ∙ ap₂ (λ (x y : List ℕ). drop t x ++ y) (take-take k k cycle (omega arith)) (take-take t k cycle (omega (arith, l.below)));
    rest = l.rest;
  }
    where
      l : LaidOut F T (take n tree) (take k cycle) n k s arcs arcs'
      l = subst (λ (j : ℕ). LaidOut F T (take n tree) (take k cycle) n j s arcs arcs') long_cycle
          (subst (λ (i : ℕ). LaidOut F T (take n tree) (take k cycle) i (length (take k cycle)) s arcs arcs') long_tree z)

      t : ℕ
      t = l.turn

      source : (i : ℕ) → i < k → at F (at (take k cycle) i) ≡ at F (at cycle i)
      source i h = ap (at F) (get_or-take k cycle i 0 h)
