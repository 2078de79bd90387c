-- What `lasso_of` answers. The buffer as the call finds it is `arcs`, and as it leaves it `arcs'`.
use Rattle.std.specs.Prelude.{◌≡◌, List, [], ◌∷◌, ◌++◌, ℕ, ◌+◌, ◌≤◌, ◌<◌, length, take, drop, Result, Ok, Err}
use Rattle.std.proofs.Math.Seq.{slice}
use Rattle.walks.specs.Walk.{at}
use Rattle.walks.specs.Lasso.{Stem}
use Rattle.walks.specs.declared.Malformed.{Malformed}

-- the tree arc of node v leads to v from an earlier node
pub record TreeArc (F T tree : List ℕ) (v : ℕ) : Type 0 where
  pub arc : at tree v < length F
  pub ends : at T (at tree v) ≡ v
  pub earlier : at F (at tree v) < v

-- entry i of the cycle is an arc that leaves one of the nodes
pub record CycleArc (F cycle : List ℕ) (n i : ℕ) : Type 0 where
  pub arc : at cycle i < length F
  pub source : at F (at cycle i) < n

-- the arguments: a tree of n nodes, k arcs in cycle, and room for a stem and the cycle
pub record LassoArguments (F T tree cycle : List ℕ) (n k room : ℕ) : Type 0 where
  pub few : n ≤ 2048
  pub tos : length T ≡ length F
  pub tree_room : n ≤ length tree
  pub tree_arcs : (v : ℕ) → 0 < v → v < n → TreeArc F T tree v
  pub some : 0 < k
  pub cycle_room : k ≤ length cycle
  pub cycle_arcs : (i : ℕ) → i < k → CycleArc F cycle n i
  pub arcs_room : n + k ≤ room

-- each arc of the list is the tree's arc to the node that it leads to
abbrev pub AlongTree : List ℕ → List ℕ → List ℕ → Type 0
AlongTree T tree [] = Unit {0}
AlongTree T tree (e ∷ l) = (at tree (at T e) ≡ e) × AlongTree T tree l

-- s arcs of the tree, from node 0 to the first discovered of the cycle's nodes, and then the cycle, turned to begin there; nothing else is written.
-- This fixes s and every entry: lasso/proofs/OneLasso.antt.
pub record LaidOut (F T tree cycle : List ℕ) (n k s : ℕ) (arcs arcs' : List ℕ) : Type 0 where
  pub turn : ℕ
  pub below : turn < k
  pub first : (i : ℕ) → i < k → at F (at cycle turn) ≤ at F (at cycle i)
  -- of several arcs that leave that node, the first
  pub earliest : (i : ℕ) → i < turn → at F (at cycle turn) < at F (at cycle i)
  pub short : s ≤ n
  pub stem : Stem F T (length F) 0 (take s arcs') (at F (at cycle turn))
  pub along : AlongTree T tree (take s arcs')
  pub turned : slice s (s + k) arcs' ≡ slice turn k cycle ++ take turn cycle
  pub rest : drop (s + k) arcs' ≡ drop (s + k) arcs

-- Questions are not asked here, so neither answer has a number of 01's: no plan gets an `Err`, and the s of `Ok` is the plan's s.
abbrev pub LassoAnswered : List ℕ → List ℕ → List ℕ → List ℕ → ℕ → ℕ → List ℕ → List ℕ → Result ℕ Malformed → Type 0
LassoAnswered F T tree cycle n k arcs arcs' (Err _) = (LassoArguments F T tree cycle n k (length arcs) → ⊥) × (arcs' ≡ arcs)
LassoAnswered F T tree cycle n k arcs arcs' (Ok s) = LassoArguments F T tree cycle n k (length arcs) × LaidOut F T tree cycle n k s arcs arcs'
