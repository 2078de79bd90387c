-- Lassos: a stem from node 0 and a cycle at its end; and stems along a search tree.
use Rattle.std.specs.Prelude.{◌≡◌, List, [], ◌∷◌, ◌++◌, ℕ, ◌<◌, length}
use Rattle.walks.specs.Walk.{at, ArcWalk, Distinct}

-- s and c are walks of arcs; they meet no node twice but where c closes
pub record ArcLasso (F T : List ℕ) (m : ℕ) (s c : List ℕ) : Type 0 where
  pub hub : ℕ
  pub stem : ArcWalk F T m 0 s hub
  pub some : 0 < length c
  pub cycle : ArcWalk F T m hub c hub
  pub simple : Distinct F (s ++ c)

-- each arc leads to a later node
abbrev pub Forward : List ℕ → List ℕ → List ℕ → Type 0
Forward F T [] = Unit {0}
Forward F T (e ∷ s) = (at F e < at T e) × Forward F T s

-- the tree arc of each node but 0 comes from an earlier node, whatever the graph's other parts are
pub record Tree (F tree : List ℕ) (n : ℕ) : Type 0 where
  pub T : List ℕ
  pub m : ℕ
  pub froms : length F ≡ m
  pub arc : (v : ℕ) → v < n → 0 < v → at tree v < m
  pub ends : (v : ℕ) → v < n → 0 < v → at T (at tree v) ≡ v
  pub earlier : (v : ℕ) → v < n → 0 < v → at F (at tree v) < v

-- the arcs of l lead from x to h, each to a later node
pub record Stem (F T : List ℕ) (m x : ℕ) (l : List ℕ) (h : ℕ) : Type 0 where
  pub walk : ArcWalk F T m x l h
  pub rising : Forward F T l
