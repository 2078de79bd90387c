-- Walks in a graph. The arc e leads from the node `at F e` to the node `at T e`, for each e below m, the number of arcs. Node 0 is the start.
use Rattle.std.specs.Prelude.{◌≡◌, List, [], ◌∷◌, ℕ, ◌<◌, length, get_or, ℤ, pos}

-- the entry i of a list
abbrev pub at : List ℕ → ℕ → ℕ
at l i = get_or l i 0

abbrev pub atℤ : List ℤ → ℕ → ℤ
atℤ l i = get_or l i (pos 0)

-- c, a list of arcs, is a walk from x to y
abbrev pub ArcWalk : List ℕ → List ℕ → ℕ → ℕ → List ℕ → ℕ → Type 0
ArcWalk F T m x [] y = x ≡ y
ArcWalk F T m x (e ∷ c) y = (e < m) × (at F e ≡ x) × ArcWalk F T m (at T e) c y

-- some walk leads from the start to x
pub record Reached (F T : List ℕ) (m x : ℕ) : Type 0 where
  pub path : List ℕ
  pub walk : ArcWalk F T m 0 path x

-- "a cycle is a walk of at least one step back to its node"
pub record ArcCycle (F T : List ℕ) (m x : ℕ) (c : List ℕ) : Type 0 where
  pub some : 0 < length c
  pub walk : ArcWalk F T m x c x

-- no two arcs of l leave one node: a cycle then meets no node twice except where it closes
abbrev pub Distinct : List ℕ → List ℕ → Type 0
Distinct F l = (i j : ℕ) → i < length l → j < length l → at F (at l i) ≡ at F (at l j) → i ≡ j
