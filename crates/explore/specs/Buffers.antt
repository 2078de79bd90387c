-- The lists that `explore` fills.
use Rattle.std.specs.Prelude.{List, ℕ, ◌≤◌, ℤ, length}
use Rattle.contract.specs.Explored.{Found}

pub record GraphBuffers : Type 0 where
  -- the nodes' numbers, in order of discovery
  pub node : List ℕ
  -- the same numbers, rising, and of each its place in order of discovery
  pub sorted : List ℕ
  pub order : List ℕ
  -- of each node but the start the arc that discovered it
  pub tree : List ℕ
  -- of each arc its ends, as places in order of discovery, its code, its cost and its reward
  pub from : List ℕ
  pub to : List ℕ
  pub code : List ℕ
  pub cost : List ℤ
  pub reward : List ℕ

abbrev pub graph_buffers : List ℕ → List ℕ → List ℕ → List ℕ → List ℕ → List ℕ → List ℕ → List ℤ → List ℕ → GraphBuffers
graph_buffers N K I P F T C Z R = record { node = N; sorted = K; order = I; tree = P; from = F; to = T; code = C; cost = Z; reward = R }

-- n nodes and m arcs
abbrev pub found : GraphBuffers → ℕ → ℕ → Found
found b n m = record { node = b.node; from = b.from; to = b.to; code = b.code; cost = b.cost; reward = b.reward; n = n; m = m }

-- room for 2,048 nodes, and for an arc for each node and code
pub record HasRoom (b : GraphBuffers) : Type 0 where
  pub node : 2048 ≤ length b.node
  pub sorted : 2048 ≤ length b.sorted
  pub order : 2048 ≤ length b.order
  pub tree : 2048 ≤ length b.tree
  pub from : 69632 ≤ length b.from
  pub to : 69632 ≤ length b.to
  pub code : 69632 ≤ length b.code
  pub cost : 69632 ≤ length b.cost
  pub reward : 69632 ≤ length b.reward
