-- What exploring hands over: the reachable nodes and the steps between them as a graph, or more nodes than there is room for. For any steps by code.
use Rattle.std.specs.Prelude.{◌≡◌, List, ℕ, ◌≤◌, ◌<◌, ℤ}
use Rattle.std.proofs.Math.Option.{Option, some}
use Rattle.automaton.specs.Priced.{Priced}
use Rattle.automaton.specs.Walks.{Reachable}
use Rattle.sheet.specs.declared.Sheet.{Sheet}
use Rattle.nodes.specs.Numbers.{step_by, start_number}
use Rattle.nodes.specs.Decoded.{decoded_meaning, layout_in}
use Rattle.walks.specs.Walk.{at, atℤ}

-- n nodes and m arcs, at the front of these lists
pub record Found : Type 0 where
  -- the nodes' numbers, in order of discovery
  pub node : List ℕ
  -- of each arc its ends, as places in that order, its code, its cost and its reward
  pub from : List ℕ
  pub to : List ℕ
  pub code : List ℕ
  pub cost : List ℤ
  pub reward : List ℕ
  pub n : ℕ
  pub m : ℕ

-- the arc for the step with this code at the node a
pub record ArcOf (g : Found) (a code : ℕ) : Type 0 where
  pub arc : ℕ
  pub below : arc < g.m
  pub source : at g.from arc ≡ a
  pub code_is : at g.code arc ≡ code

module _ (step : ℕ → ℕ → Option (Priced ℕ)) (start : ℕ) where
  pub record Explored (g : Found) : Type 0 where
    -- the start comes first
    pub some_node : 0 < g.n
    pub first : at g.node 0 ≡ start
    pub few : g.n ≤ 2048
    pub distinct : (a b : ℕ) → a < g.n → b < g.n → at g.node a ≡ at g.node b → a ≡ b
    pub reachable : (a : ℕ) → a < g.n → Reachable step start (at g.node a)
    pub source : (e : ℕ) → e < g.m → at g.from e < g.n
    pub target : (e : ℕ) → e < g.m → at g.to e < g.n
    -- each arc is an allowed step, and each allowed step is an arc
    pub sound : (e : ℕ) → e < g.m → step (at g.node (at g.from e)) (at g.code e)
        ≡ some (record { to = at g.node (at g.to e); cost = atℤ g.cost e; reward = at g.reward e })
    pub complete : (a code : ℕ) (v : Priced ℕ) → a < g.n → step (at g.node a) code ≡ some v → ArcOf g a code

  -- the first 2,048 entries of the list, and one node more
  pub record Overfull (node : List ℕ) : Type 0 where
    pub distinct : (a b : ℕ) → a < 2048 → b < 2048 → at node a ≡ at node b → a ≡ b
    pub reachable : (a : ℕ) → a < 2048 → Reachable step start (at node a)
    pub extra : ℕ
    pub fresh : (a : ℕ) → a < 2048 → at node a ≡ extra → ⊥
    pub extra_reachable : Reachable step start extra

-- the order of output: entry i of the node list is the node `at order i` by discovery
pub record Sorted (g : Found) (order nodes : List ℕ) : Type 0 where
  pub below : (i : ℕ) → i < g.n → at order i < g.n
  pub is : (i : ℕ) → i < g.n → at nodes i ≡ at g.node (at order i)
  pub rising : (i j : ℕ) → i < j → j < g.n → at nodes i < at nodes j

-- the steps of a decoded sheet, on node numbers, and its start
abbrev pub step_read : Sheet → ℕ → ℕ → Option (Priced ℕ)
step_read s = step_by (layout_in s) (decoded_meaning s)

abbrev pub start_read : Sheet → ℕ
start_read s = start_number (layout_in s) (decoded_meaning s)
