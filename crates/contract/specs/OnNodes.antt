-- Demand 2 on the nodes of the corner-point abstraction themselves, and not on their numbers. It is proved of whatever meets the contract and is
-- accepted (proofs/OnNodes.antt). What the nodes have to do with corner points is proved in automaton/proofs/Corners.antt.
use Rattle.std.specs.Prelude.{◌≡◌, List, ℕ, ◌<◌}
use Rattle.automaton.specs.Nodes.{Node, start_node}
use Rattle.automaton.specs.Steps.{step}
use Rattle.automaton.specs.Walks.{Reachable}
use Rattle.automaton.specs.Weights.{Potential}
use Rattle.automaton.specs.Ratios.{LeastRatio}
use Rattle.nodes.specs.Numbers.{number}
use Rattle.nodes.specs.Meaning.{meaning, layout_of}
use Rattle.walks.specs.Walk.{at, atℤ}
use Rattle.contract.specs.Accepted.{Listed, Lasso, CycleSums}
use Rattle.contract.specs.Plan.{Answer, Buffers}

module _ (bytes : List ℕ) (a : Answer) (after : Buffers) where
  -- entry i of the lists: the number of a reachable node, and that node's potential
  pub record EntryOfNode (i : ℕ) : Type 0 where
    pub node : Node
    pub reached : Reachable (step (meaning bytes)) (start_node (meaning bytes)) node
    pub is : number (layout_of bytes) node ≡ at after.nodes i
    pub potential : Potential (step (meaning bytes)) (start_node (meaning bytes)) a.p a.q node (atℤ after.potentials i)

  pub record OnNodes : Type 0 where
    pub ratio : LeastRatio (step (meaning bytes)) (start_node (meaning bytes)) a.p a.q
    pub entry : (i : ℕ) → i < a.n → EntryOfNode i
    pub complete : (u : Node) → Reachable (step (meaning bytes)) (start_node (meaning bytes)) u → Listed after.nodes a.n (number (layout_of bytes) u)
    pub lasso : Lasso (step (meaning bytes)) (start_node (meaning bytes)) a.p a.q a.s a.m after.steps
    pub sums : CycleSums (step (meaning bytes)) (start_node (meaning bytes)) a.p a.q lasso a.units a.cost a.reward
