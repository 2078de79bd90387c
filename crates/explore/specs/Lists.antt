-- The lists that `explore` is lent: what stands in them, and what is asked and kept of them.
use Rattle.std.specs.Prelude.{◌≡◌, List, ℕ, ◌≤◌, length, Option}
use Rattle.std.specs.Borrow.{MutBor}
use Rattle.explore.specs.Buffers.{GraphBuffers, graph_buffers}
use Rattle.explore.specs.Index.{Index, Entered}
use Rattle.explore.specs.declared.index.NodeLists.{NodeLists}
use Rattle.explore.specs.declared.arcs.ArcLists.{ArcLists}

abbrev pub buffers_of : NodeLists → ArcLists → GraphBuffers
buffers_of v e = graph_buffers v.numbers.now v.sorted.now v.order.now v.tree.now e.from.now e.to.now e.code.now e.cost.now e.reward.now

-- room for 2,048 nodes
pub record NodeRoom (v : NodeLists) : Type 0 where
  pub numbers : 2048 ≤ length v.numbers.now
  pub sorted : 2048 ≤ length v.sorted.now
  pub order : 2048 ≤ length v.order.now
  pub tree : 2048 ≤ length v.tree.now

-- and for an arc for each node and code
pub record ArcRoom (e : ArcLists) : Type 0 where
  pub from : 69632 ≤ length e.from.now
  pub to : 69632 ≤ length e.to.now
  pub code : 69632 ≤ length e.code.now
  pub cost : 69632 ≤ length e.cost.now
  pub reward : 69632 ≤ length e.reward.now

-- the lists lent stay where they are, and keep their lengths
pub record SameList {A : Type 0} (old new : MutBor (List A)) : Type 0 where
  pub name : new.ghost_name ≡ old.ghost_name
  pub long : length new.now ≡ length old.now

pub record SameNodeLists (old new : NodeLists) : Type 0 where
  pub numbers : SameList old.numbers new.numbers
  pub sorted : SameList old.sorted new.sorted
  pub order : SameList old.order new.order
  pub tree : SameList old.tree new.tree

pub record SameArcLists (old new : ArcLists) : Type 0 where
  pub from : SameList old.from new.from
  pub to : SameList old.to new.to
  pub code : SameList old.code new.code
  pub cost : SameList old.cost new.cost
  pub reward : SameList old.reward new.reward

-- the first n nodes have their index
abbrev pub NodesIndexed : NodeLists → ℕ → Type 0
NodesIndexed v n = Index v.numbers.now v.sorted.now v.order.now n

-- what a look-up of y does, for the arc m
abbrev pub EnteredIn : NodeLists → NodeLists → ℕ → ℕ → ℕ → Option ℕ → Type 0
EnteredIn v w n y m o = Entered v.numbers.now v.sorted.now v.order.now v.tree.now w.numbers.now w.sorted.now w.order.now w.tree.now n y m o
