-- Turn by turn; the lists stay.
use Prim.Native.Nat.{◌-◌}
use Rattle.contract.specs.Explored.{step_read, start_read}
use Rattle.explore.specs.Lists.{buffers_of, SameNodeLists, SameArcLists}
use Rattle.explore.proofs.SearchLaws.{Searched, seeded}
use Rattle.explore.proofs.search.search.Given as goal

abbrev pub invariant-loop-t : goal.invariant-loop-t
invariant-loop-t l = record {
  searched : Searched (step_read l.sheet) (start_read l.sheet) (seeded (buffers_of l.fn.nodes l.fn.arcs)) (buffers_of l.nodes l.arcs) l.n l.m l.t;
  nodes : SameNodeLists l.fn.nodes l.nodes;
  arcs : SameArcLists l.fn.arcs l.arcs;
}

abbrev pub decreases-loop-t : goal.decreases-loop-t
decreases-loop-t l = 69632 - l.t
