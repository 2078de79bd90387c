-- The arcs passed are in order.
use Prim.Native.Nat.{ℕ, ◌<◌}
use Rattle.walks.specs.Form.{Arc}
use Rattle.graph.proofs.form.arcs_in_range.Given as goal

abbrev pub invariant-loop-e : goal.invariant-loop-e
invariant-loop-e l = (i : ℕ) → i < l.e → Arc l.arcs.from.now l.arcs.to.now l.arcs.cost.now l.arcs.reward.now l.nodes i
