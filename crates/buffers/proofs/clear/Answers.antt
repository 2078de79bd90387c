-- The part from the place on is all zeros; where the list ends before it, there is nothing to write.
use native.Mathlib.Omega.{arith}
use Rattle.buffers.proofs.ClearedLaws.{clear_none, cleared_part}
use Rattle.buffers.proofs.clear.Goals as goal

pub returns-after-loop-entry : goal.returns-after-loop-entry
returns-after-loop-entry g c =
    cleared_part _ _ _ c.loop-entry.entry-index _ c.loop-entry.auto.entry-items (omega arith) c.loop-entry.invariant

pub returns-else-from-list : goal.returns-else-from-list
returns-else-from-list g c = clear_none _ _ _ c.if-from-list.false
