-- The entries so far are zeros.
use Rattle.std.proofs.Common.{◌≡◌, take, replicate}
use Rattle.buffers.proofs.clear.Given as goal

abbrev pub invariant-loop-entry : goal.invariant-loop-entry
invariant-loop-entry g l = take l.entry-index l.entry-items ≡ replicate l.entry-index l.zero
