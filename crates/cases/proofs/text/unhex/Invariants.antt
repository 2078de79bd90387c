-- Two digits stand for each byte so far.
use Rattle.std.proofs.Common.{◌*◌, ◌≤◌, length}
use Rattle.cases.proofs.text.unhex.Given as goal

abbrev pub invariant-loop-n : goal.invariant-loop-n
invariant-loop-n l = 2 * l.n ≤ length l.s
