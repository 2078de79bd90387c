-- The bytes passed are the same.
use mathlib.Core.Path.{◌≡◌}
use mathlib.Core.Bool.{true}
use Prim.Native.Nat.{◌-◌, ◌≤◌}
use Rattle.sheet.specs.Questions.{each}
use Rattle.sheet.proofs.PairLaws.{same_at}
use Rattle.reader.proofs.distinct.same_bytes.Given as goal

abbrev pub invariant-loop-i : goal.invariant-loop-i
invariant-loop-i l = (l.i ≤ l.count) × (each l.i (same_at l.s l.x l.y) ≡ true)

abbrev pub decreases-loop-i : goal.decreases-loop-i
decreases-loop-i l = l.count - l.i
