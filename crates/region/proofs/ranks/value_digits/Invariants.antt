-- Digit by digit.
use mathlib.Core.Path.{◌≡◌}
use lib.ListN.{take}
use Rattle.region.specs.Arrays.{value_digits}
use Rattle.region.proofs.ranks.value_digits.Given as goal

abbrev pub invariant-loop-k : goal.invariant-loop-k
invariant-loop-k l = l.digits ≡ value_digits (take l.k-index l.fn.class)
