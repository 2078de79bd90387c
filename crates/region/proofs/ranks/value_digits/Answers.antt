-- Digit by digit.
use mathlib.Core.Path.{ap₂, ◌∙◌}
use Prim.Native.Nat.{◌*◌}
use native.Mathlib.Omega.{arith}
use lib.Bits.{bit_or}
use lib.ListN.{get_or}
use Rattle.sheet.proofs.MapLaws.{one_shl}
use Rattle.region.proofs.DigitLaws.{values_none, values_more}
use Rattle.std.proofs.Common.{rules}
use Rattle.region.proofs.ranks.value_digits.Goals as goal

pub loop-k-init : goal.loop-k-init
loop-k-init c = values_none c.args.class

pub loop-k-preserved : goal.loop-k-preserved
loop-k-preserved c =
    let xs = c.args.class in
    let j = c.loop-k.k-index in
    let small = c.requires j in
    rw c.from.ensures (ap₂ bit_or c.loop-k.invariant (one_shl 32 (4 * get_or xs j 0) (omega (arith, small))) ∙ values_more xs j (search rules) small)
