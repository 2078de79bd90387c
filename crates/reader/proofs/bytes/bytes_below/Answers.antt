-- The law `counted` reads the two counts as a place.
use mathlib.Core.Path.{ap, ◌∙◌}
use Prim.Native.Nat.{ℕ, ◌+◌, ◌-◌}
use native.Mathlib.Omega.{arith}
use lib.Bits.{bit_and}
use lib.Count.{ones}
use Rattle.sheet.proofs.MapLaws.{one_shl, counted}
use Rattle.reader.proofs.bytes.bytes_below.Goals as goal

pub returns : goal.returns
returns c =
    c.bytes_under.ensures
    ∙ ap (λ (x : ℕ). ones (bit_and c.args.map (x - 1)) + ones (bit_and (bit_and c.args.map (x - 1)) 3)) (one_shl 32 c.args.b (omega arith))
    ∙ counted c.args.map c.args.b
