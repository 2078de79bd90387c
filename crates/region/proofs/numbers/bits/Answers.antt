-- A shift divides by a power of two, and a mask takes the remainder.
use Prim.Native.Nat.{◌/◌, ◌^◌}
use native.Mathlib.Omega.{arith}
use Rattle.region.proofs.BitLaws.{low_bits}
use Rattle.region.proofs.numbers.bits.Goals as goal

pub returns : goal.returns
returns c =
    low_bits (c.args.x / 2 ^ c.args.at) c.args.width (omega arith)
