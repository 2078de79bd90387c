-- The largest class is g, and of the values 1 to g as many occur.
use native.Mathlib.Omega.{arith}
use Rattle.region.proofs.ArrayLaws.{largest_below}
use Rattle.region.proofs.numbers.Unpacked.is_cornered.Goals as goal

pub rank-requires : goal.rank-requires
rank-requires c =
    omega (arith, c.largest-g.ensures, largest_below 8 c.args.self.node.region.class (omega arith) c.args.self.classes_low)
