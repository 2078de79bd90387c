-- The larger of two, three times.
use native.Mathlib.Omega.{arith}
use Rattle.region.proofs.ArrayLaws.{largest_four}
use Rattle.std.proofs.Common.{rules}
use Rattle.region.proofs.Region.largest.Goals as goal

pub returns : goal.returns
returns c =
    omega (arith, largest_four c.args.self.class (search rules), c.max.ensures, c.max-2.ensures, c.max-3.ensures)
