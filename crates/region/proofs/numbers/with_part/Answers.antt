-- A part above the bits that are there is a sum.
use Rattle.region.proofs.BitLaws.{part_above}
use Rattle.region.proofs.numbers.with_part.Goals as goal

pub returns : goal.returns
returns c =
    rw c.from.ensures (part_above c.args.x c.args.v c.args.width c.args.at c.requires.0 c.requires.1.0 c.requires.1.1)
