-- By the number of bytes.
use native.Mathlib.Omega.{arith}
use Rattle.sheet.proofs.KeyLaws.{side_four, side_eight}
use Rattle.reader.proofs.keys.side.Goals as goal

pub returns-then-count-lt8 : goal.returns-then-count-lt8
returns-then-count-lt8 c =
    side_four c.args.count (omega arith)

pub returns-else-count-lt8 : goal.returns-else-count-lt8
returns-else-count-lt8 c =
    side_eight c.args.count (omega arith)
