-- By the number of bytes.
use mathlib.Core.Path.{◌∙◌}
use native.Mathlib.Omega.{arith}
use Rattle.sheet.proofs.KeyLaws.{side_four, side_eight, four_at_lem, eight_at_lem}
use Rattle.std.proofs.Common.{rules}
use Rattle.reader.proofs.keys.side_at.Goals as goal

pub four-requires : goal.four-requires
four-requires c =
    omega (arith, side_four c.args.count (omega arith))

pub eight-requires : goal.eight-requires
eight-requires c =
    omega (arith, side_eight c.args.count (omega arith))

pub returns-then-count-lt8 : goal.returns-then-count-lt8
returns-then-count-lt8 c =
    let a = c.args in
    c.from.ensures ∙ c.four.ensures ∙ four_at_lem a.count a.s.now a.at (search rules)

pub returns-else-count-lt8 : goal.returns-else-count-lt8
returns-else-count-lt8 c =
    let a = c.args in
    c.eight.ensures ∙ eight_at_lem a.count a.s.now a.at (search rules)
