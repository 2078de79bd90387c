-- Clock by clock.
use mathlib.Core.Path.{◌∙◌}
use Prim.Native.Nat.{◌+◌}
use Rattle.nodes.specs.Numbers.{layout_at, class_at, bits_of}
use Rattle.region.specs.Arrays.{if_clock}
use Rattle.region.proofs.ArrayLaws.{filled_four, clock_parts}
use Rattle.std.proofs.Common.{rules}
use Rattle.region.proofs.numbers.parts.Goals as goal

pub returns : goal.returns
returns g c =
    let a = c.args in
    let y = layout_at g.row.EDITION in
    filled_four (λ j. if_clock a.clocks j (bits_of a.x a.width (class_at y j + a.offset))) c.from_fn.result
    (search rules) (search rules) (search rules) (search rules) (search rules)
    ∙ clock_parts (λ j. bits_of a.x a.width (class_at y j + a.offset)) a.clocks 4
