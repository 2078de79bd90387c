-- By whether some clock has class 0.
use mathlib.Core.Path.{sym, ◌∙◌}
use Rattle.region.proofs.DelayLaws.{risen, carried, stays}
use Rattle.region.proofs.delays.move_in.Goals as goal

pub returns-then-has_class : goal.returns-then-has_class
returns-then-has_class g c =
    let args = c.args in
    let few = c.few-k in
    let unpack = c.unpack-from in
    let after_rise = c.after_rise in
    let occurs_in = c.has_class in
    let if1 = c.if-has_class in
    risen g.row.EDITION args.clocks args.location args.number few.result unpack.result.node few.ensures unpack.ensures
    after_rise.result after_rise.ensures (sym occurs_in.ensures ∙ if1.true) _ c.land.ensures

pub returns-then-from-g : goal.returns-then-from-g
returns-then-from-g g c =
    let args = c.args in
    let few = c.few-k in
    let unpack = c.unpack-from in
    let largest_of = c.largest-g in
    let after_carry = c.after_carry in
    let occurs_in = c.has_class in
    let if1 = c.if-has_class in
    let if2 = c.if-from-g in
    carried g.row.EDITION args.clocks args.location args.number few.result unpack.result.node few.ensures unpack.ensures
    largest_of.result largest_of.ensures after_carry.result after_carry.ensures (sym occurs_in.ensures ∙ if1.false) if2.true _ c.land-then-from-g.ensures

pub returns : goal.returns
returns g c =
    let args = c.args in
    let few = c.few-k in
    let unpack = c.unpack-from in
    let largest_of = c.largest-g in
    let occurs_in = c.has_class in
    let if1 = c.if-has_class in
    let if2 = c.if-from-g in
    stays g.row.EDITION args.clocks args.location args.number few.result unpack.result.node few.ensures unpack.ensures
    largest_of.result largest_of.ensures (sym occurs_in.ensures ∙ if1.false) if2.false
