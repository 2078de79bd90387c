-- No clock has class 0, and the corner is the last.
use mathlib.Core.Path.{sym, ◌∙◌}
use mir.Syntax.{w16}
use mir.ValLaws.{to_z-of_z}
use Rattle.region.proofs.DelayLaws.{some_whole_lem, early, turned}
use Rattle.std.proofs.Common.{rules}
use Rattle.region.proofs.delays.unit_in.Goals as goal

pub returns-then-has_class : goal.returns-then-has_class
returns-then-has_class g c =
    let args = c.args in
    let few = c.few-k in
    let unpack = c.unpack in
    let occurs_in = c.has_class in
    let if1 = c.if-has_class in
    some_whole_lem g.row.EDITION args.clocks args.location args.number few.result unpack.result.node few.ensures unpack.ensures
    (sym occurs_in.ensures ∙ if1.true)

pub returns-then-node-largest : goal.returns-then-node-largest
returns-then-node-largest g c =
    let args = c.args in
    let few = c.few-k in
    let unpack = c.unpack in
    let if2 = c.if-node-largest in
    let largest_of = c.largest in
    early g.row.EDITION args.clocks args.location args.number few.result unpack.result.node few.ensures unpack.ensures
    (λ q. if2.true (q ∙ sym largest_of.ensures))

pub returns : goal.returns
returns g c =
    let args = c.args in
    let few = c.few-k in
    let unpack = c.unpack in
    let occurs_in = c.has_class in
    let if1 = c.if-has_class in
    let if2 = c.if-node-largest in
    let largest_of = c.largest in
    let pack = c.pack in
    turned g.row.EDITION args.clocks args.location args.number few.result unpack.result.node few.ensures unpack.ensures _
    (to_z-of_z w16 args.location.cost (search rules)) (sym occurs_in.ensures ∙ if1.false) (if2.false ∙ largest_of.ensures) pack.result
    pack.ensures
