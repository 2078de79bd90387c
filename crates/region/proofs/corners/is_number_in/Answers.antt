-- The parts of question 15, in turn.
use mathlib.Core.Path.{sym, ◌∙◌}
use Rattle.region.proofs.QuestionLaws.{other_number, no_corner, there}
use Rattle.region.proofs.corners.is_number_in.Goals as goal

pub returns-then-pack-number : goal.returns-then-pack-number
returns-then-pack-number g c =
    let args = c.args in
    let few = c.few-k in
    let unpack = c.unpack-unpacked in
    let pack = c.pack in
    other_number g.row.EDITION args.clocks args.location args.number few.result unpack.result.node few.ensures unpack.ensures
    (λ q. c.if-pack-number.true (pack.ensures ∙ q))

pub returns-then-not-is_cornered : goal.returns-then-not-is_cornered
returns-then-not-is_cornered g c =
    let args = c.args in
    let few = c.few-k in
    let unpack = c.unpack-unpacked in
    let is_cornered = c.is_cornered in
    no_corner g.row.EDITION args.clocks args.location args.number few.result unpack.result.node few.ensures unpack.ensures
    (sym is_cornered.ensures ∙ c.if-not-is_cornered.true)

pub returns : goal.returns
returns g c =
    let args = c.args in
    let few = c.few-k in
    let unpack = c.unpack-unpacked in
    let pack = c.pack in
    let if1 = c.if-pack-number in
    let is_cornered = c.is_cornered in
    let if2 = c.if-not-is_cornered in
    c.inside.ensures ∙ there g.row.EDITION args.clocks args.location args.number few.result unpack.result.node few.ensures unpack.ensures
    (sym pack.ensures ∙ if1.false) (sym is_cornered.ensures ∙ if2.false)
