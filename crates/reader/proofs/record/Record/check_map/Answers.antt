-- The bits passed are clear or permitted.
use mathlib.Core.Path.{◌∙◌, sym}
use native.Mathlib.Omega.{arith}
use Rattle.sheet.specs.Records.{map_of, edition_of}
use Rattle.sheet.specs.Questions.{bit_good}
use Rattle.sheet.proofs.QuestionLaws.{each_none, each_more, each_fails, each_all}
use Rattle.sheet.proofs.CodeLaws.{no_map, bad_bit, no_fields, map_good}
use Rattle.reader.proofs.record.Record.check_map.Goals as goal

pub loop-b-init : goal.loop-b-init
loop-b-init c = each_none _

pub loop-b-preserved : goal.loop-b-preserved
loop-b-preserved c =
    let r = c.args.self.now in
    each_more c.loop-b.b (bit_good (edition_of r.sheet.now) r.kind c.args.counts.clocks (map_of r.kind r.sheet.now r.at)) c.loop-b.invariant
    (sym c.bit_good.ensures ∙ c.if-not-bit_good.false)

pub returns-then-map : goal.returns-then-map
returns-then-map c =
    let r = c.args.self.now in
    no_map r.kind c.args.counts.clocks r.sheet.now r.at (omega arith)

pub returns-then-not-bit_good : goal.returns-then-not-bit_good
returns-then-not-bit_good c =
    let r = c.args.self.now in
    bad_bit r.kind c.args.counts.clocks r.sheet.now r.at (omega arith)
    (each_fails 16 (bit_good (edition_of r.sheet.now) r.kind c.args.counts.clocks (map_of r.kind r.sheet.now r.at)) c.loop-b.b (omega arith)
    (sym c.bit_good.ensures ∙ c.if-not-bit_good.true))

pub returns-then-self-end : goal.returns-then-self-end
returns-then-self-end c =
    let r = c.args.self.now in
    no_fields r.kind c.args.counts.clocks r.sheet.now r.at (omega arith)
    (each_all 16 (bit_good (edition_of r.sheet.now) r.kind c.args.counts.clocks (map_of r.kind r.sheet.now r.at)) c.loop-b.b (omega arith) (omega arith) c.loop-b.invariant)
    (omega arith)

pub returns-else-self-end : goal.returns-else-self-end
returns-else-self-end c =
    let r = c.args.self.now in
    map_good r.kind c.args.counts.clocks r.sheet.now r.at (omega arith)
    (each_all 16 (bit_good (edition_of r.sheet.now) r.kind c.args.counts.clocks (map_of r.kind r.sheet.now r.at)) c.loop-b.b (omega arith) (omega arith) c.loop-b.invariant)
    (omega arith)
