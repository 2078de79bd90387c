-- The first refusal.
use mathlib.Core.Path.{◌∙◌}
use Rattle.refusals.proofs.Laws.{handed_on}
use Rattle.sheet.proofs.QuestionLaws.{stops, goes_on}
use Rattle.sheet.proofs.CodeLaws.{map_first, of_location, of_edge}
use Rattle.reader.proofs.record.Record.check.Goals as goal

pub returns-in_err-check_map : goal.returns-in_err-check_map
returns-in_err-check_map c =
    let r = c.args.self.now in
    handed_on _ _ c.from_residual.ensures.1 ∙ map_first r.kind c.args.counts.clocks c.args.counts.locations r.sheet.now r.at _ c.in_err-check_map.ensures

pub returns-in_err-check_bounds-in-LocationRecord : goal.returns-in_err-check_bounds-in-LocationRecord
returns-in_err-check_bounds-in-LocationRecord c =
    let r = c.args.self.now in
    handed_on _ _ c.from_residual-in_err-check_bounds-in-LocationRecord.ensures.1
    ∙ of_location r.kind c.args.counts.clocks c.args.counts.locations r.sheet.now r.at c.in_ok-check_map.ensures _ c.in-LocationRecord.is
    (stops _ _ _ c.in_err-check_bounds-in-LocationRecord.ensures)

pub returns-in_err-check_fields-in-EdgeRecord : goal.returns-in_err-check_fields-in-EdgeRecord
returns-in_err-check_fields-in-EdgeRecord c =
    let r = c.args.self.now in
    handed_on _ _ c.from_residual-in_err-check_fields-in-EdgeRecord.ensures.1
    ∙ of_edge r.kind c.args.counts.clocks c.args.counts.locations r.sheet.now r.at c.in_ok-check_map.ensures _ c.in-EdgeRecord.is
    (stops _ _ _ c.in_err-check_fields-in-EdgeRecord.ensures)

pub returns-in_ok-check_bounds-in-LocationRecord : goal.returns-in_ok-check_bounds-in-LocationRecord
returns-in_ok-check_bounds-in-LocationRecord c =
    let r = c.args.self.now in
    of_location r.kind c.args.counts.clocks c.args.counts.locations r.sheet.now r.at c.in_ok-check_map.ensures _ c.in-LocationRecord.is
    (goes_on _ _ _ c.in_ok-check_bounds-in-LocationRecord.ensures c.check_fields.ensures)

pub returns-in_ok-check_fields-in-EdgeRecord : goal.returns-in_ok-check_fields-in-EdgeRecord
returns-in_ok-check_fields-in-EdgeRecord c =
    let r = c.args.self.now in
    of_edge r.kind c.args.counts.clocks c.args.counts.locations r.sheet.now r.at c.in_ok-check_map.ensures _ c.in-EdgeRecord.is
    (goes_on _ _ _ c.in_ok-check_fields-in-EdgeRecord.ensures c.check_ends.ensures)
