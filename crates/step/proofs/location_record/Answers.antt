-- The record, or a struct by default.
use mathlib.Core.Path.{◌≡◌, ap, ◌∙◌}
use lib.ListN.{get_or}
use Rattle.std.proofs.Common.{rules}
use Rattle.sheet.specs.declared.Location.{Location}
use Rattle.sheet.proofs.BlankLaws.{blank_location_is}
use Rattle.step.proofs.location_record.Goals as goal

pub returns : goal.returns
returns c =
    let e : c.unwrap_or.result ≡ get_or c.args.all c.args.l c.default.result = search rules in
    e ∙ ap (λ (d : Location). get_or c.args.all c.args.l d) (blank_location_is c.default.ensures)
