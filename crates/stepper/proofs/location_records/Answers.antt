-- The records, and blank ones behind them.
use mathlib.Core.Path.{ap, ◌∙◌}
use mathlib.Core.List.{◌++◌}
use lib.ListN.{get_or, drop, replicate}
use Rattle.sheet.specs.Decoded.{blank_location}
use Rattle.sheet.specs.declared.Location.{Location}
use Rattle.sheet.proofs.BlankLaws.{blank_location_is}
use Rattle.std.proofs.Common.{rules}
use Rattle.stepper.proofs.CopyLaws.{blanks_behind}
use Rattle.stepper.proofs.location_records.Goals as goal

pub returns-clause-copied : goal.returns-clause-copied
returns-clause-copied c =
    λ l h. rw c.copy_from_slice.ensures.after
    (ap (λ (blank : Location). get_or (c.args.locations ++ drop 12 (replicate 256 blank)) l blank_location) (blank_location_is c.default-all.ensures)
    ∙ blanks_behind blank_location c.args.locations 12 256 (search rules) l h)
