-- The location is one of the sheet's, and the rest by its record.
use mathlib.Core.Path.{ap, ◌∙◌, subst}
use Prim.Native.Nat.{ℕ, ◌≤◌, ◌<◌}
use Rattle.nodes.specs.Decoded.{location_in}
use Rattle.step.proofs.SheetLaws.{no_location, by_location}
use Rattle.step.proofs.is_number_of.Goals as goal

pub returns-then-sheet-l : goal.returns-then-sheet-l
returns-then-sheet-l c =
    let args = c.args in
    let location_in = c.location_in-l in
    no_location args.sheet args.number (subst (λ (l : ℕ). args.sheet.locations ≤ l) location_in.ensures c.if-sheet-l.true)

pub returns : goal.returns
returns c =
    let args = c.args in
    let if1 = c.if-sheet-l in
    let record_of = c.location_record-location in
    c.is_number.ensures ∙ by_location args.sheet args.number (subst (λ (l : ℕ). l < args.sheet.locations) c.location_in-l.ensures if1.false)
    record_of.result (record_of.ensures ∙ ap (location_in args.sheet) (c.from.ensures ∙ c.location_in-l.ensures))
