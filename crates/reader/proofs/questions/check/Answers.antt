-- The header's questions, then the records'.
use mathlib.Core.Path.{sym, ap, ◌∙◌}
use mathlib.Core.Bool.{◌&&◌}
use Prim.Native.Nat.{ℕ}
use Rattle.sheet.specs.Fields.{is_within}
use Rattle.sheet.specs.Records.{edition_of}
use Rattle.sheet.specs.Questions.{records_refusal}
use Rattle.sheet.proofs.CodeLaws.{bad_length, bad_edition, bad_counts, header_good}
use Rattle.reader.proofs.questions.check.Goals as goal

pub returns-then-not-is_within : goal.returns-then-not-is_within
returns-then-not-is_within c = bad_length c.args.sheet.now (sym c.is_within.ensures ∙ c.if-not-is_within.true)

pub returns-then-not-is_within-2 : goal.returns-then-not-is_within-2
returns-then-not-is_within-2 c =
    bad_edition c.args.sheet.now (sym c.is_within.ensures ∙ c.if-not-is_within.false)
    (ap (λ (v : ℕ). is_within v 1 2) (sym c.from.ensures) ∙ sym c.is_within-2.ensures ∙ c.if-not-is_within-2.true)

pub returns-then-not-counts_in_range : goal.returns-then-not-counts_in_range
returns-then-not-counts_in_range c =
    let s = c.args.sheet.now in
    bad_counts s (sym c.is_within.ensures ∙ c.if-not-is_within.false)
    (ap (λ (v : ℕ). is_within v 1 2) (sym c.from.ensures) ∙ sym c.is_within-2.ensures ∙ c.if-not-is_within-2.false)
    ((λ i. is_within (sym c.from-locations.ensures i) 1 12 && (is_within (sym c.from-clocks.ensures i) 1 (edition_of s).clocks && is_within (sym c.from-edges.ensures i) 0 32))
    ∙ sym c.counts_in_range.ensures ∙ c.if-not-counts_in_range.true)

pub returns : goal.returns
returns c =
    let s = c.args.sheet.now in
    c.check_records.ensures ∙ (λ i. records_refusal (c.from-clocks.ensures i) (c.from-locations.ensures i) (c.from-edges.ensures i) s)
    ∙ header_good s (sym c.is_within.ensures ∙ c.if-not-is_within.false)
    (ap (λ (v : ℕ). is_within v 1 2) (sym c.from.ensures) ∙ sym c.is_within-2.ensures ∙ c.if-not-is_within-2.false)
    ((λ i. is_within (sym c.from-locations.ensures i) 1 12 && (is_within (sym c.from-clocks.ensures i) 1 (edition_of s).clocks && is_within (sym c.from-edges.ensures i) 0 32))
    ∙ sym c.counts_in_range.ensures ∙ c.if-not-counts_in_range.false)
