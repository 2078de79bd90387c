-- Each in turn, and what follows the last.
use mathlib.Core.Path.{◌≡◌, sym, ap, ◌∙◌}
use mathlib.Core.List.{List}
use Prim.Native.Nat.{ℕ}
use native.Mathlib.Omega.{arith}
use Rattle.refusals.proofs.Laws.{handed_on}
use Rattle.sheet.specs.Records.{record_at, location_at}
use Rattle.sheet.specs.Questions.{first_of, record_refusal, distinct_refusal, rest_refusal, records_refusal}
use Rattle.sheet.specs.declared.fields.Kind.TheVariants.{LocationRecord, EdgeRecord}
use Rattle.sheet.proofs.RecordLaws.{at_le}
use Rattle.sheet.proofs.QuestionLaws.{stops, goes_on}
use Rattle.sheet.proofs.CodeLaws.{bytes_left, entered_twice, all_distinct}
use Rattle.reader.proofs.questions.check_records.Goals as goal

pub returns-in_err-from : goal.returns-in_err-from
unfolding records_refusal
returns-in_err-from c = handed_on _ _ c.from_residual.ensures.1 ∙ stops _ _ _ c.in_err-from.ensures.refused

pub check_each-requires-2 : goal.check_each-requires-2
check_each-requires-2 c =
    omega (arith, c.in_ok-from.ensures.passed, at_le LocationRecord c.args.sheet.now 4 c.args.counts.locations)

pub returns-in_err-end : goal.returns-in_err-end
unfolding records_refusal
returns-in_err-end c =
    let a = c.args in
    handed_on _ _ c.from_residual-in_err-end.ensures.1
    ∙ goes_on _ _ _ c.in_ok-from.ensures.refused (stops _ _ _ (c.in_err-end.ensures.refused
    ∙ ap (λ (p : ℕ). first_of a.counts.edges (λ i. record_refusal EdgeRecord a.counts.clocks a.counts.locations a.sheet.now (record_at EdgeRecord a.sheet.now p i))) c.in_ok-from.ensures.passed))

-- where the last record ends, all of them passed
rest : (k l e x from : ℕ) (s : List ℕ)
    → 0 ≡ first_of l (λ i. record_refusal LocationRecord k l s (record_at LocationRecord s 4 i)) → from ≡ location_at s l
    → 0 ≡ first_of e (λ i. record_refusal EdgeRecord k l s (record_at EdgeRecord s from i))
    → x ≡ rest_refusal k l e s → x ≡ records_refusal k l e s
unfolding records_refusal
rest k l e x from s p q r h =
    goes_on x _ _ p (goes_on x _ _ (r ∙ ap (λ (p : ℕ). first_of e (λ i. record_refusal EdgeRecord k l s (record_at EdgeRecord s p i))) q) h)

pub returns-then-end-sheet : goal.returns-then-end-sheet
returns-then-end-sheet c =
    let a = c.args in
    let f = c.in_ok-from.ensures in
    let e = c.in_ok-end.ensures in
    rest a.counts.clocks a.counts.locations a.counts.edges _ c.in_ok-from.from a.sheet.now f.refused f.passed e.refused
    (bytes_left a.counts.clocks a.counts.locations a.counts.edges a.sheet.now
    (λ z. c.if-end-sheet.true (e.passed ∙ ap (λ (p : ℕ). record_at EdgeRecord a.sheet.now p a.counts.edges) f.passed ∙ z)))

pub check_distinct-requires-clause-in_sheet : goal.check_distinct-requires-clause-in_sheet
check_distinct-requires-clause-in_sheet c =
    omega (arith, c.in_ok-from.ensures.passed, at_le LocationRecord c.args.sheet.now 4 c.args.counts.locations)

pub returns-in_err-check_distinct : goal.returns-in_err-check_distinct
returns-in_err-check_distinct c =
    let a = c.args in
    let f = c.in_ok-from.ensures in
    let e = c.in_ok-end.ensures in
    handed_on _ _ c.from_residual-in_err-check_distinct.ensures.1
    ∙ rest a.counts.clocks a.counts.locations a.counts.edges _ c.in_ok-from.from a.sheet.now f.refused f.passed e.refused
    (entered_twice a.counts.clocks a.counts.locations a.counts.edges a.sheet.now
    (sym (e.passed ∙ ap (λ (p : ℕ). record_at EdgeRecord a.sheet.now p a.counts.edges) f.passed) ∙ c.if-end-sheet.false) _
    (c.in_err-check_distinct.ensures ∙ ap (distinct_refusal a.counts.edges a.sheet.now) f.passed))

pub returns : goal.returns
returns c =
    let a = c.args in
    let f = c.in_ok-from.ensures in
    let e = c.in_ok-end.ensures in
    rest a.counts.clocks a.counts.locations a.counts.edges _ c.in_ok-from.from a.sheet.now f.refused f.passed e.refused
    (all_distinct a.counts.clocks a.counts.locations a.counts.edges a.sheet.now
    (sym (e.passed ∙ ap (λ (p : ℕ). record_at EdgeRecord a.sheet.now p a.counts.edges) f.passed) ∙ c.if-end-sheet.false) _
    (c.in_ok-check_distinct.ensures ∙ ap (distinct_refusal a.counts.edges a.sheet.now) f.passed) c.check_start.ensures)
