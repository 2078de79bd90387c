-- The refusal of a decoded sheet, found by its number.
use mathlib.Core.Path.{◌≡◌, sym, ap, ◌∙◌}
use mathlib.Core.List.{List}
use Prim.Native.Nat.{ℕ}
use Rattle.std.specs.declared.option.Option.{Option}
use Rattle.refusals.specs.Numbers.{number_in, refusal_at}
use Rattle.refusals.specs.declared.Refusal.{Refusal}
use Rattle.refusals.proofs.Laws.{refusal_back}
use Rattle.sheet.specs.Questions.{check_of}
use Rattle.sheet.specs.Decoded.{read_of}
use Rattle.sheet.specs.declared.Sheet.{Sheet}
use Rattle.nodes.proofs.CheckNumberLaws.{check_small}
use Rattle.nodes.proofs.DecodedLaws.{read_refusal}

-- what is found of it is the refusal of the check, or none where there is none
pub refusal_read : (bytes : List ℕ) {read : Sheet} {o r : Option Refusal} → read ≡ read_of bytes → o ≡ refusal_at read.refusal → o ≡ r → check_of bytes ≡ number_in r
refusal_read bytes e f g =
    let n = ap (λ (x : Sheet). x.refusal) e ∙ read_refusal bytes in
    sym (refusal_back (check_of bytes) (check_small bytes)) ∙ ap (λ (k : ℕ). number_in (refusal_at k)) (sym n) ∙ ap number_in (sym f ∙ g)
