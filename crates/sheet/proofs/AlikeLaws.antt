-- Bytes from two places on that are the same.
use mathlib.Core.Path.{◌≡◌, sym, ap₂, subst}
use mathlib.Core.Bool.{true, ◌&&◌}
use mathlib.Core.List.{List}
use Prim.Native.Nat.{ℕ, suc, ◌+◌, ◌-◌, ◌≤◌, ◌<◌}
use native.Mathlib.Nat.{add-zero, add_assoc, add-sub_of_le}
use native.Mathlib.Decide.{ℕ_discrete, dec_lt}
use native.Mathlib.Omega.{arith}
use borrow.Author.Tests.{eqb-true, eq-eqb}
use lib.Dec.{eqb}
use Rattle.sheet.specs.Bytes.{byte_at}
use Rattle.sheet.specs.Records.{record_length}
use Rattle.sheet.specs.Questions.{same_record}
use Rattle.sheet.specs.declared.fields.Kind.TheVariants.{EdgeRecord}
use Rattle.sheet.proofs.AcceptedLaws.{left, right}
use Rattle.sheet.proofs.QuestionLaws.{each_at, each_true}

-- the same n bytes stand from p on and from q on
abbrev pub Alike : List ℕ → ℕ → ℕ → ℕ → Type 0
Alike s p q n = (i : ℕ) → i < n → byte_at s (p + i) ≡ byte_at s (q + i)

module _ (s : List ℕ) (p q : ℕ) where
  pub part : (n a w : ℕ) → Alike s p q n → a + w ≤ n → Alike s (p + a) (q + a) w
  part n a w h l i k = simp add_assoc (h (a + i) (omega arith))

  pub join : (a w : ℕ) → Alike s p q a → Alike s (p + a) (q + a) w → Alike s p q (a + w)
  join a w f g i h = elim (dec_lt i a) [
    | yes l ↦ f i l
    | no l ↦ subst (λ (j : ℕ). byte_at s (p + j) ≡ byte_at s (q + j)) (add-sub_of_le (omega arith)) (simp add_assoc at (g (i - a) (omega arith)))
  ]

  pub one_more : (n : ℕ) → Alike s p q n → byte_at s (p + n) ≡ byte_at s (q + n) → Alike s p q (suc n)
  one_more n h e i l = elim (ℕ_discrete i n) [
    | yes d ↦ subst (λ (j : ℕ). byte_at s (p + j) ≡ byte_at s (q + j)) (sym d) e
    | no d ↦ h i (omega arith)
  ]

  pub one : byte_at s p ≡ byte_at s q → Alike s p q 1
  one e = one_more 0 (λ i l. absurd (omega arith)) (simp add-zero e)

  pub first : (n : ℕ) → Alike s p q (suc n) → byte_at s p ≡ byte_at s q
  first n h = simp add-zero at (h 0 (omega arith))

  -- ---- edge records

  pub lengths_alike : same_record s p q ≡ true → record_length EdgeRecord s p ≡ record_length EdgeRecord s q
  unfolding same_record
  lengths_alike h = eqb-true _ _ (left (eqb (record_length EdgeRecord s p) (record_length EdgeRecord s q)) _ h)

  pub all_alike : same_record s p q ≡ true → Alike s p q (record_length EdgeRecord s p)
  unfolding same_record
  all_alike h i l = eqb-true _ _ (each_at (record_length EdgeRecord s p) (λ i. eqb (byte_at s (p + i)) (byte_at s (q + i)))
      (right (eqb (record_length EdgeRecord s p) (record_length EdgeRecord s q)) _ h) i l)

  pub alike_all : record_length EdgeRecord s p ≡ record_length EdgeRecord s q → Alike s p q (record_length EdgeRecord s p) → same_record s p q ≡ true
  unfolding same_record
  alike_all e h = ap₂ ◌&&◌ (eq-eqb _ _ e) (each_true (record_length EdgeRecord s p) _ (λ i l. eq-eqb _ _ (h i l)))
