-- Records that are the same bytes have the same first and the same last bytes.
use mathlib.Core.Path.{◌≡◌, refl, sym, ap, ◌∙◌}
use mathlib.Core.Bool.{Bool, true, false}
use mathlib.Core.List.{List}
use Prim.Native.Nat.{ℕ, ◌+◌, ◌-◌, ◌≤◌, ◌<◌}
use native.Mathlib.Nat.{add-zero}
use native.Mathlib.Decide.{dec_lt}
use native.Mathlib.Omega.{arith}
use borrow.Author.Tests.{lt-ltb, le-ltb}
use Rattle.sheet.specs.Records.{record_length}
use Rattle.sheet.specs.Questions.{same_record}
use Rattle.sheet.specs.Keys.{four_at, eight_at, side_of, side_at}
use Rattle.sheet.specs.declared.fields.Kind.TheVariants.{EdgeRecord}
use Rattle.sheet.proofs.RecordLaws.{four_there}
use Rattle.sheet.proofs.AlikeLaws.{Alike, part, first, lengths_alike, all_alike}

-- ---- by the number of bytes

module _ (n : ℕ) where
  pub side_four : n < 8 → 4 ≡ side_of n
  unfolding side_of
  side_four h = simp (lt-ltb n 8 h)

  pub side_eight : 8 ≤ n → 8 ≡ side_of n
  unfolding side_of
  side_eight h = simp (le-ltb n 8 h)

  pub four_at_lem : (s : List ℕ) (at : ℕ) → n < 8 → four_at s at ≡ side_at s at n
  unfolding side_at
  four_at_lem s at h = simp (lt-ltb n 8 h)

  pub eight_at_lem : (s : List ℕ) (at : ℕ) → 8 ≤ n → eight_at s at ≡ side_at s at n
  unfolding side_at
  eight_at_lem s at h = simp (le-ltb n 8 h)

  by_size : {X : Type 0} → (n < 8 → X) → (8 ≤ n → X) → X
  by_size f g = elim (dec_lt n 8) [
    | yes l ↦ f l
    | no l ↦ g (omega arith)
  ]

  pub side_le : 4 ≤ n → side_of n ≤ n
  side_le h = by_size (λ l. omega (arith, side_four l)) (λ l. omega (arith, side_eight l))

-- ---- bytes that are the same

module _ (s : List ℕ) (p q : ℕ) where
  same_four : Alike s p q 4 → four_at s p ≡ four_at s q
  same_four h = omega (arith, first s p q 3 h, h 1 (omega arith), h 2 (omega arith), h 3 (omega arith))

same_eight : (s : List ℕ) (p q : ℕ) → Alike s p q 8 → eight_at s p ≡ eight_at s q
same_eight s p q h =
    omega (arith, same_four s p q (λ i l. h i (omega arith)), same_four s (p + 4) (q + 4) (part s p q 8 4 4 h (omega arith)))

same_side : (s : List ℕ) (p q n : ℕ) → Alike s p q (side_of n) → side_at s p n ≡ side_at s q n
same_side s p q n h = by_size n
    (λ l. sym (four_at_lem n s p l) ∙ same_four s p q (λ i k. h i (omega (arith, side_four n l))) ∙ four_at_lem n s q l)
    (λ l. sym (eight_at_lem n s p l) ∙ same_eight s p q (λ i k. h i (omega (arith, side_eight n l))) ∙ eight_at_lem n s q l)

-- ---- so records that differ there are not the same

module _ (s : List ℕ) (x y : ℕ) where
  abbrev size : ℕ → ℕ
  size at = record_length EdgeRecord s at

  not_same : (same_record s x y ≡ true → ⊥) → false ≡ same_record s x y
  not_same n = by (same_record s x y) refl
    where
      by : (t : Bool) → same_record s x y ≡ t → false ≡ t
      by true e = absurd (n e)
      by false e = refl

  -- a side begins so far behind the beginning
  same_at_lem : same_record s x y ≡ true → (a : ℕ) → a + side_of (size x) ≤ size x → side_at s (x + a) (size x) ≡ side_at s (y + a) (size x)
  same_at_lem e a h = same_side s (x + a) (y + a) (size x) (part s x y (size x) a (side_of (size x)) (all_alike s x y e) h)

  short : side_of (size x) ≤ size x
  short = side_le (size x) (four_there s x)

  pub fronts_differ : (side_at s x (size x) ≡ side_at s y (size y) → ⊥) → false ≡ same_record s x y
  fronts_differ n = not_same (λ e. n (simp add-zero at (same_at_lem e 0 (omega (arith, short))) ∙ ap (side_at s y) (lengths_alike s x y e)))

  pub backs_differ : (side_at s (x + (size x - side_of (size x))) (size x) ≡ side_at s (y + (size y - side_of (size y))) (size y) → ⊥) → false ≡ same_record s x y
  backs_differ n = not_same (λ e. n (same_at_lem e (size x - side_of (size x)) (omega (arith, short))
      ∙ ap (λ (m : ℕ). side_at s (y + (m - side_of m)) m) (lengths_alike s x y e)))
