-- Pairs of edge records.
use mathlib.Core.Path.{◌≡◌, refl, sym, ap, ap₂, ◌∙◌}
use mathlib.Core.Bool.{Bool, true, false, not, ◌&&◌}
use mathlib.Core.List.{List}
use Prim.Native.Nat.{ℕ, ◌+◌, ◌*◌, ◌≤◌, ◌<◌}
use native.Mathlib.Decide.{ℕ_discrete}
use native.Mathlib.Nat.{add-zero}
use native.Mathlib.Omega.{arith}
use borrow.Author.Tests.{ne_eqb, eqb-true, eqb-false}
use lib.Dec.{eqb}
use lib.ListN.{get_or}
use Rattle.sheet.specs.Bytes.{byte_at, word_at}
use Rattle.sheet.specs.Maps.{place_of}
use Rattle.sheet.specs.Records.{record_length, record_at}
use Rattle.sheet.specs.Questions.{each, same_record, distinct_refusal}
use Rattle.sheet.specs.Decoded.{filled}
use Rattle.sheet.specs.Keys.{key_of, blank_key}
use Rattle.sheet.specs.declared.keys.Key.{Key}
use Rattle.sheet.specs.declared.fields.Kind.TheVariants.{EdgeRecord}
use Rattle.sheet.proofs.DecodeLaws.{filled_at}
use Rattle.sheet.proofs.RecordLaws.{four_there}
use Rattle.sheet.proofs.QuestionLaws.{each_fails, answer_no, answer_yes}

-- ---- two records

module _ (s : List ℕ) (x y : ℕ) where
  abbrev pub same_at : ℕ → Bool
  same_at i = eqb (byte_at s (x + i)) (byte_at s (y + i))

  -- the map, among the first of them, tells how many bytes there are
  length_by_map : word_at s x ≡ word_at s y → record_length EdgeRecord s x ≡ record_length EdgeRecord s y
  unfolding record_length
  length_by_map e = ap (λ (m : ℕ). 4 + place_of m 16) e

  other_length : (record_length EdgeRecord s x ≡ record_length EdgeRecord s y → ⊥) → each (record_length EdgeRecord s y) same_at ≡ false
  other_length n = elim (ℕ_discrete (byte_at s (x + 0)) (byte_at s (y + 0))) [
    | no f ↦ each_fails (record_length EdgeRecord s y) same_at 0 (omega (arith, four_there s y)) (ne_eqb _ _ f)
    | yes e ↦ elim (ℕ_discrete (byte_at s (x + 1)) (byte_at s (y + 1))) [
      | no f ↦ each_fails (record_length EdgeRecord s y) same_at 1 (omega (arith, four_there s y)) (ne_eqb _ _ f)
      | yes g ↦ absurd (n (length_by_map (ap₂ (λ (a b : ℕ). a + 256 * b) (rw (add-zero x, add-zero y) at e) g)))
    ]
  ]

  -- records of different lengths differ in the bytes of either
  same_by_bytes : each (record_length EdgeRecord s y) same_at ≡ same_record s x y
  unfolding same_record
  same_by_bytes = by (eqb (record_length EdgeRecord s x) (record_length EdgeRecord s y)) refl
    where
      by : (t : Bool) → eqb (record_length EdgeRecord s x) (record_length EdgeRecord s y) ≡ t
          → each (record_length EdgeRecord s y) same_at ≡ (t && each (record_length EdgeRecord s x) same_at)
      by true e = ap (λ (n : ℕ). each n same_at) (sym (eqb-true _ _ e))
      by false e = other_length (eqb-false _ _ e)

  -- n bytes were compared, as many as the second record has
  pub bytes_compared : (n : ℕ) (r : Bool) → n ≡ record_length EdgeRecord s y → r ≡ each n same_at → r ≡ same_record s x y
  bytes_compared n r e f = f ∙ ap (λ (m : ℕ). each m same_at) e ∙ same_by_bytes

-- ---- the records from a place on

module _ (s : List ℕ) (from : ℕ) where
  -- where record i begins
  abbrev pub begins : ℕ → ℕ
  begins i = record_at EdgeRecord s from i

  -- the keys of the first j, and blank ones behind them
  abbrev pub keys : ℕ → List Key
  keys j = filled (λ i. key_of s (begins i)) blank_key 32 j

  abbrev pub differs : ℕ → ℕ → Bool
  differs j i = not (same_record s (begins i) (begins j))

  -- record j differs from all before it
  abbrev pub is_new : ℕ → Bool
  is_new j = each j (differs j)

  -- one of those keys
  pub kept : (k : List Key) (i j : ℕ) → k ≡ keys j → i < j → j ≤ 32 → get_or k i blank_key ≡ key_of s (begins i)
  kept k i j h l m = ap (λ (k : List Key). get_or k i blank_key) h ∙ filled_at (λ i. key_of s (begins i)) blank_key 32 j i m l

  -- records i and j were compared
  pub compared : (i j : ℕ) (x y : Key) (r : Bool) → x ≡ key_of s (begins i) → y ≡ key_of s (begins j) → r ≡ same_record s x.at y.at → differs j i ≡ not r
  compared i j x y r ex ey er =
      ap₂ (λ (a b : Key). not (same_record s a.at b.at)) (sym ex) (sym ey) ∙ ap not (sym er)

-- ---- question 17

module _ (e : ℕ) (s : List ℕ) (from : ℕ) where
  pub twice : (i j : ℕ) → i < j → j < e → differs s from j i ≡ false → 17 ≡ distinct_refusal e s from
  unfolding distinct_refusal
  twice i j h k d = answer_no 17 e (is_new s from) j k (each_fails j (differs s from j) i h d)

  pub none_twice : (j : ℕ) → j ≤ e → e ≤ j → each j (is_new s from) ≡ true → 0 ≡ distinct_refusal e s from
  unfolding distinct_refusal
  none_twice j h k d = answer_yes 17 e (is_new s from) j h k d
