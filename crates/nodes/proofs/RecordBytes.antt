-- The bytes of a record and the fields that are read of them: each tells the other.
use mathlib.Core.Path.{◌≡◌, sym, ap, ap₂, subst, ◌∙◌}
use mathlib.Core.Bool.{cond}
use mathlib.Core.List.{List}
use mathlib.Core.Option.{Option, none, some}
use Prim.Native.Nat.{ℕ, zero, suc, ◌+◌, ◌*◌, ◌/◌, ◌%◌, ◌^◌, ◌≤◌, ◌<◌}
use native.Mathlib.Nat.{zero-mul, one-mul, mod-lt, mod-one, mod-eq_of_lt, pow-succ'}
use native.Mathlib.Decide.{ℕ_discrete}
use native.Mathlib.Omega.{arith}
use borrow.Author.Tests.{eq-eqb, ne_eqb}
use lib.Arith.{mod-mul}
use lib.Dec.{lit<}
use lib.Pow.{pow_pos}
use Rattle.sheet.specs.Bytes.{word_at}
use Rattle.sheet.specs.Maps.{bit_of, stands, width_of, place_of}
use Rattle.sheet.specs.Records.{value_at}
use Rattle.sheet.proofs.RecordLaws.{value_byte}
use Rattle.nodes.specs.SameEdges.{OfBytes}
use Rattle.sheet.proofs.AlikeLaws.{Alike, part, join, one_more, one, first}

-- the field of bit b that would stand at p, in a record with the map m
abbrev field_here : List ℕ → ℕ → ℕ → ℕ → Option ℕ
field_here s p m b = cond (stands m b) (some (value_at s p b)) none

-- and where the fields begin at p
abbrev pub field_from : List ℕ → ℕ → ℕ → ℕ → Option ℕ
field_from s p m b = field_here s (p + place_of m b) m b

by_bit : {X : Type 0} (m b : ℕ) → (bit_of m b ≡ 0 → X) → (bit_of m b ≡ 1 → X) → X
by_bit m b f g = elim (ℕ_discrete (bit_of m b) 0) [
  | yes e ↦ f e
  | no e ↦ g (omega (arith, mod-lt (m / 2 ^ b) {m = 2} (lit< tt)))
]

no_bytes : (m b : ℕ) → bit_of m b ≡ 0 → bit_of m b * width_of b ≡ 0
no_bytes m b e = ap (λ (t : ℕ). t * width_of b) e ∙ zero-mul (width_of b)

all_bytes : (m b : ℕ) → bit_of m b ≡ 1 → bit_of m b * width_of b ≡ width_of b
all_bytes m b e = ap (λ (t : ℕ). t * width_of b) e ∙ one-mul (width_of b)

-- ---- a word, and the value of bit b's field

module _ (s : List ℕ) (p q : ℕ) where
  pub alike_word : Alike s p q 2 → word_at s p ≡ word_at s q
  alike_word h = omega (arith, first s p q 1 h, h 1 (omega arith))

  pub word_alike : OfBytes s → word_at s p ≡ word_at s q → Alike s p q 2
  word_alike ok e = one_more s p q 1 (one s p q (omega (arith, ok p, ok q))) (omega (arith, ok p, ok q))

  alike_value : (b : ℕ) → Alike s p q (width_of b) → value_at s p b ≡ value_at s q b
  unfolding value_at
  alike_value zero h = alike_word h
  alike_value (suc zero) h = alike_word h
  alike_value (suc (suc b)) h = value_byte s p (suc (suc b)) (omega arith) ∙ first s p q 0 h ∙ sym (value_byte s q (suc (suc b)) (omega arith))

  value_alike : OfBytes s → (b : ℕ) → value_at s p b ≡ value_at s q b → Alike s p q (width_of b)
  unfolding value_at
  value_alike ok zero e = word_alike ok e
  value_alike ok (suc zero) e = word_alike ok e
  value_alike ok (suc (suc b)) e = one s p q (sym (value_byte s p (suc (suc b)) (omega arith)) ∙ e ∙ value_byte s q (suc (suc b)) (omega arith))

  -- ---- a field: it has bytes where its bit is set

  alike_field : (m b : ℕ) → Alike s p q (bit_of m b * width_of b) → field_here s p m b ≡ field_here s q m b
  alike_field m b h = by_bit m b
      (λ e. simp (eq-eqb _ _ e))
      (λ e. simp (ne_eqb (bit_of m b) 0 (λ z. omega arith)) (ap some (alike_value b (subst (Alike s p q) (all_bytes m b e) h))))

  field_alike : OfBytes s → (m b : ℕ) → field_here s p m b ≡ field_here s q m b → Alike s p q (bit_of m b * width_of b)
  field_alike ok m b h = by_bit m b
      (λ e i l. absurd (omega (arith, no_bytes m b e)))
      (λ e. let d : some (value_at s p b) ≡ some (value_at s q b) = simp (ne_eqb (bit_of m b) 0 (λ z. omega arith)) at h in
      subst (Alike s p q) (sym (all_bytes m b e)) (value_alike ok b (cc)))

-- ---- all fields below bit n

-- each of them ends where these end, or before
place_up : (m n b : ℕ) → b < n → place_of m (suc b) ≤ place_of m n
unfolding place_of
place_up m zero b h = absurd (omega arith)
place_up m (suc n) b h = elim (ℕ_discrete b n) [
  | yes e ↦ omega (arith, ap (λ (c : ℕ). place_of m (suc c)) e)
  | no e ↦ omega (arith, place_up m n b (omega arith))
]

module _ (s : List ℕ) (p q m : ℕ) where
  pub alike_fields : (n : ℕ) → Alike s p q (place_of m n) → (b : ℕ) → b < n → field_from s p m b ≡ field_from s q m b
  unfolding place_of
  alike_fields n h b l = alike_field s (p + place_of m b) (q + place_of m b) m b
      (part s p q (place_of m n) (place_of m b) (bit_of m b * width_of b) h (place_up m n b l))

  pub fields_alike : OfBytes s → (n : ℕ) → ((b : ℕ) → b < n → field_from s p m b ≡ field_from s q m b) → Alike s p q (place_of m n)
  unfolding place_of
  fields_alike ok zero h = λ i l. absurd (omega arith)
  fields_alike ok (suc n) h = join s p q (place_of m n) (bit_of m n * width_of n) (fields_alike ok n (λ b l. h b (omega arith)))
      (field_alike s (p + place_of m n) (q + place_of m n) ok m n (h n (omega arith)))

-- ---- maps

is_there : Option ℕ → ℕ
is_there none = 0
is_there (some v) = 1

there_bit : (s : List ℕ) (p m b : ℕ) → is_there (field_from s p m b) ≡ bit_of m b
unfolding is_there
there_bit s p m b = by_bit m b (λ e. simp (eq-eqb _ _ e) (sym e)) (λ e. simp (ne_eqb (bit_of m b) 0 (λ z. omega arith)) (sym e))

top_bit : (m n : ℕ) → m % 2 ^ suc n ≡ bit_of m n * 2 ^ n + m % 2 ^ n
top_bit m n = ap (λ (x : ℕ). m % x) (pow-succ' 2 n) ∙ mod-mul m {m = 2} {c = 2 ^ n} (lit< tt) (pow_pos n)

-- a number is told by its bits
bits_tell : (m k n : ℕ) → ((b : ℕ) → b < n → bit_of m b ≡ bit_of k b) → m % 2 ^ n ≡ k % 2 ^ n
bits_tell m k zero h = mod-one m ∙ sym (mod-one k)
bits_tell m k (suc n) h =
    top_bit m n ∙ ap₂ (λ (x y : ℕ). x * 2 ^ n + y) (h n (omega arith)) (bits_tell m k n (λ b l. h b (omega arith))) ∙ sym (top_bit k n)

-- and a map by its fields
pub map_told : (s : List ℕ) (p q m k n : ℕ) → m < 2 ^ n → k < 2 ^ n → ((b : ℕ) → b < n → field_from s p m b ≡ field_from s q k b) → m ≡ k
map_told s p q m k n f g h =
    sym (mod-eq_of_lt f) ∙ bits_tell m k n (λ b l. sym (there_bit s p m b) ∙ ap is_there (h b l) ∙ there_bit s q k b) ∙ mod-eq_of_lt g
