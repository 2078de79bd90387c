-- Filling a list from the front.
use mathlib.Core.Path.{◌≡◌, refl, sym, ap, ap₂, ◌∙◌}
use mathlib.Core.List.{List}
use Prim.Native.Nat.{ℕ, zero, suc, ◌+◌, ◌≤◌, ◌<◌}
use native.Mathlib.Decide.{ℕ_discrete}
use native.Mathlib.Numerals.{add-one}
use native.Mathlib.Omega.{arith}
use lib.ListN.{length, get_or, set, length-set, length-replicate}
use lib.Seq.{ext_get_or, get_or-set_same, get_or-set_other}
use Rattle.sheet.specs.Decoded.{filled}

module _ {A : Type 0} (f : ℕ → A) (d : A) (n : ℕ) where
  pub filled_more : (i : ℕ) → set (filled f d n i) i (f i) ≡ filled f d n (i + 1)
  unfolding filled
  filled_more i = sym (ap (filled f d n) (add-one i))

  pub filled_length : (i : ℕ) → length (filled f d n i) ≡ n
  unfolding filled
  filled_length zero = length-replicate n d
  filled_length (suc i) = simp length-set (filled_length i)

  -- what stands at k, of the first i
  pub filled_at : (i k : ℕ) → i ≤ n → k < i → get_or (filled f d n i) k d ≡ f k
  unfolding filled
  filled_at zero k h l = absurd (omega arith)
  filled_at (suc i) k h l = elim (ℕ_discrete k i) [
    | yes e ↦ ap (λ (j : ℕ). get_or (set (filled f d n i) i (f i)) j d) e
        ∙ get_or-set_same (filled f d n i) i (f i) d (omega (arith, filled_length i)) ∙ ap f (sym e)
    | no e ↦ get_or-set_other (filled f d n i) i k (f i) d e ∙ filled_at i k (omega arith) (omega arith)
  ]

-- by functions that agree on what is set
pub filled_same : {A : Type 0} (f g : ℕ → A) (d : A) (n i : ℕ) → ((k : ℕ) → k < i → f k ≡ g k) → filled f d n i ≡ filled g d n i
unfolding filled
filled_same f g d n zero h = refl
filled_same {A} f g d n (suc i) h = ap₂ (λ (xs : List A) (v : A). set xs i v) (filled_same f g d n i (λ k l. h k (omega arith))) (h i (omega arith))

-- filled with the entries of a list, it is the list
pub filled_whole : {A : Type 0} (d : A) (n : ℕ) (xs : List A) → length xs ≡ n → filled (λ j. get_or xs j d) d n n ≡ xs
filled_whole d n xs h =
    let l = filled_length (λ j. get_or xs j d) d n n in
    ext_get_or d (filled (λ j. get_or xs j d) d n n) xs (l ∙ sym h) (λ j k. filled_at (λ j. get_or xs j d) d n n j (omega arith) (omega (arith, l)))
