-- Different numbers below b are at most b of them; and n of them below n are all.
use mathlib.Core.Path.{◌≡◌, sym, ◌∙◌}
use mathlib.Core.Bool.{cond}
use mathlib.Core.Logic.{◌≢◌, ◌⊎◌, inl, inr, ⊎_elim}
use Prim.Native.Nat.{ℕ, zero, suc, ◌≤◌, ◌<◌}
use native.Mathlib.Omega.{arith}
use native.Mathlib.Decide.{dec_lt, ℕ_discrete}
use lib.Dec.{eqb, ltb}
use borrow.Author.Tests.{eq-eqb, ne_eqb, lt-ltb, le-ltb}

-- f, but v where f is b
without : (ℕ → ℕ) → ℕ → ℕ → ℕ → ℕ
without f v b i = cond (eqb (f i) b) v (f i)

without_at : (f : ℕ → ℕ) (v b i : ℕ) → f i ≡ b → without f v b i ≡ v
unfolding without
without_at f v b i p = rw (eq-eqb (f i) b p)

without_other : (f : ℕ → ℕ) (v b i : ℕ) → f i ≢ b → without f v b i ≡ f i
unfolding without
without_other f v b i q = rw (ne_eqb (f i) b q)

pub pigeon : (a b : ℕ) (f : ℕ → ℕ) → ((i : ℕ) → i < a → f i < b) → ((i j : ℕ) → i < a → j < a → f i ≡ f j → i ≡ j) → a ≤ b
pigeon zero b f low one = omega arith
pigeon (suc a) zero f low one = absurd (omega (arith, low 0 (omega arith)))
pigeon (suc a) (suc b) f low one = let h : a ≤ b = pigeon a b (without f (f a) b) lower single in omega arith
  where
    lower : (i : ℕ) → i < a → without f (f a) b i < b
    lower i h = elim (ℕ_discrete (f i) b) [
      | yes p ↦ let q : f a ≢ b = λ e. (let z : i ≡ a = one i a (omega arith) (omega arith) (p ∙ sym e) in omega arith) in omega (arith, without_at f (f a) b i p, low a (omega arith))
      | no q ↦ omega (arith, without_other f (f a) b i q, low i (omega arith))
    ]

    single : (i j : ℕ) → i < a → j < a → without f (f a) b i ≡ without f (f a) b j → i ≡ j
    single i j hi hj e = elim (ℕ_discrete (f i) b) [
      | yes p ↦ elim (ℕ_discrete (f j) b) [
        | yes q ↦ one i j (omega arith) (omega arith) (p ∙ sym q)
        | no q ↦ absurd (let z : a ≡ j = one a j (omega arith) (omega arith) (sym (without_at f (f a) b i p) ∙ e ∙ without_other f (f a) b j q) in omega arith)
      ]
      | no p ↦ elim (ℕ_discrete (f j) b) [
        | yes q ↦ absurd (let z : i ≡ a = one i a (omega arith) (omega arith) (sym (without_other f (f a) b i p) ∙ e ∙ without_at f (f a) b j q) in omega arith)
        | no q ↦ one i j (omega arith) (omega arith) (sym (without_other f (f a) b i p) ∙ e ∙ without_other f (f a) b j q)
      ]
    ]

-- ---- f 0 to f (n - 1), and then a
module _ (f : ℕ → ℕ) (n a : ℕ) where
  pub also : ℕ → ℕ
  also i = cond (ltb i n) (f i) a

  pub also_before : (i : ℕ) → i < n → also i ≡ f i
  unfolding also
  also_before i h = rw (lt-ltb i n h)

  pub also_after : (i : ℕ) → n ≤ i → also i ≡ a
  unfolding also
  also_after i h = rw (le-ltb i n h)

  module _ (one : (i j : ℕ) → i < n → j < n → f i ≡ f j → i ≡ j) where
    pub also_one : ((i : ℕ) → i < n → f i ≢ a) → (i j : ℕ) → i ≤ n → j ≤ n → also i ≡ also j → i ≡ j
    also_one fresh i j hi hj e = elim (dec_lt i n) [
      | yes k ↦ elim (dec_lt j n) [
        | yes l ↦ one i j k l (sym (also_before i k) ∙ e ∙ also_before j l)
        | no l ↦ absurd (fresh i k (sym (also_before i k) ∙ e ∙ also_after j (omega arith)))
      ]
      | no k ↦ elim (dec_lt j n) [
        | yes l ↦ absurd (fresh j l (sym (also_before j l) ∙ sym e ∙ also_after i (omega arith)))
        | no l ↦ omega arith
      ]
    ]

    -- a is one of them, or none of the first k
    pub record Hit : Type 0 where
      pub place : ℕ
      pub below : place < n
      pub is : f place ≡ a

    seek : (k : ℕ) → k ≤ n → Hit ⊎ ((i : ℕ) → i < k → f i ≢ a)
    seek zero h = inr (λ i l. absurd (omega arith))
    seek (suc k) h = elim (ℕ_discrete (f k) a) [
      | yes e ↦ inl (record { place = k; below = omega arith; is = e })
      | no q ↦ ⊎_elim inl (λ r. inr (λ i l. elim (ℕ_discrete i k) [ yes e ↦ rw e q | no w ↦ r i (omega arith) ])) (seek k (omega arith))
    ]

    -- different numbers below n, n of them, are all the numbers below n
    pub onto : ((i : ℕ) → i < n → f i < n) → a < n → Hit
    onto low h = ⊎_elim (λ o. o) (λ fresh. absurd (omega (
      arith,
      pigeon (suc n) n also
          (λ i k. elim (dec_lt i n) [ yes l ↦ rw (also_before i l) (low i l) | no l ↦ rw (also_after i (omega arith)) h ])
          (λ i j hi hj. also_one fresh i j (omega arith) (omega arith)),
    ))) (seek n (omega arith))
