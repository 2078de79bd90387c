-- Equal fractions in lowest terms are one fraction.
use mathlib.Core.Path.{◌≡◌, refl, sym, ap, ◌∙◌, subst}
use Prim.Native.Nat.{ℕ, zero, suc, ◌+◌, ◌*◌, ◌-◌, ◌≤◌, ◌<◌, ◌∣◌}
use native.Mathlib.Nat.{mul-zero, zero-mul, mul_comm, mul-sub, mul-suc, suc-mul, mul-le-mul_right, dvd-add, dvd_refl, dvd-zero}
use native.Mathlib.Decide.{dec_lt}
use native.Mathlib.Omega.{arith}
use lib.IntN.{ℤ, pos, negsuc, nat_abs, ◌*ℤ◌}
use Rattle.integers.specs.Lowest.{Lowest}
use Rattle.integers.proofs.Parts.{up, dn, ext, mul_parts}
use Rattle.integers.proofs.Products.{abs_mul}

abbrev Coprime : ℕ → ℕ → Type 0
Coprime a q = (d : ℕ) → d ∣ a → d ∣ q → d ≡ 1

less_left : (a q : ℕ) → q ≤ a → Coprime a q → Coprime (a - q) q
less_left a q h c d m n = c d (subst (λ (x : ℕ). d ∣ x) (omega arith) (dvd-add d m n)) n

less_right : (a q : ℕ) → a ≤ q → Coprime a q → Coprime a (q - a)
less_right a q h c d m n = c d m (subst (λ (x : ℕ). d ∣ x) (omega arith) (dvd-add d n m))

-- a fraction below 1 equals only fractions below 1
below_one : (a q a' q' : ℕ) → 0 < q → 0 < q' → a * q' ≡ a' * q → a < q → a' < q'
below_one a q a' q' hq hq' e h = elim (dec_lt a' q') [
  | yes l ↦ l
  | no n ↦ absurd (let k : q' ≤ a' = omega arith in omega (arith, mul-le-mul_right q' h, suc-mul a q', mul-le-mul_right q k, mul_comm q q'))
]

record Same (a q a' q' : ℕ) : Type 0 where
  upper : a ≡ a'
  lower : q ≡ q'

-- both are subtracted down alike, as Euclid does
reduced : (fuel a q a' q' : ℕ) → a + q ≤ fuel → 0 < q → 0 < q' → Coprime a q → Coprime a' q' → a * q' ≡ a' * q → Same a q a' q'
reduced zero a q a' q' f hq hq' c c' e = absurd (omega arith)
reduced (suc fuel) zero q a' q' f hq hq' c c' e =
    let z : a' ≡ 0 = none a' q hq (sym e ∙ zero-mul q') in
    let one : q ≡ 1 = c q (dvd-zero q) (dvd_refl q) in
    let one' : q' ≡ 1 = c' q' (subst (λ (x : ℕ). q' ∣ x) (sym z) (dvd-zero q')) (dvd_refl q') in
    record { upper = sym z; lower = one ∙ sym one' }
  where
    none : (a q : ℕ) → 0 < q → a * q ≡ 0 → a ≡ 0
    none zero q h e = refl
    none (suc a) q h e = absurd (omega (arith, suc-mul a q))
reduced (suc fuel) (suc a) q a' q' f hq hq' c c' e = elim (dec_lt (suc a) q) [
  | yes l ↦ (let l' : a' < q' = below_one (suc a) q a' q' hq hq' e l in
      let r : Same (suc a) (q - suc a) a' (q' - a') = reduced fuel (suc a) (q - suc a) a' (q' - a') (omega arith) (omega arith) (omega arith)
      (less_right (suc a) q (omega arith) c) (less_right a' q' (omega arith) c')
      (omega (arith, mul-sub (suc a) q' a', mul-sub a' q (suc a), mul_comm (suc a) a')) in
      record { upper = r.upper; lower = omega (arith, r.upper, r.lower) })
  | no n ↦ (let h : q ≤ suc a = omega arith in let h' : q' ≤ a' = other h in
      let r : Same (suc a - q) q (a' - q') q' = reduced fuel (suc a - q) q (a' - q') q' (omega arith) hq hq'
      (less_left (suc a) q h c) (less_left a' q' h' c')
      (omega (arith, mul_comm (suc a - q) q', mul-sub q' (suc a) q, mul_comm q' (suc a), mul_comm (a' - q') q, mul-sub q a' q', mul_comm q a', mul_comm q q')) in
      record { upper = omega (arith, r.upper, r.lower); lower = r.lower })
]
  where
    other : q ≤ suc a → q' ≤ a'
    other h = elim (dec_lt a' q') [
      | yes l ↦ absurd (omega (arith, below_one a' q' (suc a) q hq' hq (sym e) l))
      | no n ↦ omega arith
    ]

pub lowest_unique : (p : ℤ) (q : ℕ) (p' : ℤ) (q' : ℕ) → Lowest p q → Lowest p' q' → pos q' *ℤ p ≡ pos q *ℤ p' → (p ≡ p') × (q ≡ q')
lowest_unique p q p' q' l l' e = (ext p p' (signs p p' s.upper e), s.lower)
  where
    sized : (k : ℕ) (z : ℤ) → nat_abs (pos k *ℤ z) ≡ nat_abs z * k
    sized k z = abs_mul (pos k) z ∙ mul_comm k (nat_abs z)

    s : Same (nat_abs p) q (nat_abs p') q'
    s = reduced (nat_abs p + q) (nat_abs p) q (nat_abs p') q' (omega arith) l.positive l'.positive l.coprime l'.coprime
        (sym (sized q' p) ∙ ap nat_abs e ∙ sized q p')

    never : (k j a b : ℕ) → 0 < k → 0 < j → pos k *ℤ negsuc a ≡ pos j *ℤ pos b → ⊥
    never k j a b hk hj e = omega (
      arith,
      mul_parts (pos k) (negsuc a),
      mul_parts (pos j) (pos b),
      zero-mul b,
      zero-mul (suc a),
      mul-zero k,
      mul-zero j,
      mul-suc k a,
      ap up e,
      ap dn e,
    )

    signs : (p p' : ℤ) → nat_abs p ≡ nat_abs p' → pos q' *ℤ p ≡ pos q *ℤ p' → up p + dn p' ≡ up p' + dn p
    signs (pos a) (pos b) h e = omega arith
    signs (pos a) (negsuc b) h e = absurd (never q q' b a l.positive l'.positive (sym e))
    signs (negsuc a) (pos b) h e = absurd (never q' q a b l'.positive l.positive e)
    signs (negsuc a) (negsuc b) h e = omega arith
