-- What the answer of `least_ratio` leaves no choice in: its number, the ratio, and each potential. Which cycle with the ratio is given is open.
use mathlib.Core.Path.{◌≡◌, refl, sym, ap, subst₂, ◌∙◌}
use mathlib.Core.List.{List}
use mathlib.Core.Option.{Option, none, some}
use Prim.Native.Nat.{ℕ, ◌*◌, ◌<◌}
use native.Mathlib.Nat.{mul_comm}
use native.Mathlib.Omega.{arith}
use lib.ListN.{length}
use lib.IntN.{ℤ, pos, neg_ℤ, ◌*ℤ◌, *ℤ_comm}
use lib.Signed.{◌≤ℤ◌}
use Rattle.integers.proofs.Parts.{up, dn, ext, le_of, le_parts, neg_up, neg_dn}
use Rattle.integers.proofs.Products.{up_times, dn_times, times_swap, times_mono, times_cancel}
use Rattle.integers.proofs.Unique.{lowest_unique}
use Rattle.walks.specs.Walk.{at, atℤ}
use Rattle.walks.specs.Weight.{weight_of, sum, total, NoneNegative, PotentialOrMark}
use Rattle.walks.specs.Cycles.{SimpleCycle}
use Rattle.walks.proofs.Weights.{weight_sum_0}
use Rattle.walks.proofs.Apart.{earning_apart, gain_apart, one_potential}
use Rattle.ratio.specs.Answer.{RatioFound, RatioQuestions, no_to_13, no_to_14, yes_to_both, RatioNumbered}
use Rattle.ratio.proofs.Heights.{combined}

module _ (F T : List ℕ) (cost : List ℤ) (reward : List ℕ) where
  -- ---- the number
  same_number : {i j : ℕ} → RatioQuestions F T cost reward i → RatioQuestions F T cost reward j → i ≡ j
  same_number (no_to_13 e a) (no_to_13 f b) = e ∙ sym f
  same_number (no_to_13 e a) (no_to_14 f b g) = absurd (earning_apart b a)
  same_number (no_to_13 e a) (yes_to_both f b g) = absurd (earning_apart b a)
  same_number (no_to_14 e a h) (no_to_13 f b) = absurd (earning_apart a b)
  same_number (no_to_14 e a h) (no_to_14 f b g) = e ∙ sym f
  same_number (no_to_14 e a h) (yes_to_both f b g) = absurd (gain_apart h g)
  same_number (yes_to_both e a h) (no_to_13 f b) = absurd (earning_apart a b)
  same_number (yes_to_both e a h) (no_to_14 f b g) = absurd (gain_apart g h)
  same_number (yes_to_both e a h) (yes_to_both f b g) = e ∙ sym f

  pub one_number : (n x y : ℕ) (a b : Option ℕ) → RatioNumbered F T cost reward n x y a → RatioNumbered F T cost reward n x y b → a ≡ b
  one_number n x y none none v w = refl
  one_number n x y none (some j) v w = absurd (v w.0)
  one_number n x y (some i) none v w = absurd (w v.0)
  one_number n x y (some i) (some j) v w = ap some (same_number v.1 w.1)

  -- ---- the ratio
  abbrev NoneBelow : ℤ → ℕ → Type 0
  NoneBelow p q = NoneNegative F T (length F) (weight_of (pos q) (neg_ℤ p) (pos 0) cost reward)

  -- where no cycle is below p / q, its reward times p is at most q times its cost
  at_least : (p : ℤ) (q : ℕ) → NoneBelow p q → (c : List ℕ) → SimpleCycle F T (length F) c
      → (pos (total (at reward) c) *ℤ p) ≤ℤ (pos q *ℤ sum (atℤ cost) c)
  at_least p q below c o =
      let C = sum (atℤ cost) c in
      let R = total (at reward) c in
      let z = sum (weight_of (pos q) (neg_ℤ p) (pos 0) cost reward) c in
      le_of (pos R *ℤ p) (pos q *ℤ C) (omega (
        arith,
        up_times R p,
        dn_times R p,
        up_times q C,
        dn_times q C,
        combined C (neg_ℤ p) R q z (weight_sum_0 (pos q) (neg_ℤ p) cost reward c),
        ap (λ (x : ℕ). x * R) (neg_up p),
        ap (λ (x : ℕ). x * R) (neg_dn p),
        mul_comm R (up p),
        mul_comm R (dn p),
        le_parts (pos 0) z (below o.hub c o.reached o.cycle),
      ))

  -- the cycle of one is not below the other
  not_above : (p p' : ℤ) (q q' : ℕ) (c : List ℕ) → SimpleCycle F T (length F) c → 0 < total (at reward) c
      → pos q *ℤ sum (atℤ cost) c ≡ p *ℤ pos (total (at reward) c) → NoneBelow p' q' → (pos q *ℤ p') ≤ℤ (pos q' *ℤ p)
  not_above p p' q q' c o earns exact below =
      let C = sum (atℤ cost) c in
      let R = total (at reward) c in
      times_cancel R earns (pos q *ℤ p') (pos q' *ℤ p)
      (subst₂ ◌≤ℤ◌ (times_swap q R p')
      (times_swap q q' C ∙ ap (λ (z : ℤ). pos q' *ℤ z) (exact ∙ *ℤ_comm p (pos R)) ∙ times_swap q' R p)
      (times_mono q (at_least p' q' below c o)))

  module _ {n : ℕ} {p p' : ℤ} {q q' k k' : ℕ} {x x' x'' : List ℤ} {y y' y'' : List ℕ}
      (a : RatioFound F T cost reward n p q k x x' y y') (b : RatioFound F T cost reward n p' q' k' x x'' y y'') where
    pub one_ratio : (p ≡ p') × (q ≡ q')
    one_ratio = lowest_unique p q p' q' a.ratio.lowest b.ratio.lowest (ext (pos q' *ℤ p) (pos q *ℤ p') (omega (
      arith,
      le_parts (pos q *ℤ p') (pos q' *ℤ p) (not_above p p' q q' _ a.attained a.earns a.ratio.exact b.none_below),
      le_parts (pos q' *ℤ p) (pos q *ℤ p') (not_above p' p q' q _ b.attained b.earns b.ratio.exact a.none_below),
    )))

    -- ---- the potentials at it
    pub one_potentials : (v : ℕ) → v < n → atℤ x' v ≡ atℤ x'' v
    one_potentials v h = one_potential (atℤ x' v) (atℤ x'' v) (a.potentials v h)
        (subst₂ (λ (s : ℤ) (t : ℕ). PotentialOrMark F T (length F) (weight_of (pos t) (neg_ℤ s) (pos 0) cost reward) v (atℤ x'' v))
        (sym one_ratio.0) (sym one_ratio.1) (b.potentials v h))
