-- A byte holds in the interval of a value in nths if and only if it holds of the value.
use mathlib.Core.Path.{◌≡◌, refl, sym, ap, ◌∙◌}
use mathlib.Core.Bool.{Bool, true, false, cond, not}
use mathlib.Core.Option.{Option, none, some}
use Prim.Native.Nat.{ℕ, suc, ◌+◌, ◌*◌, ◌/◌, ◌%◌, ◌≤◌, ◌<◌}
use native.Mathlib.Nat.{mod-lt, div-add-mod', mul-le-mul_right}
use native.Mathlib.Omega.{arith}
use borrow.Author.Tests.{ltb-true, ltb-false, lt-ltb, le-ltb, leb-true, leb-false, le-leb, lt-leb, eqb-true, eqb-false, eq-eqb, ne_eqb}
use lib.Dec.{leb, ltb, eqb}
use Rattle.automaton.specs.Tests.{one_more_if}
use Rattle.automaton.specs.Bounds.{interval, upper_holds, lower_holds, upper_holds_nths, lower_holds_nths, if_present}
use Rattle.automaton.proofs.Tests.{by_bool, by_order, same_test, one_more_if_lem, one_at_most}

-- ---- the bytes in nths as one comparison

pub upper_nths : (n u v : ℕ) → upper_holds_nths n u v ≡ ltb v (u / 2 * n + u % 2)
upper_nths n u v = by_bool (eqb (u % 2) 0)
    (λ e. let z = eqb-true (u % 2) 0 e in rw e (ap (ltb v) (omega arith)))
    (λ e. let z : (u % 2 ≡ 0 → ⊥) = eqb-false (u % 2) 0 e in rw e (same_test (leb v (u / 2 * n)) (ltb v (u / 2 * n + u % 2))
    (λ t. lt-ltb v (u / 2 * n + u % 2) (omega (arith, leb-true v (u / 2 * n) t)))
    (λ t. le-leb v (u / 2 * n) (omega (arith, ltb-true v (u / 2 * n + u % 2) t)))))

-- a lower byte holds if and only if an upper byte of the same number does not
opposite : (n u v : ℕ) → lower_holds_nths n u v ≡ not (upper_holds_nths n u v)
opposite n u v = go (eqb (u % 2) 0)
  where
    c : ℕ
    c = u / 2 * n

    go : (b : Bool) → cond b (leb c v) (ltb c v) ≡ not (cond b (ltb v c) (leb v c))
    go true = by_bool (ltb v c) (λ e. lt-leb c v (ltb-true v c e) ∙ sym (ap not e)) (λ e. le-leb c v (ltb-false v c e) ∙ sym (ap not e))
    go false = by_bool (leb v c) (λ e. le-ltb c v (leb-true v c e) ∙ sym (ap not e)) (λ e. lt-ltb c v (leb-false v c e) ∙ sym (ap not e))

opposite_whole : (u i : ℕ) → lower_holds u i ≡ not (upper_holds u i)
opposite_whole u i = by_bool (ltb i u) (λ e. lt-leb u i (ltb-true i u e) ∙ sym (ap not e)) (λ e. le-leb u i (ltb-false i u e) ∙ sym (ap not e))

-- ---- the interval of a value

-- the last bit z of an interval's number is 0 where the fraction f is
there : (n h f u z : ℕ) → f < n → (f ≡ 0 → z ≡ 0) → (0 < f → z ≡ 1) → 2 * h + z < u → h * n + f < u / 2 * n + u % 2
there n h f u z l c d t = by_order h (u / 2)
    (λ k. omega (arith, mul-le-mul_right n k))
    (λ k. rw k (by_order 0 f (λ x. let y = d x in omega arith) (λ x. let y = c (sym x) in omega arith) (λ x. omega arith)))
    (λ k. omega arith)

back : (n h f u z : ℕ) → f < n → (f ≡ 0 → z ≡ 0) → (0 < f → z ≡ 1) → h * n + f < u / 2 * n + u % 2 → 2 * h + z < u
back n h f u z l c d t = by_order h (u / 2) (λ k. omega (arith, low)) (λ k. omega (arith, low, ap (λ (a : ℕ). a * n) k))
    (λ k. absurd (omega (arith, mul-le-mul_right n k)))
  where
    low : (z ≤ f) × (z ≤ 1)
    low = by_order 0 f (λ x. omega (arith, d x)) (λ x. omega (arith, c (sym x))) (λ x. absurd (omega arith))

-- the last bit
bit : (h k : ℕ) → interval h k ≡ 2 * h + one_more_if (not (eqb k 0)) 0
bit h k = one_more_if_lem (not (eqb k 0)) (2 * h)

-- the class k is 0 where the fraction is
module _ (n v k : ℕ) (p : 0 < n) (same : eqb k 0 ≡ eqb (v % n) 0) where
  last_bit : ℕ
  last_bit = one_more_if (not (eqb k 0)) 0

  bit_zero : v % n ≡ 0 → last_bit ≡ 0
  unfolding last_bit
  bit_zero x = ap (λ (b : Bool). one_more_if (not b) 0) (same ∙ eq-eqb (v % n) 0 x)

  bit_one : 0 < v % n → last_bit ≡ 1
  unfolding last_bit
  bit_one x = ap (λ (b : Bool). one_more_if (not b) 0) (same ∙ ne_eqb (v % n) 0 (λ y. omega arith))

  pub upper_agrees : (u : ℕ) → upper_holds u (interval (v / n) k) ≡ upper_holds_nths n u v
  unfolding last_bit
  upper_agrees u = same_test (ltb (interval (v / n) k) u) (ltb v (u / 2 * n + u % 2))
      (λ t. lt-ltb v (u / 2 * n + u % 2)
      (rw (div-add-mod' v n) at (there n (v / n) (v % n) u last_bit (mod-lt v p) bit_zero bit_one (rw (bit (v / n) k) at (ltb-true (interval (v / n) k) u t)))))
      (λ t. lt-ltb (interval (v / n) k) u
      (rw (bit (v / n) k) (back n (v / n) (v % n) u last_bit (mod-lt v p) bit_zero bit_one (rw (div-add-mod' v n) (ltb-true v (u / 2 * n + u % 2) t)))))
      ∙ sym (upper_nths n u v)

  pub lower_agrees : (u : ℕ) → lower_holds u (interval (v / n) k) ≡ lower_holds_nths n u v
  lower_agrees u = opposite_whole u (interval (v / n) k) ∙ ap not (upper_agrees u) ∙ sym (opposite n u v)

  pub present_agrees : (o : Option ℕ) → if_present upper_holds o (interval (v / n) k) ≡ if_present (upper_holds_nths n) o v
  present_agrees none = refl
  present_agrees (some u) = upper_agrees u

-- a value that may grow by an nth has its interval within the bound, and the next one too
pub next_within : (n x k u : ℕ) → 0 < n → upper_holds_nths n u (suc x) ≡ true → upper_holds u (interval (x / n) k) ≡ true
next_within n x k u p e = lt-ltb (interval (x / n) k) u (rw (bit (x / n) k) (by_order (x / n) (u / 2) (λ l. omega (arith, one_at_most (not (eqb k 0))))
    (λ l. absurd (omega (arith, h, div-add-mod' x n, ap (λ (a : ℕ). a * n) l))) (λ l. absurd (omega (arith, h, div-add-mod' x n, mul-le-mul_right n l)))))
  where
    h : suc x < u / 2 * n + u % 2
    h = ltb-true (suc x) (u / 2 * n + u % 2) (sym (upper_nths n u (suc x)) ∙ e)

-- a value that is kept may be smaller
pub less_within : (n x y u : ℕ) → x ≤ y → upper_holds_nths n u y ≡ true → upper_holds_nths n u x ≡ true
less_within n x y u l e = upper_nths n u x ∙ lt-ltb x (u / 2 * n + u % 2) (omega (arith, ltb-true y (u / 2 * n + u % 2) (sym (upper_nths n u y) ∙ e)))
