-- A potential that falls by at most a weight, alone and in sums.
use mathlib.Core.Path.{◌≡◌, refl, ap, ap₂, ◌∙◌, subst}
use Prim.Native.Nat.{ℕ, zero, suc, ◌<◌}
use native.Mathlib.Omega.{arith}
use lib.IntN.{ℤ, pos, ◌+ℤ◌, ◌*ℤ◌, zero-*ℤ, *ℤ-zero, +ℤ_idl, +ℤ_comm, +ℤ_assoc}
use lib.Signed.{◌≤ℤ◌}
use Rattle.integers.proofs.Parts.{up, dn, add_parts, le_of, le_parts}
use Rattle.integers.proofs.Products.{times_suc}

-- from a to b at the weight w: b is at most a + w
pub record Falls (a b w : ℤ) : Type 0 where
  pub at_most : b ≤ℤ (a +ℤ w)

pub falls_refl : (a : ℤ) → Falls a a (pos 0)
falls_refl a = record { at_most = le_of a (a +ℤ pos 0) (omega (arith, add_parts a (pos 0))) }

-- one after the other
pub falls_chain : {a b c v w : ℤ} → Falls a b v → Falls b c w → Falls a c (v +ℤ w)
falls_chain {a} {b} {c} {v} {w} h k = record {
  at_most = le_of c (a +ℤ (v +ℤ w)) (omega (
    arith,
    le_parts b (a +ℤ v) h.at_most,
    le_parts c (b +ℤ w) k.at_most,
    add_parts a v,
    add_parts b w,
    add_parts v w,
    add_parts a (v +ℤ w),
  ));
}

-- side by side
pub falls_plus : {a b c d v w : ℤ} → Falls a b v → Falls c d w → Falls (a +ℤ c) (b +ℤ d) (v +ℤ w)
falls_plus {a} {b} {c} {d} {v} {w} h k = record {
  at_most = le_of (b +ℤ d) ((a +ℤ c) +ℤ (v +ℤ w)) (omega (
    arith,
    le_parts b (a +ℤ v) h.at_most,
    le_parts d (c +ℤ w) k.at_most,
    add_parts a v,
    add_parts c w,
    add_parts a c,
    add_parts b d,
    add_parts v w,
    add_parts (a +ℤ c) (v +ℤ w),
  ));
}

-- back at the same value
pub falls_loop : {a w : ℤ} → Falls a a w → pos 0 ≤ℤ w
falls_loop {a} {w} h = le_of (pos 0) w (omega (arith, le_parts a (a +ℤ w) h.at_most, add_parts a w))

-- from 0 to no less than m
pub falls_least : {a b m w : ℤ} → Falls a b w → a ≡ pos 0 → m ≤ℤ b → m ≤ℤ w
falls_least {a} {b} {m} {w} h e k = le_of m w (omega (arith, le_parts b (a +ℤ w) h.at_most, le_parts m b k, add_parts a w, ap up e, ap dn e))

-- ---- sums

-- f 0 + .. + f (n - 1)
unfoldable pub sum : ℕ → (ℕ → ℤ) → ℤ
sum zero f = pos 0
sum (suc n) f = sum n f +ℤ f n

sum_first : (n : ℕ) (f : ℕ → ℤ) → sum (suc n) f ≡ f 0 +ℤ sum n (λ t. f (suc t))
unfolding sum
sum_first zero f = +ℤ_comm (pos 0) (f 0)
sum_first (suc n) f = ap (λ (x : ℤ). x +ℤ f (suc n)) (sum_first n f) ∙ +ℤ_assoc (f 0) (sum n (λ t. f (suc t))) (f (suc n))

-- each at the same weight
pub sum_falls : (n : ℕ) (f g : ℕ → ℤ) (w : ℤ) → ((t : ℕ) → t < n → Falls (f t) (g t) w) → Falls (sum n f) (sum n g) (pos n *ℤ w)
unfolding sum
sum_falls zero f g w h = rw (zero-*ℤ w) (falls_refl (pos 0))
sum_falls (suc n) f g w h = rw (times_suc n w) (falls_plus (sum_falls n f g w (λ t k. h t (omega arith))) (h n (omega arith)))

-- each to the next place at no weight, and the last to the first at the weight w
pub sum_turns : (n : ℕ) (f g : ℕ → ℤ) (w : ℤ) → ((t : ℕ) → t < n → Falls (f t) (g (suc t)) (pos 0)) → Falls (f n) (g 0) w
    → Falls (sum (suc n) f) (sum (suc n) g) w
unfolding sum
sum_turns n f g w h k = rw (sum_first n g, +ℤ_comm (g 0) (sum n (λ t. g (suc t))))
    (subst (Falls (sum n f +ℤ f n) (sum n (λ t. g (suc t)) +ℤ g 0)) (ap (λ (z : ℤ). z +ℤ w) (*ℤ-zero (pos n)) ∙ +ℤ_idl w)
    (falls_plus (sum_falls n f (λ t. g (suc t)) (pos 0) h) k))

pub sum_zero : (n : ℕ) (f : ℕ → ℤ) → ((t : ℕ) → f t ≡ pos 0) → sum n f ≡ pos 0
unfolding sum
sum_zero zero f h = refl
sum_zero (suc n) f h = ap₂ ◌+ℤ◌ (sum_zero n f h) (h n)

pub sum_least : (n : ℕ) (f : ℕ → ℤ) (m : ℤ) → ((t : ℕ) → t < n → m ≤ℤ f t) → (pos n *ℤ m) ≤ℤ sum n f
unfolding sum
sum_least zero f m h = rw (zero-*ℤ m) (le_of (pos 0) (pos 0) (omega arith))
sum_least (suc n) f m h = rw (times_suc n m) (le_of (pos n *ℤ m +ℤ m) (sum n f +ℤ f n) (omega (
  arith,
  le_parts (pos n *ℤ m) (sum n f) (sum_least n f m (λ t k. h t (omega arith))),
  le_parts m (f n) (h n (omega arith)),
  add_parts (pos n *ℤ m) m,
  add_parts (sum n f) (f n),
)))
