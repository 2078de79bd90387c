-- The turns of halving: as many as there are places are enough, and what one turn does.
use mathlib.Core.Path.{◌≡◌, refl, sym, ap, ◌∙◌}
use mathlib.Core.Bool.{Bool, true, false, cond}
use mathlib.Core.List.{List}
use Prim.Native.Nat.{ℕ, zero, suc, ◌+◌, ◌-◌, ◌*◌, ◌/◌, ◌≤◌, ◌<◌, min}
use native.Mathlib.Omega.{arith}
use native.Mathlib.Nat.{mul-one, mul-zero}
use native.Mathlib.Decide.{dec_lt}
use lib.Dec.{ltb}
use lib.ListN.{length}
use borrow.Author.Tests.{lt-ltb, le-ltb}
use mir.Val.{bool_byte}
use Rattle.walks.specs.Walk.{at}
use Rattle.rising.specs.Place.{if_below, skipped, halve, place_in}

-- ---- a number times a test
most : (b : Bool) (d : ℕ) → cond b d 0 ≤ d
most true d = omega arith
most false d = omega arith

module _ (v x d : ℕ) where
  pub times_test : d * bool_byte (ltb v x) ≡ if_below v x d
  times_test = by (ltb v x)
    where
      by : (b : Bool) → d * bool_byte b ≡ cond b d 0
      by true = mul-one d
      by false = mul-zero d

  pub if_most : if_below v x d ≤ d
  if_most = most (ltb v x) d

  pub if_yes : v < x → if_below v x d ≡ d
  if_yes h = ap (λ (b : Bool). cond b d 0) (lt-ltb v x h)

  pub if_no : x ≤ v → if_below v x d ≡ 0
  if_no h = ap (λ (b : Bool). cond b d 0) (le-ltb v x h)

pub skipped_most : (K : List ℕ) (x low size : ℕ) → skipped K x low size ≤ size / 2
skipped_most K x low size = if_most (at K (low + size / 2)) x (size / 2)

-- ---- the turns
module _ (K : List ℕ) (x : ℕ) where
  -- one more
  more : (t low size : ℕ) → 1 < size → halve (suc t) K x low size ≡ halve t K x (low + skipped K x low size) (size - size / 2)
  unfolding halve
  more t low size h = ap (λ (b : Bool). cond b (halve t K x (low + skipped K x low size) (size - size / 2))
      (low + if_below (at K low) x size)) (lt-ltb 1 size h)

  -- the last
  last : (t low size : ℕ) → size ≤ 1 → halve (suc t) K x low size ≡ low + if_below (at K low) x size
  unfolding halve
  last t low size h = ap (λ (b : Bool). cond b (halve t K x (low + skipped K x low size) (size - size / 2))
      (low + if_below (at K low) x size)) (le-ltb 1 size h)

  none : (low size : ℕ) → size ≡ 0 → low ≡ low + if_below (at K low) x size
  none low size e = omega (arith, if_most (at K low) x size)

  enough : (t u low size : ℕ) → size ≤ t → size ≤ u → halve t K x low size ≡ halve u K x low size
  unfolding halve
  enough zero zero low size h k = refl
  enough zero (suc u) low size h k = none low size (omega arith) ∙ sym (last u low size (omega arith))
  enough (suc t) zero low size h k = last t low size (omega arith) ∙ sym (none low size (omega arith))
  enough (suc t) (suc u) low size h k =
      let ih = enough t u (low + skipped K x low size) (size - size / 2) in
      elim (dec_lt 1 size) [
        | yes q ↦ more t low size q ∙ ih (omega arith) (omega arith) ∙ sym (more u low size q)
        | no q ↦ last t low size (omega arith) ∙ sym (last u low size (omega arith))
      ]

  -- with just as many turns as places
  pub turn : (low size : ℕ) → 1 < size
      → halve size K x low size ≡ halve (size - size / 2) K x (low + skipped K x low size) (size - size / 2)
  turn low zero h = absurd (omega arith)
  turn low (suc t) h = more t low (suc t) h
      ∙ enough t (suc t - suc t / 2) (low + skipped K x low (suc t)) (suc t - suc t / 2) (omega arith) (omega arith)

  pub ended : (low size : ℕ) → size ≤ 1 → halve size K x low size ≡ low + if_below (at K low) x size
  unfolding halve
  ended low zero h = none low 0 refl
  ended low (suc t) h = last t low (suc t) h

-- ---- the loop: what halving comes to from here is the place
pub record Halving (K : List ℕ) (n x low size : ℕ) : Type 0 where
  pub within : low + size ≤ length K
  pub comes : halve size K x low size ≡ place_in K n x

pub begun : (K : List ℕ) (n x size : ℕ) → size ≡ min n (length K) → Halving K n x 0 size
unfolding place_in
begun K n x size e = record { within = omega arith; comes = ap (λ (m : ℕ). halve m K x 0 m) e }

pub halved : (K : List ℕ) (n x low size r : ℕ) → 1 < size → r ≡ skipped K x low size → Halving K n x low size
    → Halving K n x (low + r) (size - size / 2)
halved K n x low size r h e g = record {
  within = omega (arith, g.within, skipped_most K x low size);
  comes = ap (λ (r : ℕ). halve (size - size / 2) K x (low + r) (size - size / 2)) e ∙ sym (turn K x low size h) ∙ g.comes;
}

pub at_most : (v x d r : ℕ) → r ≡ if_below v x d → r ≤ d
at_most v x d r e = omega (arith, if_most v x d)

-- no place is left, or one
pub none_left : (K : List ℕ) (n x low size : ℕ) → size ≡ 0 → Halving K n x low size → low ≡ place_in K n x
none_left K n x low size e g = none K x low size e ∙ sym (ended K x low size (omega arith)) ∙ g.comes

pub one_left : (K : List ℕ) (n x low size r : ℕ) → size ≡ 1 → r ≡ if_below (at K low) x 1 → Halving K n x low size → low + r ≡ place_in K n x
one_left K n x low size r e d g = ap (λ (r : ℕ). low + r) (d ∙ ap (if_below (at K low) x) (sym e)) ∙ sym (ended K x low size (omega arith)) ∙ g.comes
