-- Halving finds the place of a number in a rising list.
use mathlib.Core.Path.{◌≡◌, sym, subst}
use mathlib.Core.List.{List}
use Prim.Native.Nat.{ℕ, zero, suc, ◌+◌, ◌-◌, ◌/◌, ◌≤◌, ◌<◌, min}
use native.Mathlib.Omega.{arith}
use native.Mathlib.Decide.{ℕ_discrete, dec_lt}
use lib.ListN.{length}
use Rattle.walks.specs.Walk.{at}
use Rattle.rising.specs.Place.{Rising, Place, if_below, skipped, halve, place_in}
use Rattle.rising.proofs.TurnLaws.{if_yes, if_no, turn, ended}

module _ (K : List ℕ) (n x : ℕ) (g : Rising K n) where
  -- all before low is below x, all from high on is not
  record Bracket (low high : ℕ) : Type 0 where
    order : low ≤ high
    within : high ≤ n
    below : (a : ℕ) → a < low → at K a < x
    above : (a : ℕ) → high ≤ a → a < n → x ≤ at K a

  up_to : (a b : ℕ) → a ≤ b → b < n → at K a ≤ at K b
  up_to a b h l = elim (ℕ_discrete a b) [ yes p ↦ rw p (omega arith) | no q ↦ omega (arith, g.rises a b (omega arith) l) ]

  -- the upper half or the lower one, which may be longer by one
  half_left : (low size : ℕ) → 1 < size → Bracket low (low + size)
      → Bracket (low + skipped K x low size) (low + skipped K x low size + (size - size / 2))
  half_left low size h b = elim (dec_lt (at K (low + size / 2)) x) [
    | yes u ↦
        let e : skipped K x low size ≡ size / 2 = if_yes (at K (low + size / 2)) x (size / 2) u in
        record {
          order = omega arith;
          within = omega (arith, b.within);
          below = λ a k. omega (arith, up_to a (low + size / 2) (omega arith) (omega (arith, b.within)));
          above = λ a k m. b.above a (omega arith) m;
        }
    | no u ↦
        let e : skipped K x low size ≡ 0 = if_no (at K (low + size / 2)) x (size / 2) (omega arith) in
        record {
          order = omega arith;
          within = omega (arith, b.within);
          below = λ a k. b.below a (omega arith);
          above = λ a k m. omega (arith, up_to (low + size / 2) a (omega arith) m);
        }
  ]

  last_left : (low size : ℕ) → size ≤ 1 → Bracket low (low + size) → Place K n x (low + if_below (at K low) x size)
  last_left low size h b = elim (dec_lt (at K low) x) [
    | yes u ↦
        let e : if_below (at K low) x size ≡ size = if_yes (at K low) x size u in
        record {
          within = omega (arith, b.within);
          below = λ a k. elim (dec_lt a low) [ yes v ↦ b.below a v | no v ↦ omega (arith, up_to a low (omega arith) (omega (arith, b.within))) ];
          above = λ a k m. b.above a (omega arith) m;
        }
    | no u ↦
        let e : if_below (at K low) x size ≡ 0 = if_no (at K low) x size (omega arith) in
        record {
          within = omega (arith, b.within);
          below = λ a k. b.below a (omega arith);
          above = λ a k m. omega (arith, up_to low a (omega arith) m);
        }
  ]

  narrowed : (turns low size : ℕ) → size ≤ turns → Bracket low (low + size) → Place K n x (halve size K x low size)
  narrowed zero low size h b = subst (Place K n x) (sym (ended K x low size (omega arith))) (last_left low size (omega arith) b)
  narrowed (suc turns) low size h b =
      let ih = narrowed turns (low + skipped K x low size) (size - size / 2) in
      elim (dec_lt 1 size) [
        | yes q ↦ subst (Place K n x) (sym (turn K x low size q)) (ih (omega arith) (half_left low size q b))
        | no q ↦ subst (Place K n x) (sym (ended K x low size (omega arith))) (last_left low size (omega arith) b)
      ]

  pub placed : n ≤ length K → Place K n x (place_in K n x)
  unfolding place_in
  placed h =
      let e : min n (length K) ≡ n = omega arith in
      subst (λ (m : ℕ). Place K n x (halve m K x 0 m)) (sym e) (narrowed n 0 n (omega arith) (record {
        order = omega arith;
        within = omega arith;
        below = λ a k. absurd (omega arith);
        above = λ a k l. absurd (omega arith);
      }))
