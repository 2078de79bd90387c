-- Rising lists of the same numbers are the same.
use mathlib.Core.Path.{◌≡◌, sym, ap, ◌∙◌}
use mathlib.Core.List.{List}
use Prim.Native.Nat.{ℕ, zero, suc, ◌-◌, ◌≤◌, ◌<◌}
use native.Mathlib.Decide.{dec_lt}
use native.Mathlib.Omega.{arith}
use Rattle.automaton.proofs.Tests.{by_order}
use Rattle.walks.specs.Walk.{at}
use Rattle.contract.specs.Accepted.{Listed}

abbrev pub Rises : ℕ → List ℕ → Type 0
Rises n l = (i j : ℕ) → i < j → j < n → at l i < at l j

rises_one : (n : ℕ) (l : List ℕ) → Rises n l → (i j : ℕ) → i < n → j < n → at l i ≡ at l j → i ≡ j
rises_one n l up i j hi hj e = by_order i j (λ h. absurd (omega (arith, up i j h hj))) (λ q. q) (λ h. absurd (omega (arith, up j i h hi)))

-- the entries of k stand in l: each no earlier than in k
module _ (n : ℕ) (k : List ℕ) (m : ℕ) (l : List ℕ) (up : Rises n k) (up' : Rises m l) (into : (i : ℕ) → i < n → Listed l m (at k i)) where
  no_earlier : (i : ℕ) (h : i < n) → i ≤ (into i h).index
  no_earlier zero h = omega arith
  no_earlier (suc i) h =
      let a = into i (omega arith) in
      let b = into (suc i) h in
      elim (dec_lt a.index b.index) [
        | yes q ↦ omega (arith, no_earlier i (omega arith))
        | no q ↦ absurd (by_order b.index a.index
            (λ w. omega (arith, up' b.index a.index w a.below, up i (suc i) (omega arith) h, a.is, b.is))
            (λ w. omega (arith, ap (at l) w, up i (suc i) (omega arith) h, a.is, b.is)) (λ w. omega arith))
      ]

  pub no_more : n ≤ m
  no_more = elim (dec_lt 0 n) [
    | yes h ↦ omega (arith, no_earlier (n - 1) (omega arith), (into (n - 1) (omega arith)).below)
    | no h ↦ omega arith
  ]

module _ (n : ℕ) (k : List ℕ) (m : ℕ) (l : List ℕ) (up : Rises n k) (up' : Rises m l)
    (into : (i : ℕ) → i < n → Listed l m (at k i)) (back : (i : ℕ) → i < m → Listed k n (at l i)) where
  pub same_count : n ≡ m
  same_count = omega (arith, no_more n k m l up up' into, no_more m l n k up' up back)

  pub same_entry : (i : ℕ) → i < n → at k i ≡ at l i
  same_entry i h =
      let a = into i h in
      let b = back a.index a.below in
      let q : b.index ≡ i = rises_one n k up b.index i b.below h (b.is ∙ a.is) in
      let e : a.index ≡ i = omega (arith, no_earlier n k m l up up' into i h, no_earlier m l n k up' up back a.index a.below) in
      sym a.is ∙ ap (at l) e
