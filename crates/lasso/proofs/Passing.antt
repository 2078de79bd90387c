-- A turn of the loop that lays the stem, over plain lists; and the least source of the first arcs of a cycle.
use mathlib.Core.Path.{◌≡◌, sym, ap, subst}
use mathlib.Core.List.{List}
use Prim.Native.Nat.{ℕ, zero, suc, ◌+◌, ◌-◌, ◌≤◌, ◌<◌}
use native.Mathlib.Decide.{ℕ_discrete}
use native.Mathlib.Omega.{arith}
use lib.ListN.{length, set}
use lib.Seq.{slice}
use Rattle.walks.specs.Walk.{at}
use Rattle.walks.specs.Lasso.{Tree, Stem}
use Rattle.walks.proofs.Trees.{stored_before, stem_more}
use Rattle.lasso.specs.Answer.{AlongTree}

-- what holds of each number below i, and of i
all_more : (P : ℕ → Type 0) (i : ℕ) → ((j : ℕ) → j < i → P j) → P i → (j : ℕ) → j < i + 1 → P j
all_more P i below here j h = elim (ℕ_discrete j i) [
  | yes e ↦ subst P (sym e) here
  | no q ↦ below j (omega arith)
]

-- the least source of one arc more: docs/PORT.md names this; no proof cites it
pub least_more : (F cycle : List ℕ) (i best x best' : ℕ) → ((j : ℕ) → j < i → best ≤ at F (at cycle j)) → x ≡ at F (at cycle i) → best' ≤ best → best' ≤ x
    → (j : ℕ) → j < i + 1 → best' ≤ at F (at cycle j)
least_more F cycle i best x best' p q l m = all_more (λ j. best' ≤ at F (at cycle j)) i (λ j h. omega (arith, p j h)) (omega (arith, q))

-- one arc more, in front of the stem
pub stem_on : (F tree path : List ℕ) (n x top h y : ℕ)
    → ((g : Tree F tree n) → Stem F g.T g.m x (slice top (length path) path) h × AlongTree g.T tree (slice top (length path) path)) → x < n → 0 < x
    → 1 ≤ top → top ≤ length path → y ≡ at F (at tree x) → (g : Tree F tree n)
    → Stem F g.T g.m y (slice (top - 1) (length (set path (top - 1) (at tree x))) (set path (top - 1) (at tree x))) h
    × AlongTree g.T tree (slice (top - 1) (length (set path (top - 1) (at tree x))) (set path (top - 1) (at tree x)))
stem_on F tree path n x zero h y k hn hx ht hl p g = absurd (omega arith)
stem_on F tree path n x (suc a) h y k hn hx ht hl p g =
    let s : suc a - 1 ≡ a = omega arith in
    rw (p, s) (stem_more F tree n x a h path g hn hx hl (k g).0, rw (stored_before path a (at tree x) hl) (ap (at tree) (g.ends x hn hx), (k g).1))
