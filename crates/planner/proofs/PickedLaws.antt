-- A loop that picks entries from a list, a store a turn, whatever they are. docs/PORT.md names these; no proof cites them.
use mathlib.Core.Path.{◌≡◌, refl, sym, ap, ◌∙◌}
use mathlib.Core.List.{List}
use Prim.Native.Nat.{ℕ, ◌+◌, ◌<◌}
use native.Mathlib.Omega.{arith}
use lib.ListN.{get_or, set, length-set}
use lib.Seq.{get_or-set_same, get_or-set_other}
use Rattle.automaton.proofs.Tests.{by_order}
use Rattle.walks.specs.Walk.{at}
use Rattle.planner.specs.PrivatePromises.{Picked, Pickable}

module _ {A : Type 0} (zero : A) (s : List A) (I : List ℕ) (l : List A) where
  pub picked_none : Picked zero s I 0 l l
  picked_none = record { sized = refl; is = λ i h. absurd (omega arith) }

  pub picked_more : (n i : ℕ) (l' : List A) (x : A) → Pickable s I n l → i < n → x ≡ get_or s (at I i) zero → Picked zero s I i l l'
      → Picked zero s I (i + 1) l (set l' i x)
  picked_more n i l' x p h v k = record {
    sized = length-set l' i x ∙ k.sized;
    is = λ j m. by_order j i
        (λ b. get_or-set_other l' i j x zero (λ e. omega arith) ∙ k.is j b)
        (λ e. ap (λ (y : ℕ). get_or (set l' i x) y zero) e ∙ get_or-set_same l' i x zero (omega (arith, p.room, k.sized)) ∙ v
        ∙ ap (λ (y : ℕ). get_or s (at I y) zero) (sym e))
        (λ b. absurd (omega arith));
  }
