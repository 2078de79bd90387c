-- A test of the first entries of a list, and of their places one by one.
use mathlib.Core.Path.{◌≡◌, refl, sym, ap, ◌∙◌}
use mathlib.Core.Logic.{⊎_elim}
use mathlib.Core.Bool.{Bool, ◌&&◌}
use mathlib.Core.List.{List}
use Prim.Native.Nat.{ℕ, zero, suc, ◌≤◌}
use native.Mathlib.Numerals.{add-one}
use native.Mathlib.Omega.{arith}
use lib.ListN.{length, get_or, take}
use lib.Seq.{take_all}
use Rattle.std.specs.Prelude.{min}
use Rattle.std.specs.List.{list_all}
use Rattle.std.proofs.lemmas.Bool.{cases_lt}
use Rattle.std.proofs.lemmas.List.Folds.{list_all_more}
use Rattle.sheet.specs.Questions.{each}

pub each_first : {X : Type 0} (p : X → Bool) (xs : List X) (d : X) (n : ℕ) → n ≤ length xs → list_all p (take n xs) ≡ each n (λ i. p (get_or xs i d))
unfolding each
each_first p xs d zero h = refl
each_first {X} p xs d (suc n) h = ap (λ (k : ℕ). list_all p (take k xs)) (sym (add-one n)) ∙ list_all_more p xs n d (omega arith)
    ∙ ap (λ (b : Bool). b && p (get_or xs n d)) (each_first p xs d n (omega arith))

-- of a list of m
pub each_upto : {X : Type 0} (p : X → Bool) (xs : List X) (d : X) (n m : ℕ) → length xs ≡ m
    → list_all p (take n xs) ≡ each (min n m) (λ i. p (get_or xs i d))
each_upto {X} p xs d n m e = ⊎_elim
    (λ h. each_first p xs d n (omega (arith, e, h)) ∙ ap (λ (k : ℕ). each k (λ i. p (get_or xs i d))) (omega (arith, h)))
    (λ h. ap (list_all p) (take_all n xs (omega (arith, e, h)) ∙ sym (take_all m xs (omega (arith, e))))
    ∙ each_first p xs d m (omega (arith, e)) ∙ ap (λ (k : ℕ). each k (λ i. p (get_or xs i d))) (omega (arith, h)))
    (cases_lt n m)
