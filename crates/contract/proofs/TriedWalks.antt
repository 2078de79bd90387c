-- All walks of at most n steps from a node, tried one by one.
use mathlib.Core.Path.{◌≡◌, sym, ap, ◌∙◌}
use mathlib.Core.Bool.{Bool, true, ◌&&◌}
use mathlib.Core.List.{List, [], ◌∷◌}
use mathlib.Core.Option.{Option, some}
use Prim.Native.Nat.{ℕ, zero, suc, ◌≤◌, ◌<◌}
use native.Mathlib.Nat.{le_of_suc-le-suc}
use native.Mathlib.Omega.{arith}
use lib.ListN.{length}
use Rattle.automaton.specs.Priced.{Priced, chain}
use Rattle.automaton.proofs.Tests.{&&-left, &&-right}
use Rattle.automaton.proofs.Chains.{then_split}
use Rattle.sheet.specs.Questions.{each}
use Rattle.sheet.proofs.QuestionLaws.{each_at}
use Rattle.contract.specs.Rules.{if_allowed}

module _ (step : ℕ → ℕ → Option (Priced ℕ)) where
  -- each walk of at most k steps from x passes the test, which is told its codes
  unfoldable pub tried : ℕ → (List ℕ → Bool) → ℕ → Bool
  tried zero t x = t []
  tried (suc k) t x = t [] && each 34 (λ code. if_allowed (λ v. tried k (λ l. t (code ∷ l)) v.to) (step x code))

  pub tried_walk : ((x code : ℕ) (v : Priced ℕ) → step x code ≡ some v → code < 34) → (k : ℕ) (t : List ℕ → Bool) (x : ℕ) → tried k t x ≡ true
      → (l : List ℕ) (v : Priced ℕ) → length l ≤ k → chain step x l ≡ some v → t l ≡ true
  unfolding tried chain
  tried_walk below zero t x h [] v b e = h
  tried_walk below zero t x h (code ∷ l) v b e = absurd (omega arith)
  tried_walk below (suc k) t x h [] v b e = &&-left (t []) _ h
  tried_walk below (suc k) t x h (code ∷ l) v b e =
      let w = then_split (step x code) (λ y. chain step y l) v e in
      let on : Priced ℕ → Bool = λ u. tried k (λ r. t (code ∷ r)) u.to in
      let passes = each_at 34 (λ c. if_allowed (λ u. tried k (λ r. t (c ∷ r)) u.to) (step x c)) (&&-right (t []) _ h) code (below x code w.first w.took) in
      tried_walk below k (λ r. t (code ∷ r)) w.first.to (sym (ap (if_allowed on) w.took) ∙ passes) l w.second (le_of_suc-le-suc b) w.went
