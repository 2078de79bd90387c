-- The least ratio: what shows it, and that there is only one. For any steps by code.
use mathlib.Core.Path.{◌≡◌, ap, ◌∙◌, subst₂}
use mathlib.Core.Option.{Option}
use Prim.Native.Nat.{ℕ, ◌<◌}
use native.Mathlib.Omega.{arith}
use lib.IntN.{ℤ, pos, ◌*ℤ◌, *ℤ_comm}
use lib.Signed.{◌≤ℤ◌}
use Rattle.integers.specs.Lowest.{Lowest}
use Rattle.integers.proofs.Parts.{ext, le_parts}
use Rattle.integers.proofs.Products.{times_swap, times_mono, times_cancel}
use Rattle.integers.proofs.Unique.{lowest_unique}
use Rattle.automaton.specs.Priced.{Priced}
use Rattle.automaton.specs.Walks.{ReachableCycle}
use Rattle.automaton.specs.Weights.{Feasible}
use Rattle.automaton.specs.Ratios.{LeastRatio}
use Rattle.automaton.proofs.Potentials.{none_below}

module _ {S : Type 0} (step : S → ℕ → Option (Priced S)) (start : S) where
  -- a feasible potential and a cycle that attains the ratio
  pub least_ratio : (p : ℤ) (q : ℕ) (π : S → ℤ) → Feasible step start p q π → Lowest p q → (c : ℤ) (r : ℕ) → ReachableCycle step start c r → 0 < r
      → pos q *ℤ c ≡ p *ℤ pos r → LeastRatio step start p q
  least_ratio p q π ok low c r o earns e = record {
    lowest = low;
    cost = c;
    reward = r;
    cycle = o;
    earns = earns;
    exact = e;
    none_below = λ d t l k. none_below step start p q π ok d t k;
  }

  -- the cycle of one is not below the other
  not_above : (p p' : ℤ) (q q' : ℕ) → LeastRatio step start p q → LeastRatio step start p' q' → (pos q *ℤ p') ≤ℤ (pos q' *ℤ p)
  not_above p p' q q' a b = let c = a.cost in let r = a.reward in times_cancel r a.earns (pos q *ℤ p') (pos q' *ℤ p)
      (subst₂ ◌≤ℤ◌ (ap (λ (z : ℤ). pos q *ℤ z) (*ℤ_comm p' (pos r)) ∙ times_swap q r p')
      (times_swap q q' c ∙ ap (λ (z : ℤ). pos q' *ℤ z) (a.exact ∙ *ℤ_comm p (pos r)) ∙ times_swap q' r p)
      (times_mono q (b.none_below c r a.earns a.cycle)))

  pub ratio_unique : (p p' : ℤ) (q q' : ℕ) → LeastRatio step start p q → LeastRatio step start p' q' → (p ≡ p') × (q ≡ q')
  ratio_unique p p' q q' a b = lowest_unique p q p' q' a.lowest b.lowest (ext (pos q' *ℤ p) (pos q *ℤ p') (omega (
    arith,
    le_parts (pos q *ℤ p') (pos q' *ℤ p) (not_above p p' q q' a b),
    le_parts (pos q' *ℤ p) (pos q *ℤ p') (not_above p' p q' q b a),
  )))
