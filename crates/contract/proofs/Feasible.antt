-- What feasible potentials answer: question 13 with no, question 14 with yes. For any steps by code.
use mathlib.Core.Path.{sym, ap, ◌∙◌, subst}
use mathlib.Core.Option.{Option}
use Prim.Native.Nat.{ℕ, ◌<◌}
use native.Mathlib.Omega.{arith}
use lib.IntN.{ℤ, pos, ◌*ℤ◌, zero-*ℤ, *ℤ-zero}
use lib.Signed.{◌≤ℤ◌}
use Rattle.integers.proofs.Parts.{up, dn, le_parts, lt_parts}
use Rattle.integers.proofs.Products.{times_cancel}
use Rattle.automaton.specs.Priced.{Priced}
use Rattle.automaton.specs.Weights.{Feasible}
use Rattle.automaton.proofs.Potentials.{none_below}
use Rattle.contract.specs.Questions.{EarningCycle, IdleGain}

-- without reward, what is not below the ratio costs 0 or more
pub idle_cost : (p c : ℤ) (q : ℕ) → 0 < q → (p *ℤ pos 0) ≤ℤ (pos q *ℤ c) → pos 0 ≤ℤ c
idle_cost p c q some h = times_cancel q some (pos 0) c (subst (λ (z : ℤ). z ≤ℤ (pos q *ℤ c)) (*ℤ-zero p ∙ sym (*ℤ-zero (pos q))) h)

module _ (step : ℕ → ℕ → Option (Priced ℕ)) (start : ℕ) where
  -- at p = 1 and q = 0 a cycle weighs minus its reward
  pub none_earning : (π : ℕ → ℤ) → Feasible step start (pos 1) 0 π → ¬ EarningCycle step start
  none_earning π ok o = let c = o.cost in let r = o.reward in omega (
    arith,
    le_parts (pos 1 *ℤ pos r) (pos 0 *ℤ c) (none_below step start (pos 1) 0 π ok c r o.cycle),
    ap up (zero-*ℤ c),
    ap dn (zero-*ℤ c),
    o.earns,
  )

  -- with q above 0 a cycle without reward weighs q times its cost
  pub no_idle_gain : (p : ℤ) (q : ℕ) → 0 < q → (π : ℕ → ℤ) → Feasible step start p q π → ¬ IdleGain step start
  no_idle_gain p q some π ok o = let c = o.cost in
      omega (arith, le_parts (pos 0) c (idle_cost p c q some (none_below step start p q π ok c 0 o.cycle)), lt_parts c _ o.gains)
