-- What the answers on a graph leave no choice in: a question is not answered yes and no, and a node has one potential.
use mathlib.Core.Path.{◌≡◌, sym, subst, ◌∙◌}
use mathlib.Core.Logic.{⊎_elim}
use mathlib.Core.List.{List}
use Prim.Native.Nat.{ℕ}
use native.Mathlib.Omega.{arith}
use lib.IntN.{ℤ}
use lib.Signed.{◌≤ℤ◌}
use Rattle.integers.proofs.Parts.{ext, le_parts, lt_parts}
use Rattle.walks.specs.Weight.{NegativeCycle, NoneNegative, LeastWeight, PotentialOrMark}
use Rattle.walks.specs.Cycles.{EarningArcs, NoneEarns, NoIdleGain, IdleGainArcs}

module _ {F T : List ℕ} {m : ℕ} where
  pub negative_apart : {weight : ℕ → ℤ} {c : List ℕ} → NegativeCycle F T m weight c → NoneNegative F T m weight → ⊥
  negative_apart {c = c} o none = omega (
    arith,
    lt_parts _ _ o.negative,
    le_parts _ _ (none o.hub c o.reached o.cycle),
  )

  -- question 13
  pub earning_apart : {reward : List ℕ} → EarningArcs F T m reward → NoneEarns F T m reward → ⊥
  earning_apart o none = omega (arith, o.earns, none o.cycle.hub o.arcs o.cycle.reached o.cycle.cycle)

  -- question 14
  pub gain_apart : {cost : List ℤ} {reward : List ℕ} → IdleGainArcs F T m cost reward → NoIdleGain F T m cost reward → ⊥
  gain_apart o none = omega (
    arith,
    lt_parts _ _ o.gains,
    le_parts _ _ (none o.cycle.hub o.arcs o.cycle.reached o.cycle.cycle o.no_reward),
  )

  module _ {weight : ℕ → ℤ} {v : ℕ} where
    -- the walk of one weighs no less than the other
    no_less : {y z : ℤ} → LeastWeight F T m weight v y → LeastWeight F T m weight v z → y ≤ℤ z
    no_less {y} s t = subst (λ (x : ℤ). y ≤ℤ x) t.weighs (s.least t.path t.walk)

    one_least : (y z : ℤ) → LeastWeight F T m weight v y → LeastWeight F T m weight v z → y ≡ z
    one_least y z s t = ext y z (omega (arith, le_parts y z (no_less s t), le_parts z y (no_less t s)))

    pub one_potential : (y z : ℤ) → PotentialOrMark F T m weight v y → PotentialOrMark F T m weight v z → y ≡ z
    one_potential y z p q = ⊎_elim
        (λ a. ⊎_elim (λ b. a.0 ∙ sym b.0) (λ b. absurd (a.1 (record { path = b.0.path; walk = b.0.walk }))) q)
        (λ a. ⊎_elim (λ b. absurd (b.1 (record { path = a.0.path; walk = a.0.walk }))) (λ b. one_least y z a.0 b.0) q)
        p
