-- Laws of the step codes: which step a code means, and when a step is allowed.
use mathlib.Core.Path.{◌≡◌, refl, sym, ap, ◌∙◌}
use mathlib.Core.Bool.{Bool, true, false, cond, ◌&&◌, not}
use mathlib.Core.Option.{none, some}
use Prim.Native.Nat.{ℕ, ◌≤◌, ◌<◌}
use native.Mathlib.Omega.{arith}
use borrow.Author.Tests.{leb-true, le-leb, eqb-true, eq-eqb, ltb-true, lt-ltb, not-true}
use lib.Dec.{leb, ltb, eqb}
use Rattle.automaton.specs.Tests.{only}
use Rattle.automaton.specs.Automaton.{Automaton}
use Rattle.automaton.specs.Priced.{Priced, free}
use Rattle.automaton.specs.Nodes.{Node, inside, largest_class}
use Rattle.automaton.specs.Steps.{edge_to, edge_allowed, edge_step, some_whole, unit_to, unit_step, rise_to, carry_to, move_step, step}
use Rattle.automaton.proofs.Tests.{by_bool, clash, &&-left, &&-right, &&-intro, only_test, only_value, only_yes}

pub step_edge : (A : Automaton) (u : Node) (e : ℕ) → e ≤ 31 → step A u e ≡ edge_step A u e
unfolding step
step_edge A u e h = ap (λ (b : Bool). cond b (edge_step A u e) (cond (eqb e 32) (unit_step A u) (cond (eqb e 33) (move_step A u) none))) (le-leb e 31 h)

pub step_unit : (A : Automaton) (u : Node) → step A u 32 ≡ unit_step A u
unfolding step
step_unit A u = refl

pub step_move : (A : Automaton) (u : Node) → step A u 33 ≡ move_step A u
unfolding step
step_move A u = refl

-- what a step was
pub step-cases {ℓ} : {X : Type ℓ} (A : Automaton) (u : Node) (code : ℕ) (x : Priced Node) → step A u code ≡ some x
    → (code ≤ 31 → edge_step A u code ≡ some x → X) → (code ≡ 32 → unit_step A u ≡ some x → X) → (code ≡ 33 → move_step A u ≡ some x → X) → X
unfolding step
step-cases {X = X} A u code x e f g h = go (leb code 31) (eqb code 32) (eqb code 33) refl refl refl e
  where
    go : (a b c : Bool) → leb code 31 ≡ a → eqb code 32 ≡ b → eqb code 33 ≡ c
        → cond a (edge_step A u code) (cond b (unit_step A u) (cond c (move_step A u) none)) ≡ some x → X
    go true b c p q r e = f (leb-true code 31 p) e
    go false true c p q r e = g (eqb-true code 32 q) e
    go false false true p q r e = h (eqb-true code 33 r) e
    go false false false p q r e = absurd (let z : ◌≡◌ {A = ℕ} 0 1 = cc in omega arith)

-- ---- when a step is allowed, and where it leads

-- a move, by whether some clock has class 0
move_by : (A : Automaton) (u : Node) (b : Bool) → some_whole u ≡ b
    → move_step A u ≡ cond b (only (inside A (rise_to u)) (free (rise_to u)))
    (only (ltb u.corner (largest_class u) && inside A (carry_to u)) (free (carry_to u)))
unfolding move_step
move_by A u b e = ap (λ (b : Bool). cond b (only (inside A (rise_to u)) (free (rise_to u)))
    (only (ltb u.corner (largest_class u) && inside A (carry_to u)) (free (carry_to u)))) e

module _ (A : Automaton) (u v : Node) where
  pub rises : some_whole u ≡ true → rise_to u ≡ v → inside A v ≡ true → move_step A u ≡ some (free v)
  rises e q h = move_by A u true e ∙ only_yes (ap (inside A) q ∙ h) (ap free q)

  pub carries : some_whole u ≡ false → u.corner < largest_class u → carry_to u ≡ v → inside A v ≡ true → move_step A u ≡ some (free v)
  carries e l q h = move_by A u false e ∙ only_yes (&&-intro (lt-ltb u.corner (largest_class u) l) (ap (inside A) q ∙ h)) (ap free q)

  pub turns : some_whole u ≡ false → u.corner ≡ largest_class u → unit_to u ≡ v
      → unit_step A u ≡ some (record { to = v; cost = A.cost_rate u.location; reward = A.reward_rate u.location })
  unfolding unit_step
  turns e l q = only_yes (&&-intro (ap not e) (eq-eqb u.corner (largest_class u) l))
      (λ i. record { to = q i; cost = A.cost_rate u.location; reward = A.reward_rate u.location })

-- what a step that was taken needed, and what came of it
module _ (A : Automaton) (u : Node) (x : Priced Node) where
  pub edge_needs : (e : ℕ) → edge_step A u e ≡ some x
      → (edge_allowed A u e ≡ true) × (x ≡ record { to = edge_to A u e; cost = A.cost e; reward = A.reward e })
  unfolding edge_step
  edge_needs e h = let y : Priced Node = record { to = edge_to A u e; cost = A.cost e; reward = A.reward e } in
      (only_test (edge_allowed A u e) y h, sym (only_value (edge_allowed A u e) y h))

  pub unit_needs : unit_step A u ≡ some x → (some_whole u ≡ false) × (u.corner ≡ largest_class u)
      × (x ≡ record { to = unit_to u; cost = A.cost_rate u.location; reward = A.reward_rate u.location })
  unfolding unit_step
  unit_needs h = let low = not (some_whole u) in let last = eqb u.corner (largest_class u) in
      let y : Priced Node = record { to = unit_to u; cost = A.cost_rate u.location; reward = A.reward_rate u.location } in
      let t = only_test (low && last) y h in (
        not-true (some_whole u) (&&-left low last t),
        eqb-true u.corner (largest_class u) (&&-right low last t),
        sym (only_value (low && last) y h),
      )

  pub move-cases {ℓ} : {X : Type ℓ} → move_step A u ≡ some x
      → (some_whole u ≡ true → inside A (rise_to u) ≡ true → x ≡ free (rise_to u) → X)
      → (some_whole u ≡ false → u.corner < largest_class u → inside A (carry_to u) ≡ true → x ≡ free (carry_to u) → X) → X
  move-cases h f g = by_bool (some_whole u)
      (λ m. let k = sym (move_by A u true m) ∙ h in let t = inside A (rise_to u) in
      f m (only_test t (free (rise_to u)) k) (sym (only_value t (free (rise_to u)) k)))
      (λ m. let k = sym (move_by A u false m) ∙ h in let low = ltb u.corner (largest_class u) in
      let t = only_test (low && inside A (carry_to u)) (free (carry_to u)) k in
      g m (ltb-true u.corner (largest_class u) (&&-left low (inside A (carry_to u)) t)) (&&-right low (inside A (carry_to u)) t)
      (sym (only_value (low && inside A (carry_to u)) (free (carry_to u)) k)))

-- at most one of codes 32 and 33 is allowed at a node
pub unit_or_move : (A : Automaton) (u : Node) (x y : Priced Node) → step A u 32 ≡ some x → step A u 33 ≡ some y → ⊥
unit_or_move A u x y h k = let n = unit_needs A u x (sym (step_unit A u) ∙ h) in
    move-cases A u y (sym (step_move A u) ∙ k) (λ m i e. clash m n.0) (λ m l i e. omega (arith, n.1))
