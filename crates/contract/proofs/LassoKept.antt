-- A lasso as a plan may answer it keeps the rule of lassos.
use mathlib.Core.Path.{◌≡◌, refl, sym, ap, ◌∙◌, subst}
use mathlib.Core.Bool.{true}
use mathlib.Core.List.{List, [], ◌∷◌}
use mathlib.Core.Option.{Option}
use Prim.Native.Nat.{ℕ, ◌+◌, ◌<◌}
use native.Mathlib.Omega.{arith}
use borrow.Author.Tests.{lt-ltb, le-leb, eq-eqb}
use lib.Dec.{eqb}
use lib.IntN.{ℤ, pos, negsuc, ◌*ℤ◌}
use lib.ListN.{length, take}
use lib.Seq.{slice}
use lib.Signed.{le_z}
use Rattle.automaton.specs.Priced.{Priced}
use Rattle.automaton.specs.Walks.{Walk}
use Rattle.automaton.proofs.Tests.{&&-intro}
use Rattle.automaton.proofs.Chains.{some_inj, chain_nil}
use Rattle.contract.specs.Accepted.{Lasso}
use Rattle.contract.specs.Rules.{all_true, is_allowed, has_ratio, comes_back, is_lasso}

le_z_self : (a : ℤ) → le_z a a ≡ true
le_z_self (pos a) = le-leb a a (omega arith)
le_z_self (negsuc a) = le-leb a a (omega arith)

le_z_same : (a b : ℤ) → a ≡ b → le_z a b ≡ true
le_z_same a b e = subst (λ (z : ℤ). le_z a z ≡ true) e (le_z_self a)

ratio_kept : (p : ℤ) (q : ℕ) (c : ℤ) (r : ℕ) → 0 < r → pos q *ℤ c ≡ p *ℤ pos r → has_ratio p q c r ≡ true
unfolding all_true
ratio_kept p q c r h e = &&-intro (lt-ltb 0 r h)
    (&&-intro (le_z_same (pos q *ℤ c) (p *ℤ pos r) e) (&&-intro (le_z_same (p *ℤ pos r) (pos q *ℤ c) (sym e)) refl))

module _ (step : ℕ → ℕ → Option (Priced ℕ)) (start : ℕ) where
  -- a walk that earns has a step
  some_code : (x : ℕ) (l : List ℕ) (y : ℕ) (c : ℤ) (r : ℕ) → Walk step x l y c r → 0 < r → 0 < length l
  some_code x [] y c r w h = absurd (omega (arith, ap (λ (v : Priced ℕ). v.reward) (some_inj (sym (chain_nil step x) ∙ w.walks))))
  some_code x (code ∷ l) y c r w h = omega arith

  module _ (p : ℤ) (q s m : ℕ) (steps : List ℕ) (w : Lasso step start p q s m steps) where
    comes_back_lem : comes_back step start (has_ratio p q) (slice s (s + m) steps) w.node ≡ true
    unfolding all_true
    comes_back_lem = ap (is_allowed (λ v. all_true (eqb v.to w.node ∷ has_ratio p q v.cost v.reward ∷ []))) w.cycle.walks
        ∙ &&-intro (eq-eqb w.node w.node refl) (&&-intro (ratio_kept p q w.cost w.reward w.earns w.exact) refl)

    pub lasso_kept : is_lasso step start (has_ratio p q) (take s steps) (slice s (s + m) steps) ≡ true
    unfolding is_lasso all_true
    lasso_kept = let cycle : List ℕ = slice s (s + m) steps in
        &&-intro (lt-ltb 0 (length cycle) (some_code w.node cycle w.node w.cost w.reward w.cycle w.earns))
        (&&-intro (ap (is_allowed (λ u. comes_back step start (has_ratio p q) cycle u.to)) w.stem.walks ∙ comes_back_lem) refl)
