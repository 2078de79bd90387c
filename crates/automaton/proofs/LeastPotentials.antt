-- Least potentials: each is one, they are feasible, and that of the start is 0. For any steps by code.
use mathlib.Core.Path.{◌≡◌, ap, ◌∙◌, subst}
use mathlib.Core.List.{List, [], ◌∷◌, ◌++◌}
use mathlib.Core.Option.{Option}
use Prim.Native.Nat.{ℕ, ◌+◌}
use native.Mathlib.Omega.{arith}
use lib.IntN.{ℤ, pos, ◌+ℤ◌}
use lib.Signed.{◌≤ℤ◌}
use Rattle.integers.proofs.Parts.{up, dn, ext, le_parts}
use Rattle.automaton.specs.Priced.{Priced}
use Rattle.automaton.specs.Walks.{Walk, Reachable}
use Rattle.automaton.specs.Weights.{weight, Feasible, Potential}
use Rattle.automaton.proofs.Walks.{walk_nil, walk_one, walk_append, reach_start, reach_step}
use Rattle.automaton.proofs.Weights.{weight_zero, weight-+}
use Rattle.automaton.proofs.Falls.{falls_loop}
use Rattle.automaton.proofs.Potentials.{leads_walk}

module _ {S : Type 0} (step : S → ℕ → Option (Priced S)) (start : S) where
  module _ (p : ℤ) (q : ℕ) where
    pub least_unique : {u : S} {z y : ℤ} → Potential step start p q u z → Potential step start p q u y → z ≡ y
    least_unique {u} {z} {y} a b = ext z y (omega (
      arith,
      le_parts z y (subst (λ (x : ℤ). z ≤ℤ x) b.attained (a.least b.codes b.cost b.reward b.walk)),
      le_parts y z (subst (λ (x : ℤ). y ≤ℤ x) a.attained (b.least a.codes a.cost a.reward a.walk)),
    ))

    module _ (π : S → ℤ) (least : (u : S) → Reachable step start u → Potential step start p q u (π u)) where
      -- a walk on from u
      onward : (u v : S) (l : List ℕ) (c : ℤ) (r : ℕ) → Reachable step start u → Reachable step start v → Walk step u l v c r
          → π v ≤ℤ (π u +ℤ weight p q c r)
      onward u v l c r h k w = let a = least u h in subst (λ (z : ℤ). π v ≤ℤ z)
          (weight-+ p q a.cost c a.reward r ∙ ap (λ (z : ℤ). z +ℤ weight p q c r) a.attained)
          ((least v k).least (a.codes ++ l) (a.cost +ℤ c) (a.reward + r) (walk_append step a.walk w))

      pub least_feasible : Feasible step start p q π
      least_feasible = record {
        holds = λ u code x h e. onward u x.to (code ∷ []) x.cost x.reward h (reach_step step start u code x h e) (walk_one step u code x e);
      }

      -- that of the start is 0: no walk back to it weighs less, and the empty one weighs so much
      pub least_start : π start ≡ pos 0
      least_start = let a = least start (reach_start step start) in ext (π start) (pos 0) (omega (
        arith,
        le_parts (π start) (weight p q (pos 0) 0) (a.least [] (pos 0) 0 (walk_nil step start)),
        ap up (weight_zero p q),
        ap dn (weight_zero p q),
        le_parts (pos 0) (π start) (subst (λ (z : ℤ). pos 0 ≤ℤ z) a.attained
            (falls_loop ((leads_walk step start p q π least_feasible a.walk).falls (reach_start step start)))),
      ))
