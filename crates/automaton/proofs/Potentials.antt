-- Feasible potentials: what they say of walks and cycles, and that they are least where walks attain them. For any steps by code.
use mathlib.Core.Path.{◌≡◌, refl, subst}
use mathlib.Core.List.{List}
use mathlib.Core.Option.{Option, some}
use Prim.Native.Nat.{ℕ}
use native.Mathlib.Omega.{arith}
use lib.IntN.{ℤ, pos, ◌+ℤ◌, ◌*ℤ◌}
use lib.Signed.{◌≤ℤ◌}
use Rattle.integers.proofs.Parts.{le_of}
use Rattle.automaton.specs.Priced.{Priced}
use Rattle.automaton.specs.Walks.{Walk, Reachable, ReachableCycle}
use Rattle.automaton.specs.Weights.{weight, Feasible, Potential}
use Rattle.automaton.proofs.Walks.{walk_holds, reach_start, reach_step}
use Rattle.automaton.proofs.Weights.{weight_zero, weight-+, weight_ratio}
use Rattle.automaton.proofs.Falls.{Falls, falls_refl, falls_chain, falls_loop, falls_least}

module _ {S : Type 0} (step : S → ℕ → Option (Priced S)) (start : S) where
  -- from u one comes to v, and the potential falls by at most w
  pub record Leads (π : S → ℤ) (w : ℤ) (u v : S) : Type 0 where
    pub reach : Reachable step start u → Reachable step start v
    pub falls : Reachable step start u → Falls (π u) (π v) w

  pub leads_same : (π : S → ℤ) {u v : S} → u ≡ v → Leads π (pos 0) u v
  leads_same π {u} e = subst (Leads π (pos 0) u) e (record { reach = λ r. r; falls = λ r. falls_refl (π u) })

  pub leads_chain : {π : S → ℤ} {u v x : S} {w z : ℤ} → Leads π w u v → Leads π z v x → Leads π (w +ℤ z) u x
  leads_chain h k = record { reach = λ r. k.reach (h.reach r); falls = λ r. falls_chain (h.falls r) (k.falls (h.reach r)) }

  module _ (p : ℤ) (q : ℕ) (π : S → ℤ) (ok : Feasible step start p q π) where
    pub leads_step : (u : S) (code : ℕ) (x : Priced S) → step u code ≡ some x → Leads π (weight p q x.cost x.reward) u x.to
    leads_step u code x e = record { reach = λ h. reach_step step start u code x h e; falls = λ h. record { at_most = ok.holds u code x h e } }

    pub leads_walk : {u v : S} {l : List ℕ} {c : ℤ} {r : ℕ} → Walk step u l v c r → Leads π (weight p q c r) u v
    leads_walk w = walk_holds step (λ c r s t. Leads π (weight p q c r) s t)
        (λ s. rw (weight_zero p q) (leads_same π refl))
        (λ c d r t s x y h k. rw (weight-+ p q c d r t) (leads_chain h k))
        leads_step w

    -- every reachable cycle weighs at least 0
    pub cycle_weighs : (c : ℤ) (r : ℕ) → ReachableCycle step start c r → pos 0 ≤ℤ weight p q c r
    cycle_weighs c r o = falls_loop ((leads_walk o.cycle.back).falls o.reached)

    -- so none is below p/q
    pub none_below : (c : ℤ) (r : ℕ) → ReachableCycle step start c r → (p *ℤ pos r) ≤ℤ (pos q *ℤ c)
    none_below c r o = (weight_ratio p q c r).0 (cycle_weighs c r o)

    -- no walk from the start weighs less than the potential where it ends
    pub walk_weighs : π start ≡ pos 0 → {u : S} {l : List ℕ} {c : ℤ} {r : ℕ} → Walk step start l u c r → π u ≤ℤ weight p q c r
    walk_weighs z {u} w = falls_least ((leads_walk w).falls (reach_start step start)) z (le_of (π u) (π u) (omega arith))

    -- a feasible potential that a walk attains is least
    pub attained_least : π start ≡ pos 0 → {u : S} {l : List ℕ} {c : ℤ} {r : ℕ} → Walk step start l u c r → weight p q c r ≡ π u
        → Potential step start p q u (π u)
    attained_least z {l = l} {c = c} {r = r} w e = record { codes = l; cost = c; reward = r; walk = w; attained = e; least = λ k d t o. walk_weighs z o }
