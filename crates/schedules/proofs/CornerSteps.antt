-- Each step, read at the corners with n = 1: an edge is that edge, a unit is a delay of 1, and a region move leaves the state as it is.
use mathlib.Core.Path.{◌≡◌, refl, sym, ap, ◌∙◌, subst}
use mathlib.Core.Bool.{true, ◌&&◌}
use mathlib.Core.Option.{some}
use Prim.Native.Nat.{ℕ, ◌*◌, ◌≤◌, ◌<◌}
use native.Mathlib.Nat.{one-mul, zero-mul}
use native.Mathlib.Omega.{arith}
use borrow.Author.Tests.{ltb-true}
use lib.Dec.{ltb, eqb}
use lib.IntN.{pos, ◌*ℤ◌, zero-*ℤ}
use Rattle.integers.proofs.Products.{one_times}
use Rattle.automaton.specs.Bounds.{upper_holds, lower_holds}
use Rattle.automaton.specs.Automaton.{Automaton, in_guards}
use Rattle.automaton.specs.Priced.{Priced, free}
use Rattle.automaton.specs.Nodes.{Node, intervals, inside, is_node, Sound}
use Rattle.automaton.specs.Steps.{edge_to, edge_allowed, unit_to, rise_to, carry_to, step}
use Rattle.automaton.specs.Runs.{State, delay, edge, within_bounds, later, after, takes}
use Rattle.automaton.specs.Times.{units_of}
use Rattle.automaton.proofs.Tests.{&&-left, &&-right, &&-intro, only_yes}
use Rattle.automaton.proofs.Codes.{step_edge, step_unit, step_move, step-cases, edge_needs, unit_needs, move-cases}
use Rattle.automaton.proofs.Reached.{step_to_node}
use Rattle.automaton.proofs.Corners.{edge_moves_point}
use Rattle.automaton.proofs.Times.{delay_units}
use Rattle.schedules.specs.Closed.{is_closed}
use Rattle.schedules.specs.WalkTerms.{corner_state}
use Rattle.schedules.proofs.CornerBounds.{corner_within, corner_guards}

-- a step that is a delay of d units of the state, d = 0 included
pub record Delays (A : Automaton) (u : Node) (d : ℕ) (x : Priced Node) : Type 0 where
  pub here : u.location ≡ x.to.location
  pub grown : later d (corner_state u) ≡ corner_state x.to
  pub cost : pos d *ℤ A.cost_rate u.location ≡ x.cost
  pub reward : d * A.reward_rate u.location ≡ x.reward

module _ (A : Automaton) (u : Node) (x : Priced Node) where
  unit_delays : step A u 32 ≡ some x → Delays A u 1 x
  unit_delays s = record {
    here = here;
    grown = λ i. record { location = here i; values = sym (delay_units A u 32 x (omega arith) s) i };
    cost = one_times (A.cost_rate u.location) ∙ ap (λ (y : Priced Node). y.cost) (sym is);
    reward = one-mul (A.reward_rate u.location) ∙ ap (λ (y : Priced Node). y.reward) (sym is);
  }
    where
      is : x ≡ record { to = unit_to u; cost = A.cost_rate u.location; reward = A.reward_rate u.location }
      is = (unit_needs A u x (sym (step_unit A u) ∙ s)).2

      here : u.location ≡ x.to.location
      here = ap (λ (y : Priced Node). y.to.location) (sym is)

  move_delays : step A u 33 ≡ some x → Delays A u 0 x
  move_delays s = move-cases A u x (sym (step_move A u) ∙ s) (λ m i q. told (rise_to u) refl q) (λ m l i q. told (carry_to u) refl q)
    where
      told : (v : Node) → u.location ≡ v.location → x ≡ free v → Delays A u 0 x
      told v l q = record {
        here = here;
        grown = λ i. record { location = here i; values = sym (delay_units A u 33 x (omega arith) s) i };
        cost = zero-*ℤ (A.cost_rate u.location) ∙ ap (λ (y : Priced Node). y.cost) (sym q);
        reward = zero-mul (A.reward_rate u.location) ∙ ap (λ (y : Priced Node). y.reward) (sym q);
      }
        where
          here : u.location ≡ x.to.location
          here = l ∙ ap (λ (y : Priced Node). y.to.location) (sym q)

  -- an edge, or a delay of as many units as its code counts
  pub step-kinds {ℓ} : {X : Type ℓ} (code : ℕ) → step A u code ≡ some x → (code ≤ 31 → X) → (31 < code → Delays A u (units_of code) x → X) → X
  step-kinds code s f g = step-cases A u code x s (λ l e. f l)
      (λ q e. g (omega arith) (subst (λ (k : ℕ). Delays A u (units_of k) x) (sym q) (unit_delays (step_unit A u ∙ e))))
      (λ q e. g (omega arith) (subst (λ (k : ℕ). Delays A u (units_of k) x) (sym q) (move_delays (step_move A u ∙ e))))

module _ (A : Automaton) (o : Sound A) (closed : is_closed A ≡ true) (u : Node) (h : is_node A u ≡ true) where
  -- an edge is that edge, at the same price
  pub edge_taken : (e : ℕ) (x : Priced Node) → e ≤ 31 → step A u e ≡ some x
      → takes A 1 (corner_state u) (edge e) ≡ some (record { to = corner_state x.to; cost = x.cost; reward = x.reward })
  unfolding takes
  edge_taken e x l s = only_yes
      (&&-intro (&&-left (ltb e A.edges) _ allowed) (&&-intro (&&-left (eqb (A.source e) u.location) _ rest)
      (&&-intro (corner_guards A closed u h e (ltb-true e A.edges (&&-left (ltb e A.edges) _ allowed))
      (&&-left (in_guards lower_holds upper_holds A e (intervals u.region)) (inside A (edge_to A u e)) (&&-right (eqb (A.source e) u.location) _ rest)))
      (ap (within_bounds A 1) lands ∙ corner_within A closed x.to (step_to_node A o u e x s h)))))
      (λ i. record {
        to = lands i;
        cost = (one_times (A.cost e) ∙ ap (λ (y : Priced Node). y.cost) (sym is)) i;
        reward = (one-mul (A.reward e) ∙ ap (λ (y : Priced Node). y.reward) (sym is)) i;
      })
    where
      needs : (edge_allowed A u e ≡ true) × (x ≡ record { to = edge_to A u e; cost = A.cost e; reward = A.reward e })
      needs = edge_needs A u x e (sym (step_edge A u e l) ∙ s)

      allowed : edge_allowed A u e ≡ true
      allowed = needs.0

      is : x ≡ record { to = edge_to A u e; cost = A.cost e; reward = A.reward e }
      is = needs.1

      rest : eqb (A.source e) u.location && (in_guards lower_holds upper_holds A e (intervals u.region) && inside A (edge_to A u e)) ≡ true
      rest = &&-right (ltb e A.edges) _ allowed

      lands : after A e (corner_state u) ≡ corner_state x.to
      lands = λ i. record { location = ap (λ (y : Priced Node). y.to.location) (sym is) i; values = sym (edge_moves_point A u e x l s) i }

  -- a delay that ends at the corner of a node, from whatever state
  pub delay_taken : (s : State) (d : ℕ) → later d s ≡ corner_state u
      → takes A 1 s (delay d) ≡ some (record { to = corner_state u; cost = pos d *ℤ A.cost_rate u.location; reward = d * A.reward_rate u.location })
  unfolding takes
  delay_taken s d e = only_yes (ap (within_bounds A 1) e ∙ corner_within A closed u h) (λ i. record {
    to = e i;
    cost = pos d *ℤ A.cost_rate (e i).location;
    reward = d * A.reward_rate (e i).location;
  })
