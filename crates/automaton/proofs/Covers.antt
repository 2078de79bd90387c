-- The potentials of a state's nodes, summed over the thresholds, fall by at most the weight of what a run takes.
use mathlib.Core.Path.{◌≡◌, sym, ap, ap₂, ◌∙◌, subst, subst₂}
use mathlib.Core.Bool.{true}
use mathlib.Core.List.{List, map, map-map}
use mathlib.Core.Option.{some}
use Prim.Native.Nat.{ℕ, zero, suc, ◌+◌, ◌*◌, ◌≤◌, ◌<◌}
use native.Mathlib.Nat.{suc-mul, zero-mul, add-zero, add-suc}
use native.Mathlib.Omega.{arith}
use borrow.Author.Tests.{ltb-true}
use lib.Dec.{ltb}
use lib.IntN.{ℤ, pos, ◌+ℤ◌, ◌*ℤ◌, zero-*ℤ, +ℤ_idl, +ℤ_idr}
use Rattle.integers.proofs.Products.{times_suc}
use Rattle.automaton.specs.Tests.{occurs}
use Rattle.automaton.specs.Bounds.{upper_holds_nths}
use Rattle.automaton.specs.Ranks.{rank}
use Rattle.automaton.specs.Automaton.{Automaton, in_bounds}
use Rattle.automaton.specs.Priced.{Priced, free}
use Rattle.automaton.specs.Nodes.{Node, start_node}
use Rattle.automaton.specs.Steps.{step, move_step}
use Rattle.automaton.specs.Walks.{Reachable}
use Rattle.automaton.specs.Weights.{weight, Feasible}
use Rattle.automaton.specs.Runs.{State, Member, delay, edge, within_bounds, later, after, may_take, takes, run, start_state}
use Rattle.automaton.proofs.Tests.{by_bool, &&-left, only_test, only_value}
use Rattle.automaton.proofs.Lists.{each_all, map_cong, map_same, every_imp}
use Rattle.automaton.proofs.Bounds.{less_within}
use Rattle.automaton.proofs.Chains.{chain_holds}
use Rattle.automaton.proofs.Codes.{step_edge, step_unit, step_move}
use Rattle.automaton.proofs.Thresholds.{fractions, node_at, edge_step_lem, start_node_lem}
use Rattle.automaton.proofs.Ticks.{tick, risen, midway, leave, leave_not, turn, come, come_not}
use Rattle.automaton.proofs.Falls.{Falls, falls_refl, falls_chain, sum, sum_falls, sum_turns}
use Rattle.automaton.proofs.Weights.{weight_zero, weight-+, weight_times}
use Rattle.automaton.proofs.Walks.{reach_start}
use Rattle.automaton.proofs.Potentials.{Leads, leads_same, leads_chain, leads_step}

-- the potential of a state: those of its nodes, summed over the thresholds
unfoldable pub Φ : (Node → ℤ) → ℕ → State → ℤ
Φ π n s = sum n (λ t. π (node_at n s t))

-- every node of the state is reachable
pub record Covered (A : Automaton) (n : ℕ) (s : State) : Type 0 where
  pub node : (t : ℕ) → t < n → Reachable (step A) (start_node A) (node_at n s t)

pub start_covered : (A : Automaton) (n : ℕ) → Covered A n (start_state A)
start_covered A n = record { node = λ t h. subst (Reachable (step A) (start_node A)) (sym (start_node_lem A n t)) (reach_start (step A) (start_node A)) }

-- from s one comes to x, and the sum falls by at most w
pub record Passes (A : Automaton) (π : Node → ℤ) (n : ℕ) (w : ℤ) (s x : State) : Type 0 where
  pub covers : Covered A n s → Covered A n x
  pub falls : Covered A n s → Falls (Φ π n s) (Φ π n x) w

passes_same : (A : Automaton) (π : Node → ℤ) (n : ℕ) (s : State) → Passes A π n (pos 0) s s
passes_same A π n s = record { covers = λ c. c; falls = λ c. falls_refl (Φ π n s) }

passes_chain : {A : Automaton} {π : Node → ℤ} {n : ℕ} {s t x : State} {v w : ℤ} → Passes A π n v s t → Passes A π n w t x → Passes A π n (v +ℤ w) s x
passes_chain h k = record { covers = λ c. k.covers (h.covers c); falls = λ c. falls_chain (h.falls c) (k.falls (h.covers c)) }

module _ (A : Automaton) (p : ℤ) (q : ℕ) (π : Node → ℤ) (ok : Feasible (step A) (start_node A) p q π) where
  abbrev Goes : ℤ → Node → Node → Type 0
  Goes = Leads (step A) (start_node A) π

  moves : {u v : Node} → move_step A u ≡ some (free v) → Goes (pos 0) u v
  moves {u} {v} e = subst (λ w. Goes w u v) (weight_zero p q) (leads_step (step A) (start_node A) p q π ok u 33 (free v) (step_move A u ∙ e))

  -- ---- an edge

  edge_passes : A.edges ≤ 32 → (n e : ℕ) → 0 < n → (s : State) → may_take A n e s ≡ true
      → Passes A π n (weight p q (pos n *ℤ A.cost e) (n * A.reward e)) s (after A e s)
  unfolding Φ
  edge_passes few n e l s h = record {
    covers = λ c. record { node = λ t k. (one t).reach (c.node t k) };
    falls = λ c. rw (weight_times p q n (A.cost e) (A.reward e))
        (sum_falls n (λ t. π (node_at n s t)) (λ t. π (node_at n (after A e s) t)) (weight p q (A.cost e) (A.reward e)) (λ t k. (one t).falls (c.node t k)));
  }
    where
      low : e < A.edges
      low = ltb-true e A.edges (&&-left (ltb e A.edges) _ h)

      one : (t : ℕ) → Goes (weight p q (A.cost e) (A.reward e)) (node_at n s t) (node_at n (after A e s) t)
      one t = leads_step (step A) (start_node A) p q π ok (node_at n s t) e (record { to = node_at n (after A e s) t; cost = A.cost e; reward = A.reward e })
          (step_edge A (node_at n s t) e (omega (arith, low)) ∙ edge_step_lem A n e s t l h)

  -- ---- one nth of delay

  module _ (n : ℕ) (s : State) (fit : within_bounds A (suc n) (tick s) ≡ true) where
    some_n : 0 < suc n
    some_n = omega arith

    rate : ℤ
    rate = weight p q (A.cost_rate s.location) (A.reward_rate s.location)

    leaves : (t : ℕ) → Goes (pos 0) (node_at (suc n) s t) (midway (suc n) s (rank (risen (suc n) s) (suc t)))
    leaves t = by_bool (occurs 0 (fractions (suc n) s.values))
        (λ e. moves (leave A (suc n) some_n s fit e t))
        (λ e. leads_same (step A) (start_node A) π (leave_not A (suc n) some_n s e t))

    comes : (t : ℕ) → t < suc n → Goes (pos 0) (midway (suc n) s (rank (risen (suc n) s) t)) (node_at (suc n) (tick s) t)
    comes t h = by_bool (occurs (suc n) (risen (suc n) s))
        (λ e. moves (come A (suc n) some_n s fit e t h))
        (λ e. leads_same (step A) (start_node A) π (come_not A (suc n) some_n s e t h))

    -- each threshold but the last to the next, free of charge
    on : (t : ℕ) → t < n → Goes (pos 0) (node_at (suc n) s t) (node_at (suc n) (tick s) (suc t))
    on t h = leads_chain (step A) (start_node A) (leaves t) (comes (suc t) (omega arith))

    -- and the last to the first, for a unit of delay
    round : Goes rate (node_at (suc n) s n) (node_at (suc n) (tick s) 0)
    unfolding rate
    round = subst (λ w. Goes w (node_at (suc n) s n) (node_at (suc n) (tick s) 0)) (+ℤ_idl (rate +ℤ pos 0) ∙ +ℤ_idr rate)
        (leads_chain (step A) (start_node A) (leaves n) (leads_chain (step A) (start_node A) unit (comes 0 some_n)))
      where
        unit : Goes rate (midway (suc n) s (rank (risen (suc n) s) (suc n))) (midway (suc n) s (rank (risen (suc n) s) 0))
        unit = leads_step (step A) (start_node A) p q π ok (midway (suc n) s (rank (risen (suc n) s) (suc n))) 32
            (record { to = midway (suc n) s (rank (risen (suc n) s) 0); cost = A.cost_rate s.location; reward = A.reward_rate s.location })
            (step_unit A (midway (suc n) s (rank (risen (suc n) s) (suc n))) ∙ turn A (suc n) some_n s fit)

    tick_passes : Passes A π (suc n) rate s (tick s)
    unfolding Φ
    tick_passes = record {
      covers = λ c. record { node = λ t k. reached c t k };
      falls = λ c. sum_turns n (λ t. π (node_at (suc n) s t)) (λ t. π (node_at (suc n) (tick s) t)) rate
          (λ t k. (on t k).falls (c.node t (omega arith))) (round.falls (c.node n (omega arith)));
    }
      where
        reached : Covered A (suc n) s → (t : ℕ) → t < suc n → Reachable (step A) (start_node A) (node_at (suc n) (tick s) t)
        reached c zero k = round.reach (c.node n (omega arith))
        reached c (suc t) k = (on t (omega arith)).reach (c.node t (omega arith))

  -- ---- a delay

  delay_passes : (n d : ℕ) (s : State) → within_bounds A (suc n) (later d s) ≡ true
      → Passes A π (suc n) (weight p q (pos d *ℤ A.cost_rate s.location) (d * A.reward_rate s.location)) s (later d s)
  unfolding rate
  delay_passes n zero s h = subst₂ (λ (w : ℤ) (x : State). Passes A π (suc n) w s x)
      (sym (ap₂ (weight p q) (zero-*ℤ (A.cost_rate s.location)) (zero-mul (A.reward_rate s.location)) ∙ weight_zero p q))
      (λ i. record { location = s.location; values = sym (map_same (λ v. v + 0) s.values (each_all add-zero)) i })
      (passes_same A π (suc n) s)
  delay_passes n (suc d) s h = subst₂ (λ (w : ℤ) (x : State). Passes A π (suc n) w s x)
      (sym (ap₂ (weight p q) (times_suc d (A.cost_rate s.location)) (suc-mul d (A.reward_rate s.location))
      ∙ weight-+ p q (pos d *ℤ A.cost_rate s.location) (A.cost_rate s.location) (d * A.reward_rate s.location) (A.reward_rate s.location)))
      (λ i. record { location = s.location; values = grown i })
      (passes_chain (delay_passes n d s shorter) (tick_passes n (later d s) (ap (in_bounds (upper_holds_nths (suc n)) A s.location) grown ∙ h)))
    where
      grown : map suc (map (λ v. v + d) s.values) ≡ map (λ v. v + suc d) s.values
      grown = map-map suc (λ v. v + d) s.values ∙ map_cong (λ v. suc (v + d)) (λ v. v + suc d) s.values (each_all (λ v. sym (add-suc v d)))

      shorter : within_bounds A (suc n) (later d s) ≡ true
      shorter = unfold in_bounds in every_imp (λ j. upper_holds_nths (suc n) (A.bound s.location j)) (λ j. upper_holds_nths (suc n) (A.bound s.location j))
          (λ v. v + d) (λ v. v + suc d) s.values
          (λ x j. less_within (suc n) (x + d) (x + suc d) (A.bound s.location j) (omega arith)) h

  -- ---- a member, and a run

  member_passes : A.edges ≤ 32 → (n : ℕ) (s : State) (m : Member) (x : Priced State) → takes A (suc n) s m ≡ some x
      → Passes A π (suc n) (weight p q x.cost x.reward) s x.to
  unfolding takes
  member_passes few n s (delay d) x e =
      let y : Priced State = record { to = later d s; cost = pos d *ℤ A.cost_rate s.location; reward = d * A.reward_rate s.location } in
      subst (λ (y : Priced State). Passes A π (suc n) (weight p q y.cost y.reward) s y.to) (only_value (within_bounds A (suc n) (later d s)) y e)
      (delay_passes n d s (only_test (within_bounds A (suc n) (later d s)) y e))
  member_passes few n s (edge d) x e =
      let y : Priced State = record { to = after A d s; cost = pos (suc n) *ℤ A.cost d; reward = suc n * A.reward d } in
      subst (λ (y : Priced State). Passes A π (suc n) (weight p q y.cost y.reward) s y.to) (only_value (may_take A (suc n) d s) y e)
      (edge_passes few (suc n) d (omega arith) s (only_test (may_take A (suc n) d s) y e))

  pub run_passes : A.edges ≤ 32 → (n : ℕ) (s : State) (ms : List Member) (x : Priced State) → run A (suc n) s ms ≡ some x
      → Passes A π (suc n) (weight p q x.cost x.reward) s x.to
  run_passes few n = chain_holds (takes A (suc n)) (λ c r s x. Passes A π (suc n) (weight p q c r) s x)
      (λ s. rw (weight_zero p q) (passes_same A π (suc n) s))
      (λ c d r t s x y h k. rw (weight-+ p q c d r t) (passes_chain h k))
      (member_passes few n)
