-- A walk of step codes, read at the corners, is a run with n = 1 of the members of its codes, and costs and earns the same.
use mathlib.Core.Path.{◌≡◌, refl, sym, ap, ap₂, ◌∙◌, subst}
use mathlib.Core.Bool.{true}
use mathlib.Core.List.{List, [], ◌∷◌}
use mathlib.Core.Option.{some}
use Prim.Native.Nat.{ℕ, ◌+◌, ◌*◌}
use native.Mathlib.Nat.{zero-add, add-zero, zero-mul, add-mul, add_assoc}
use lib.IntN.{ℤ, pos, ◌+ℤ◌, ◌*ℤ◌, +ℤ_idl, +ℤ_idr, +ℤ_assoc, zero-*ℤ, *ℤ_comm}
use Rattle.integers.proofs.Products.{mul-sum}
use Rattle.automaton.specs.Automaton.{Automaton}
use Rattle.automaton.specs.Priced.{Priced, chain}
use Rattle.automaton.specs.Nodes.{Node, is_node, Sound}
use Rattle.automaton.specs.Steps.{step}
use Rattle.automaton.specs.Walks.{Walk}
use Rattle.automaton.specs.Runs.{State, later}
use Rattle.automaton.specs.Times.{units_of}
use Rattle.automaton.proofs.Chains.{some_inj, Split, then_split}
use Rattle.automaton.proofs.Reached.{step_to_node}
use Rattle.automaton.proofs.Times.{later_zero, later_more}
use Rattle.schedules.specs.Closed.{is_closed}
use Rattle.schedules.specs.WholeRuns.{WholeRun}
use Rattle.schedules.specs.WalkTerms.{members_from, members_of, corner_state}
use Rattle.schedules.proofs.RunLaws.{runs_as, runs_one, runs_then}
use Rattle.schedules.proofs.CornerSteps.{Delays, step-kinds, edge_taken, delay_taken}
use Rattle.schedules.proofs.CodeLaws.{members_edge, members_delay, members_none}

longer : (w d : ℕ) (rate : ℤ) → pos (w + d) *ℤ rate ≡ pos w *ℤ rate +ℤ pos d *ℤ rate
longer w d rate = *ℤ_comm (pos (w + d)) rate ∙ mul-sum rate (pos w) (pos d) ∙ ap₂ ◌+ℤ◌ (*ℤ_comm rate (pos w)) (*ℤ_comm rate (pos d))

module _ (A : Automaton) (o : Sound A) (closed : is_closed A ≡ true) where
  costs : Node → ℕ → ℤ
  costs u w = pos w *ℤ A.cost_rate u.location

  earns : Node → ℕ → ℕ
  earns u w = w * A.reward_rate u.location

  -- a wait of 0 costs and earns nothing, and one that goes on what both parts do
  costs_none : (u : Node) (c : ℤ) → costs u 0 +ℤ c ≡ c
  unfolding costs
  costs_none u c = ap (λ (z : ℤ). z +ℤ c) (zero-*ℤ (A.cost_rate u.location)) ∙ +ℤ_idl c

  earns_none : (u : Node) (r : ℕ) → earns u 0 + r ≡ r
  unfolding earns
  earns_none u r = ap (λ (k : ℕ). k + r) (zero-mul (A.reward_rate u.location)) ∙ zero-add r

  costs_more : (u : Node) (w d : ℕ) (x : Priced Node) → Delays A u d x → (c : ℤ) → costs x.to (w + d) +ℤ c ≡ costs u w +ℤ (x.cost +ℤ c)
  unfolding costs
  costs_more u w d x h c = ap (λ (l : ℕ). pos (w + d) *ℤ A.cost_rate l +ℤ c) (sym h.here)
      ∙ ap (λ (z : ℤ). z +ℤ c) (longer w d (A.cost_rate u.location) ∙ ap (λ (z : ℤ). costs u w +ℤ z) h.cost)
      ∙ +ℤ_assoc (costs u w) x.cost c

  earns_more : (u : Node) (w d : ℕ) (x : Priced Node) → Delays A u d x → (r : ℕ) → earns x.to (w + d) + r ≡ earns u w + (x.reward + r)
  unfolding earns
  earns_more u w d x h r = ap (λ (l : ℕ). (w + d) * A.reward_rate l + r) (sym h.here)
      ∙ ap (λ (k : ℕ). k + r) (add-mul w d (A.reward_rate u.location) ∙ ap (λ (k : ℕ). earns u w + k) h.reward)
      ∙ add_assoc (earns u w) x.reward r

  -- the walk from u, where w units of waiting from the state s led to the corner of u
  FromWait : List ℕ → Node → State → ℕ → Priced Node → Type 0
  FromWait codes u s w x = WholeRun A s (members_from w codes) (corner_state x.to) (costs u w +ℤ x.cost) (earns u w + x.reward)

  walked_from : (codes : List ℕ) (u : Node) (x : Priced Node) → is_node A u ≡ true → chain (step A) u codes ≡ some x
      → (s : State) (w : ℕ) → later w s ≡ corner_state u → FromWait codes u s w x
  unfolding chain FromWait costs earns
  walked_from [] u x h e s w l = subst (FromWait [] u s w) (some_inj e)
      (runs_as (sym (members_none w)) (sym (+ℤ_idr (costs u w))) (sym (add-zero (earns u w))) (runs_one (delay_taken A o closed u h s w l)))
  walked_from (code ∷ codes) u x h e s w l = subst (FromWait (code ∷ codes) u s w) parts.total
      (step-kinds A u first code parts.took
      (λ low. runs_as (sym (members_edge w code codes low))
      (ap (λ (z : ℤ). costs u w +ℤ (first.cost +ℤ z)) (costs_none first.to second.cost))
      (ap (λ (k : ℕ). earns u w + (first.reward + k)) (earns_none first.to second.reward))
      (runs_then (runs_one (delay_taken A o closed u h s w l)) (runs_then (runs_one (edge_taken A o closed u h code first low parts.took))
      (walked_from codes first.to second next parts.went (corner_state first.to) 0 (later_zero (corner_state first.to))))))
      (λ high d. runs_as (sym (members_delay w code codes high))
      (costs_more u w (units_of code) first d second.cost) (earns_more u w (units_of code) first d second.reward)
      (walked_from codes first.to second next parts.went s (w + units_of code) (later_more w (units_of code) s ∙ ap (later (units_of code)) l ∙ d.grown))))
    where
      parts : Split (step A u code) (λ t. chain (step A) t codes) x
      parts = then_split (step A u code) (λ t. chain (step A) t codes) x e

      first : Priced Node
      first = parts.first

      second : Priced Node
      second = parts.second

      next : is_node A first.to ≡ true
      next = step_to_node A o u code first parts.took h

  -- the whole walk, with nothing waited for before
  pub walk_runs : {u v : Node} {codes : List ℕ} {c : ℤ} {r : ℕ} → is_node A u ≡ true → Walk (step A) u codes v c r
      → WholeRun A (corner_state u) (members_of codes) (corner_state v) c r
  unfolding FromWait
  walk_runs {u} {v} {codes} {c} {r} h k = runs_as refl (costs_none u c) (earns_none u r)
      (walked_from codes u (record { to = v; cost = c; reward = r }) h k.walks (corner_state u) 0 (later_zero (corner_state u)))
