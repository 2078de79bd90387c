-- An edge by the tests of its records.
use mathlib.Core.Path.{◌≡◌, refl, sym, ap, ap₂, ◌∙◌}
use mathlib.Core.Bool.{Bool, true, false, ◌&&◌}
use mathlib.Core.Option.{map}
use Prim.Native.Nat.{ℕ}
use borrow.Author.Tests.{eq-eqb, ne_eqb}
use lib.Dec.{eqb}
use lib.IntN.{ℤ}
use lib.ListN.{get_or}
use Rattle.automaton.specs.Tests.{only, every}
use Rattle.automaton.specs.Bounds.{upper_holds, lower_holds}
use Rattle.automaton.specs.Automaton.{Automaton, in_bounds, in_guards}
use Rattle.automaton.specs.Nodes as automaton
use Rattle.automaton.specs.Nodes.{intervals, inside}
use Rattle.automaton.specs.Steps.{edge_to, edge_allowed, edge_step, step}
use Rattle.automaton.proofs.Tests.{&&-intro}
use Rattle.sheet.specs.declared.Edge.{Edge}
use Rattle.sheet.specs.declared.Location.{Location}
use Rattle.nodes.specs.Numbers.{Layout, layout_at, bits_of, number, node_of, step_by}
use Rattle.nodes.specs.Decoded.{few_clocks, bound_in, lower_in, alone}
use Rattle.nodes.proofs.Carried.{named}
use Rattle.region.specs.Answers.{Stepped, refused_step, answered}
use Rattle.region.specs.Arrays.{in_arrays, node_in, number_in, bounds_in, guards_in, guard_holds, after_edge}
use Rattle.region.specs.declared.Node.{Node}
use Rattle.region.proofs.ClockLaws.{no_more}
use Rattle.nodes.proofs.LayoutLaws.{few_le}
use Rattle.region.proofs.NodeLaws.{Sized, sized, own_number, same_intervals, edge_arrays, edge_sized}

-- the region of arrays lies within the upper bytes if and only if the node does
pub same_inside : (e k : ℕ) (edge : Edge) (l : Location) {u : automaton.Node} → Sized (few_clocks e k) u
    → bounds_in l.upper (few_clocks e k) (in_arrays u).region ≡ inside (alone e k edge l) u
unfolding bounds_in in_bounds alone
same_inside e k edge l h = ap (every (λ j x. upper_holds (bound_in l j) x)) (same_intervals h (few_le e k))

module _ (e k : ℕ) (edge : Edge) (l : Location) (x : ℕ) where
  abbrev y : Layout
  y = layout_at e

  abbrev A : Automaton
  A = alone e k edge l

  abbrev u : automaton.Node
  u = node_of y (few_clocks e k) x

  clocks : Sized (few_clocks e k) u
  clocks = sized y (few_clocks e k) x

  abbrev next : Node
  next = after_edge (in_arrays u) edge.target edge.reset

  edge_by : (b : Bool) → edge_allowed A u 0 ≡ b
      → answered 0 (only b (record { to = number y (edge_to A u 0); cost = edge.cost; reward = edge.reward })) ≡ answered 0 (step_by y A x 0)
  unfolding step_by step edge_step alone
  edge_by true h = sym (ap (λ (b : Bool). answered 0 (map (named (number y)) (only b (record { to = edge_to A u 0; cost = edge.cost; reward = edge.reward })))) h)
  edge_by false h = sym (ap (λ (b : Bool). answered 0 (map (named (number y)) (only b (record { to = edge_to A u 0; cost = edge.cost; reward = edge.reward })))) h)

  same_guards : guards_in edge.lower edge.upper (few_clocks e k) (in_arrays u).region ≡ in_guards lower_holds upper_holds A 0 (intervals u.region)
  unfolding guards_in in_guards alone
  same_guards = ap (every (λ j i. guard_holds (lower_in edge j) (get_or edge.upper j 0) i)) (same_intervals clocks (few_le e k))

  arrays : next ≡ in_arrays (edge_to A u 0)
  unfolding alone
  arrays = edge_arrays clocks edge.target edge.reset (few_le e k)

  landing : Sized (few_clocks e k) (edge_to A u 0)
  unfolding alone
  landing = edge_sized clocks edge.target edge.reset

  same_landing : bounds_in l.upper (few_clocks e k) next.region ≡ inside A (edge_to A u 0)
  same_landing = ap (λ (n : Node). bounds_in l.upper (few_clocks e k) n.region) arrays ∙ same_inside e k edge l landing

  -- the three tests, each where the ones before it passed
  pub elsewhere : (edge.source ≡ bits_of x 4 y.location → ⊥) → refused_step 16 ≡ answered 0 (step_by y A x 0)
  unfolding node_of
  elsewhere n = edge_by false (unfold alone in ap (λ (b : Bool). b && (in_guards lower_holds upper_holds A 0 (intervals u.region) && inside A (edge_to A u 0))) (ne_eqb _ _ n))

  edge_unguarded : guards_in edge.lower edge.upper (few_clocks e k) (in_arrays u).region ≡ false → refused_step 16 ≡ answered 0 (step_by y A x 0)
  edge_unguarded h = edge_by false (unfold alone in (ap (λ (b : Bool). eqb edge.source u.location && (b && inside A (edge_to A u 0))) (sym same_guards ∙ h)
      ∙ no_more (eqb edge.source u.location)))

  edge_outside : bounds_in l.upper (few_clocks e k) next.region ≡ false → refused_step 16 ≡ answered 0 (step_by y A x 0)
  edge_outside h = edge_by false (unfold alone in (ap (λ (b : Bool). eqb edge.source u.location && (in_guards lower_holds upper_holds A 0 (intervals u.region) && b))
      (sym same_landing ∙ h) ∙ ap (λ (b : Bool). eqb edge.source u.location && b) (no_more (in_guards lower_holds upper_holds A 0 (intervals u.region)))
      ∙ no_more (eqb edge.source u.location)))

  edge_taken : edge.source ≡ u.location → guards_in edge.lower edge.upper (few_clocks e k) (in_arrays u).region ≡ true
      → bounds_in l.upper (few_clocks e k) next.region ≡ true
      → ◌≡◌ {A = Stepped} (record { refusal = 0; number = number_in e next; cost = edge.cost; reward = edge.reward; units = 0 }) (answered 0 (step_by y A x 0))
  edge_taken s g b = ap (λ (n : ℕ). record { refusal = 0; number = n; cost = edge.cost; reward = edge.reward; units = 0 })
      (ap (number_in e) arrays ∙ own_number e k landing)
      ∙ edge_by true (unfold alone in &&-intro (eq-eqb _ _ s) (&&-intro (sym same_guards ∙ g) (sym same_landing ∙ b)))

  -- the same, of the clocks and the node that the code has
  module _ (kk : ℕ) (n : Node) (few : kk ≡ few_clocks e k) (is : n ≡ node_in e kk x) where
    node : n ≡ in_arrays u
    node = is ∙ ap (λ (m : ℕ). node_in e m x) few

    pub unguarded : guards_in edge.lower edge.upper kk n.region ≡ false → refused_step 16 ≡ answered 0 (step_by y A x 0)
    unguarded h = edge_unguarded (sym (ap₂ (λ (m : ℕ) (n : Node). guards_in edge.lower edge.upper m n.region) few node) ∙ h)

    module _ (v : Node) (leads : v ≡ after_edge n edge.target edge.reset) where
      led : v ≡ next
      led = leads ∙ ap (λ (m : Node). after_edge m edge.target edge.reset) node

      pub outside : bounds_in l.upper kk v.region ≡ false → refused_step 16 ≡ answered 0 (step_by y A x 0)
      outside h = edge_outside (sym (ap₂ (λ (m : ℕ) (n : Node). bounds_in l.upper m n.region) few led) ∙ h)

      here : bits_of x 4 y.location ≡ u.location
      unfolding node_of
      here = refl

      pub taken : (c : ℤ) → c ≡ edge.cost → edge.source ≡ bits_of x 4 y.location → (a : Bool) → a ≡ guards_in edge.lower edge.upper kk n.region
          → a ≡ true → (b : Bool) → b ≡ bounds_in l.upper kk v.region → b ≡ true → (z : ℕ) → z ≡ number_in e v
          → ◌≡◌ {A = Stepped} (record { refusal = 0; number = z; cost = c; reward = edge.reward; units = 0 }) (answered 0 (step_by y A x 0))
      taken c p s a g t b w r z q = (λ i. record { refusal = 0; number = (q ∙ ap (number_in e) led) i; cost = p i; reward = edge.reward; units = 0 })
          ∙ edge_taken (s ∙ here) (sym (ap₂ (λ (m : ℕ) (n : Node). guards_in edge.lower edge.upper m n.region) few node) ∙ sym g ∙ t)
          (sym (ap₂ (λ (m : ℕ) (n : Node). bounds_in l.upper m n.region) few led) ∙ sym w ∙ r)
