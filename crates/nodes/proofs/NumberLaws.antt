-- Numbers and nodes: they are the same, and so are the steps, walks, cycles and potentials on them.
use mathlib.Core.Path.{◌≡◌, sym, ap, ◌∙◌, subst}
use mathlib.Core.Bool.{true}
use mathlib.Core.Option.{some, map}
use Prim.Native.Nat.{ℕ, ◌^◌, ◌≤◌, ◌<◌}
use native.Mathlib.Omega.{arith}
use borrow.Author.Tests.{eqb-true, eq-eqb}
use lib.Dec.{eqb}
use lib.IntN.{ℤ, pos}
use lib.Signed.{◌≤ℤ◌}
use mathlib.Core.List.{List}
use Rattle.automaton.specs.Automaton.{Automaton}
use Rattle.automaton.specs.Priced.{Priced}
use Rattle.automaton.specs.Nodes.{Node, is_node, start_node, Sound}
use Rattle.automaton.specs.Steps.{step}
use Rattle.automaton.specs.Walks.{Walk, Reachable, ReachableCycle}
use Rattle.automaton.specs.Weights.{Feasible, Potential}
use Rattle.automaton.specs.Loops.{NoLoopBelow}
use Rattle.automaton.specs.RunWeights.{NoRunBelow}
use Rattle.automaton.proofs.Tests.{&&-left, &&-right, &&-intro}
use Rattle.automaton.proofs.Codes.{unit_or_move}
use Rattle.automaton.proofs.Nodes.{Proper, proper_of, class_small, corner_small, whole_small}
use Rattle.automaton.proofs.Reached.{start_is_node, step_to_node}
use Rattle.automaton.proofs.Comparison.{no_loop_below, no_run_below}
use Rattle.nodes.specs.Numbers.{Layout, class_at, number, node_of, is_number, step_by, start_number}
use Rattle.nodes.proofs.Packing.{Fits, unpacked}
use Rattle.nodes.proofs.Carried.{named, named_some, Source, Back, walk_named, walk_back, reach_named, reach_back, cycle_named, cycle_back, feasible_back, potential_back}

-- the nodes of an automaton have room in a layout
pub record Room (y : Layout) (A : Automaton) : Type 0 where
  pub clocks : class_at y A.clocks ≤ y.location
  pub ranks : A.clocks < 2 ^ y.bits
  pub locations : A.locations ≤ 16
  pub bounds : (l j : ℕ) → l < A.locations → j < A.clocks → A.bound l j ≤ 31

module _ (y : Layout) (A : Automaton) (room : Room y A) where
  fits : (u : Node) → Proper A u → Fits y u
  fits u h = record {
    lengths = h.wholes ∙ sym h.classes;
    clocks = rw h.wholes room.clocks;
    wholes = record { at = λ x m. omega (arith, (whole_small {A = A} {u = u} 15 h (λ j l. room.bounds u.location j h.here l)).at x m) };
    classes = record { at = λ x m. omega (arith, (class_small {A = A} {u = u} h).at x m, room.ranks) };
    corner = omega (arith, corner_small h, room.ranks);
    location = omega (arith, h.here, room.locations);
  }

  -- unpacking undoes packing
  pub node_of_number : (u : Node) → is_node A u ≡ true → node_of y A.clocks (number y u) ≡ u
  node_of_number u h =
      let k = proper_of A u h in
      ap (λ (n : ℕ). node_of y n (number y u)) (sym k.wholes) ∙ unpacked y u (fits u k)

  -- and packing undoes unpacking
  pub number_of_node : (x : ℕ) → is_number y A x ≡ true → number y (node_of y A.clocks x) ≡ x
  unfolding is_number
  number_of_node x h = let u = node_of y A.clocks x in eqb-true (number y u) x (&&-left (eqb (number y u) x) (is_node A u) h)

  pub node_there : (x : ℕ) → is_number y A x ≡ true → is_node A (node_of y A.clocks x) ≡ true
  unfolding is_number
  node_there x h = let u = node_of y A.clocks x in &&-right (eqb (number y u) x) (is_node A u) h

  pub number_there : (u : Node) → is_node A u ≡ true → is_number y A (number y u) ≡ true
  unfolding is_number
  number_there u h =
      let e = node_of_number u h in
      &&-intro (eq-eqb _ _ (ap (number y) e)) (ap (is_node A) e ∙ h)

  pub apart : (u v : Node) → is_node A u ≡ true → is_node A v ≡ true → number y u ≡ number y v → u ≡ v
  apart u v h k e = sym (node_of_number u h) ∙ ap (node_of y A.clocks) e ∙ node_of_number v k

  -- a step on numbers is the step on their nodes
  pub same_step : (u : Node) (code : ℕ) → is_node A u ≡ true → step_by y A (number y u) code ≡ map (named (number y)) (step A u code)
  unfolding step_by
  same_step u code h = ap (λ (w : Node). map (named (number y)) (step A w code)) (node_of_number u h)

  -- at most one of codes 32 and 33
  pub unit_or_move_number : (x : ℕ) (v w : Priced ℕ) → step_by y A x 32 ≡ some v → step_by y A x 33 ≡ some w → ⊥
  unfolding step_by
  unit_or_move_number x v w e f =
      let u = node_of y A.clocks x in
      let a = named_some (number y) (step A u 32) v e in
      let b = named_some (number y) (step A u 33) w f in
      unit_or_move A u a.value b.value a.is b.is

  module _ (sound : Sound A) where
    keeps : (u : Node) (code : ℕ) (v : Priced Node) → step A u code ≡ some v → is_node A u ≡ true → is_node A v.to ≡ true
    keeps = step_to_node A sound

    begins : is_node A (start_node A) ≡ true
    begins = start_is_node A sound

    -- a step from a node's number leads to a node's number
    pub step_to_number : (x code : ℕ) (v : Priced ℕ) → step_by y A x code ≡ some v → is_number y A x ≡ true → is_number y A v.to ≡ true
    unfolding step_by
    step_to_number x code v e h =
        let u = node_of y A.clocks x in
        let a = named_some (number y) (step A u code) v e in
        subst (λ (z : ℕ). is_number y A z ≡ true) (ap (λ (w : Priced ℕ). w.to) a.name)
        (number_there a.value.to (keeps u code a.value a.is (node_there x h)))

    -- the number of a reachable node is reachable, and a reachable number is that of a reachable node
    pub number_reached : {u : Node} → Reachable (step A) (start_node A) u → Reachable (step_by y A) (start_number y A) (number y u)
    number_reached = reach_named (step A) (step_by y A) (number y) (λ u. is_node A u ≡ true) keeps same_step (start_node A) begins

    pub reached_number : {x : ℕ} → Reachable (step_by y A) (start_number y A) x
        → Source (step A) (number y) (λ u. is_node A u ≡ true) (start_node A) x
    reached_number = reach_back (step A) (step_by y A) (number y) (λ u. is_node A u ≡ true) keeps same_step (start_node A) begins

    pub reached_is_number : {x : ℕ} → Reachable (step_by y A) (start_number y A) x → is_number y A x ≡ true
    reached_is_number r = let s = reached_number r in subst (λ (z : ℕ). is_number y A z ≡ true) s.is (number_there s.node s.holds)

    -- walks from a node
    pub number_walk : {u v : Node} {l : List ℕ} {c : ℤ} {r : ℕ} → is_node A u ≡ true → Walk (step A) u l v c r → Walk (step_by y A) (number y u) l (number y v) c r
    number_walk = walk_named (step A) (step_by y A) (number y) (λ u. is_node A u ≡ true) keeps same_step

    pub walk_number : {u : Node} {l : List ℕ} {x : ℕ} {c : ℤ} {r : ℕ} → is_node A u ≡ true → Walk (step_by y A) (number y u) l x c r
        → Back (step A) (number y) (λ u. is_node A u ≡ true) u l x c r
    walk_number = walk_back (step A) (step_by y A) (number y) (λ u. is_node A u ≡ true) keeps same_step

    pub number_cycle : {c : ℤ} {r : ℕ} → ReachableCycle (step A) (start_node A) c r → ReachableCycle (step_by y A) (start_number y A) c r
    number_cycle = cycle_named (step A) (step_by y A) (number y) (λ u. is_node A u ≡ true) keeps same_step (start_node A) begins

    pub cycle_number : {c : ℤ} {r : ℕ} → ReachableCycle (step_by y A) (start_number y A) c r → ReachableCycle (step A) (start_node A) c r
    cycle_number = cycle_back (step A) (step_by y A) (number y) (λ u. is_node A u ≡ true) keeps same_step (start_node A) begins apart

    -- the potential of a node's number is the node's
    pub potential_number : (p : ℤ) (q : ℕ) {u : Node} {z : ℤ} → is_node A u ≡ true → Potential (step_by y A) (start_number y A) p q (number y u) z
        → Potential (step A) (start_node A) p q u z
    potential_number = potential_back (step A) (step_by y A) (number y) (λ u. is_node A u ≡ true) keeps same_step (start_node A) begins apart

    -- ---- the comparison theorem, with potentials on numbers

    module _ (p : ℤ) (q : ℕ) (π : ℕ → ℤ) (ok : Feasible (step_by y A) (start_number y A) p q π) where
      pub node_feasible : Feasible (step A) (start_node A) p q (λ u. π (number y u))
      node_feasible = feasible_back (step A) (step_by y A) (number y) (λ u. is_node A u ≡ true) keeps same_step (start_node A) begins p q π ok

      -- demand 3
      pub no_loop_below_numbers : NoLoopBelow A p q
      no_loop_below_numbers = no_loop_below A sound.few_edges p q (λ u. π (number y u)) node_feasible

      -- and for every run, whether it comes back or not
      pub no_run_below_numbers : (m : ℤ) → ((x : ℕ) → Reachable (step_by y A) (start_number y A) x → m ≤ℤ π x) → π (start_number y A) ≡ pos 0
          → NoRunBelow A p q m
      no_run_below_numbers m least start =
          no_run_below A sound.few_edges p q (λ u. π (number y u)) node_feasible m (λ u r. least (number y u) (number_reached r)) start
