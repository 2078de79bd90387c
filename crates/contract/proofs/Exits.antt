-- One law for each way out of `plan`: what the code has in hand there is the whole contract.
use mathlib.Core.Path.{◌≡◌, refl}
use mathlib.Core.Logic.{◌≢◌}
use mathlib.Core.List.{List}
use mathlib.Core.Option.{Option}
use Prim.Native.Nat.{ℕ, ◌+◌, ◌≤◌, ◌<◌}
use native.Mathlib.Omega.{arith}
use lib.IntN.{ℤ, pos}
use lib.ListN.{length, length-replicate}
use Rattle.automaton.specs.Priced.{Priced}
use Rattle.automaton.specs.Walks.{Reachable, ReachableCycle}
use Rattle.automaton.specs.Weights.{Feasible}
use Rattle.automaton.proofs.Ratios.{least_ratio}
use Rattle.sheet.specs.Questions.{check_of}
use Rattle.nodes.specs.Meaning.{meaning, layout_of}
use Rattle.nodes.proofs.NumberLaws.{no_loop_below_numbers, no_run_below_numbers}
use Rattle.nodes.proofs.CheckedLaws.{sound, room}
use Rattle.walks.specs.Cycles.{EarningArcs, NoneEarns, IdleGainArcs}
use Rattle.contract.specs.Questions.{TooMany, too_many, none_earns, idle_gain, all_yes}
use Rattle.contract.specs.Accepted.{Listed, NodeList, PotentialList, Accepted}
use Rattle.contract.specs.Smallest.{smallest_potential}
use Rattle.contract.specs.Plan.{refused_plan, Buffers, zeros, LongEnough, SameLengths, Passed, step_on, start_of, Judged, too_short, faulty, explored, Planned}
use Rattle.contract.specs.Explored.{Found, Explored, Overfull}
use Rattle.contract.proofs.Checklist.{InHand}
use Rattle.contract.proofs.Counts as Counts
use Rattle.contract.proofs.Arcs as Arcs
use Rattle.contract.proofs.Searches as Searches
use Rattle.contract.proofs.Feasible.{no_idle_gain}
use Rattle.contract.proofs.Lassos as Lassos
use Rattle.contract.proofs.ListedPotentials as Beside
use Rattle.contract.proofs.Accepting as Accepting

same_lengths : (b : Buffers) → SameLengths b b
same_lengths b = record { nodes = refl; potentials = refl; steps = refl }

zero_lengths : (b : Buffers) → SameLengths (zeros b) b
zero_lengths b = record {
  nodes = length-replicate (length b.nodes) 0;
  potentials = length-replicate (length b.potentials) (pos 0);
  steps = length-replicate (length b.steps) 0;
}

-- a short buffer, or a sheet that the check refuses: nothing is written
left_alone : (bytes : List ℕ) (b : Buffers) (r : ℕ) → 0 < r → ¬ Passed bytes b → Judged bytes b r → Planned bytes b b (refused_plan r)
left_alone bytes b r some failed j = record {
  judged = j;
  numbers = λ h. refl;
  kept = λ h. refl;
  cleared = λ h k. absurd (failed h);
  lengths = same_lengths b;
  accepted = λ e. absurd (omega arith);
  no_loop_below = λ e. absurd (omega arith);
  no_run_below = λ e. absurd (omega arith);
}

-- an explored sheet that is refused: every entry is 0
set_to_zero : (bytes : List ℕ) (b : Buffers) (r : ℕ) → 0 < r → Passed bytes b → Judged bytes b r → Planned bytes b (zeros b) (refused_plan r)
set_to_zero bytes b r some passed j = record {
  judged = j;
  numbers = λ h. refl;
  kept = λ h. absurd (h passed);
  cleared = λ h k. refl;
  lengths = zero_lengths b;
  accepted = λ e. absurd (omega arith);
  no_loop_below = λ e. absurd (omega arith);
  no_run_below = λ e. absurd (omega arith);
}

module _ (bytes : List ℕ) (b : Buffers) where
  -- question 1
  pub short_buffer : ¬ LongEnough b → Planned bytes b b (refused_plan 1)
  short_buffer h = left_alone bytes b 1 (omega arith) (λ p. h p.0) (too_short refl h)

  module _ (long : LongEnough b) where
    -- the check
    pub faulty_sheet : check_of bytes ≢ 0 → Planned bytes b b (refused_plan (check_of bytes))
    faulty_sheet h = left_alone bytes b (check_of bytes) (omega arith) (λ p. h p.1) (faulty refl long h)

    module _ (checked : check_of bytes ≡ 0) where
      -- question 12: exploring found more than there is room for
      pub too_many_nodes : (node : List ℕ) → Overfull (step_on bytes) (start_of bytes) node → Planned bytes b (zeros b) (refused_plan 12)
      too_many_nodes node o = set_to_zero bytes b 12 (omega arith) (long, checked)
          (explored long checked (too_many refl (Counts.too_many (step_on bytes) (start_of bytes) node o)))

      module _ (g : Found) (x : Explored (step_on bytes) (start_of bytes) g) where
        few : ¬ TooMany (step_on bytes) (start_of bytes)
        few = Counts.few_listed (step_on bytes) (start_of bytes) g.node g.n x.few (Arcs.listed x)

        -- question 13
        pub no_earning_cycle : NoneEarns g.from g.to g.m g.reward → Planned bytes b (zeros b) (refused_plan 13)
        no_earning_cycle none = set_to_zero bytes b 13 (omega arith) (long, checked)
            (explored long checked (none_earns refl few (Searches.none_earns x none)))

        -- question 14
        pub idle_cycle_gains : EarningArcs g.from g.to g.m g.reward → IdleGainArcs g.from g.to g.m g.cost g.reward
            → Planned bytes b (zeros b) (refused_plan 14)
        idle_cycle_gains e o = set_to_zero bytes b 14 (omega arith) (long, checked)
            (explored long checked (idle_gain refl few (Searches.earning x e) (Searches.idle_gain x o)))

-- accepted
module _ (bytes : List ℕ) (before after : Buffers) (g : Found) (p : ℤ) (q : ℕ) (D : List ℤ) (order stem cycle : List ℕ)
    (h : InHand bytes before after g p q D order stem cycle) where
  abbrev step : ℕ → ℕ → Option (Priced ℕ)
  step = step_on bytes

  abbrev start : ℕ
  start = start_of bytes

  abbrev x : Explored step start g
  x = h.explored

  reachable_cycle : ReachableCycle step start (Arcs.cost_of g cycle) (Arcs.reward_of g cycle)
  reachable_cycle = Arcs.cycle_steps x h.lasso.hub cycle
      (record { path = stem; walk = h.lasso.stem }) (record { some = h.lasso.some; walk = h.lasso.cycle })

  short : length stem + length cycle ≤ g.n
  short = Lassos.short x stem cycle h.lasso

  complete : (z : ℕ) → Reachable step start z → Listed after.nodes g.n z
  complete = Accepting.complete x order after.nodes h.sorted

  node_list : NodeList step start g.n after.nodes
  node_list = Accepting.node_list x order after.nodes h.sorted h.nodes_rest

  potential_list : PotentialList step start p q g.n after.nodes after.potentials
  potential_list = Accepting.potential_list x p q D h.potentials order after.nodes h.sorted after.potentials h.permuted h.potentials_rest

  -- the potential of a number
  abbrev π : ℕ → ℤ
  π = Beside.beside after.nodes after.potentials

  feasible : Feasible step start p q π
  feasible = Beside.feasible complete potential_list

  potentials_room : g.n ≤ length after.potentials
  potentials_room = omega (arith, x.few, h.long.potentials, h.lengths.potentials)

  steps_room : length stem + length cycle ≤ length after.steps
  steps_room = omega (arith, short, x.few, h.long.steps, h.lengths.steps)

  plan_accepted : Accepted step start p q g.n (length stem) (length cycle) (Arcs.units_over g cycle) (Arcs.cost_of g cycle) (Arcs.reward_of g cycle)
      after.nodes after.potentials after.steps
  plan_accepted = record {
    ratio = least_ratio step start p q π feasible h.lowest (Arcs.cost_of g cycle) (Arcs.reward_of g cycle) reachable_cycle h.earns h.exact;
    node_list = node_list;
    potential_list = potential_list;
    lasso = Lassos.lasso_steps x stem cycle h.lasso after.steps steps_room h.codes p q h.earns h.exact h.steps_rest;
    sums = Lassos.lasso_sums x stem cycle h.lasso after.steps steps_room h.codes p q h.earns h.exact h.steps_rest;
    short = short;
  }

  pub accepted : Planned bytes before after (record {
    refusal = 0;
    p = p;
    q = q;
    n = g.n;
    s = length stem;
    m = length cycle;
    units = Arcs.units_over g cycle;
    cost = Arcs.cost_of g cycle;
    reward = Arcs.reward_of g cycle;
  })
  accepted = record {
    judged = explored h.long h.checked (all_yes refl
        (Counts.few_listed step start g.node g.n x.few (Arcs.listed x))
        (record { cost = Arcs.cost_of g cycle; reward = Arcs.reward_of g cycle; cycle = reachable_cycle; earns = h.earns })
        (no_idle_gain step start p q h.lowest.positive π feasible));
    numbers = λ k. absurd (omega arith);
    kept = λ k. absurd (k (h.long, h.checked));
    cleared = λ k l. absurd (omega arith);
    lengths = h.lengths;
    accepted = λ e. plan_accepted;
    no_loop_below = λ e. no_loop_below_numbers (layout_of bytes) (meaning bytes) (room bytes h.checked) (sound bytes h.checked) p q π feasible;
    no_run_below = λ e. no_run_below_numbers (layout_of bytes) (meaning bytes) (room bytes h.checked) (sound bytes h.checked) p q π feasible
        (smallest_potential g.n after.potentials) (Beside.smallest_below complete potential_list potentials_room)
        (Beside.start_zero complete potential_list);
  }
