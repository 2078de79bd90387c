-- An accepted plan speaks of nodes: numbers name them one to one, and steps, walks, cycles and potentials on numbers are those on nodes.
use mathlib.Core.Path.{◌≡◌, sym, subst}
use mathlib.Core.List.{List}
use Prim.Native.Nat.{ℕ, ◌+◌, ◌<◌}
use lib.Seq.{slice}
use Rattle.automaton.specs.Automaton.{Automaton}
use Rattle.automaton.specs.Nodes.{Node, Sound, start_node}
use Rattle.automaton.specs.Steps.{step}
use Rattle.automaton.specs.Walks.{Walk}
use Rattle.automaton.specs.Weights.{Potential}
use Rattle.automaton.specs.Ratios.{LeastRatio}
use Rattle.automaton.proofs.Reached.{start_is_node}
use Rattle.sheet.specs.Questions.{check_of}
use Rattle.nodes.specs.Numbers.{Layout, number}
use Rattle.nodes.specs.Meaning.{meaning, layout_of}
use Rattle.nodes.proofs.CheckedLaws.{sound, room}
use Rattle.nodes.proofs.NumberLaws.{Room, apart, number_walk, walk_number, number_reached, reached_number, number_cycle, cycle_number, potential_number}
use Rattle.walks.specs.Walk.{atℤ}
use Rattle.contract.specs.Accepted.{Accepted, Lasso}
use Rattle.contract.specs.Plan.{Answer, Buffers, Planned, step_on, start_of}
use Rattle.contract.specs.OnNodes.{EntryOfNode, OnNodes}
use Rattle.contract.proofs.JustWhen.{on_its_condition}

module _ {bytes : List ℕ} {before after : Buffers} {a : Answer} (h : Planned bytes before after a) (ok : a.refusal ≡ 0) where
  abbrev A : Automaton
  A = meaning bytes

  abbrev y : Layout
  y = layout_of bytes

  pub passed : check_of bytes ≡ 0
  passed = ((on_its_condition bytes before a.refusal h.judged).just_0.0 ok).0.1

  has_room : Room y A
  has_room = room bytes passed

  is_sound : Sound A
  is_sound = sound bytes passed

  accepted : Accepted (step_on bytes) (start_of bytes) a.p a.q a.n a.s a.m a.units a.cost a.reward
      after.nodes after.potentials after.steps
  accepted = h.accepted ok

  least : LeastRatio (step A) (start_node A) a.p a.q
  least = let l = accepted.ratio in record {
    lowest = l.lowest;
    cost = l.cost;
    reward = l.reward;
    cycle = cycle_number y A has_room is_sound l.cycle;
    earns = l.earns;
    exact = l.exact;
    none_below = λ c r e o. l.none_below c r e (number_cycle y A has_room is_sound o);
  }

  entry : (i : ℕ) → i < a.n → EntryOfNode bytes a after i
  entry i l = let s = reached_number y A has_room is_sound (accepted.node_list.reachable i l) in record {
    node = s.node;
    reached = s.reach;
    is = s.is;
    potential = potential_number y A has_room is_sound a.p a.q s.holds
        (subst (λ (x : ℕ). Potential (step_on bytes) (start_of bytes) a.p a.q x (atℤ after.potentials i)) (sym s.is)
        (accepted.potential_list.least i l));
  }

  lasso : Lasso (step A) (start_node A) a.p a.q a.s a.m after.steps
  lasso =
      let l = accepted.lasso in
      let begins = start_is_node A is_sound in
      let stem = walk_number y A has_room is_sound begins l.stem in
      let back = walk_number y A has_room is_sound stem.holds
      (subst (λ (x : ℕ). Walk (step_on bytes) x (slice a.s (a.s + a.m) after.steps) x l.cost l.reward) (sym stem.is) l.cycle) in
      record {
        node = stem.to;
        stem_cost = l.stem_cost;
        stem_reward = l.stem_reward;
        stem = stem.walk;
        some_step = l.some_step;
        cost = l.cost;
        reward = l.reward;
        cycle = subst (λ (u : Node). Walk (step A) stem.to (slice a.s (a.s + a.m) after.steps) u l.cost l.reward)
            (apart y A has_room back.to stem.to back.holds stem.holds back.is) back.walk;
        simple = λ i j h k u c d r t v w. l.simple i j h k (number y u) c d r t
            (number_walk y A has_room is_sound begins v) (number_walk y A has_room is_sound begins w);
        earns = l.earns;
        exact = l.exact;
        rest = l.rest;
      }

  pub on_nodes : OnNodes bytes a after
  unfolding lasso accepted
  on_nodes = record {
    ratio = least;
    entry = entry;
    lasso = lasso;
    sums = record { units_are = accepted.sums.units_are; cost_is = accepted.sums.cost_is; reward_is = accepted.sums.reward_is };
    complete = λ u r. accepted.node_list.complete (number y u) (number_reached y A has_room is_sound r);
  }
