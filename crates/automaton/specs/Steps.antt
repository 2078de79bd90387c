-- The steps of nodes: the corner-point abstraction (000, section 4.2).
use Rattle.std.specs.Prelude.{Bool, cond, ◌&&◌, not, ℕ, suc, leb, ltb, eqb}
use mathlib.Core.List.{map, zip_with}
use Rattle.std.proofs.Math.Option.{Option, none}
use Rattle.automaton.specs.Tests.{only, one_more_if, occurs}
use Rattle.automaton.specs.Bounds.{upper_holds, lower_holds}
use Rattle.automaton.specs.Ranks.{rank, close_up, mask}
use Rattle.automaton.specs.Automaton.{Automaton, in_guards}
use Rattle.automaton.specs.Priced.{Priced, free}
use Rattle.automaton.specs.Nodes.{Node, intervals, inside, largest_class}

-- "masked clocks get h 0 and class 0, emptied ranks close up, the corner point has those clocks at 0 and the others as before":
-- the new corner is how many ranks up to the old one are still used
abbrev pub edge_to : Automaton → Node → ℕ → Node
edge_to A u e = record {
  location = A.target e;
  region = record { whole = mask (A.reset e) u.region.whole; class = close_up (mask (A.reset e) u.region.class) };
  corner = rank (mask (A.reset e) u.region.class) u.corner;
}

-- "Edge (source here, guards hold in the whole region)"; "The new region must lie within the target's bounds."
abbrev pub edge_allowed : Automaton → Node → ℕ → Bool
edge_allowed A u e = ltb e A.edges && (eqb (A.source e) u.location
    && (in_guards lower_holds upper_holds A e (intervals u.region) && inside A (edge_to A u e)))

-- "Costs and earns the edge's prices."
unfoldable pub edge_step : Automaton → Node → ℕ → Option (Priced Node)
edge_step A u e = only (edge_allowed A u e) (record { to = edge_to A u e; cost = A.cost e; reward = A.reward e })

-- does some clock have class 0?
abbrev pub some_whole : Node → Bool
some_whole u = occurs 0 u.region.class

-- "Unit: no clock has class 0 and i = g; then i becomes 0. Costs and earns the location's rates."
abbrev pub unit_to : Node → Node
unit_to u = record { location = u.location; region = u.region; corner = 0 }

unfoldable pub unit_step : Automaton → Node → Option (Priced Node)
unit_step A u = only (not (some_whole u) && eqb u.corner (largest_class u))
    (record { to = unit_to u; cost = A.cost_rate u.location; reward = A.reward_rate u.location })

-- "if some clock has class 0, all classes rise by one, and i rises by one"
abbrev pub rise_to : Node → Node
rise_to u = record {
  location = u.location;
  region = record { whole = u.region.whole; class = map suc u.region.class };
  corner = suc u.corner;
}

-- the clocks of class g come to their next whole number
abbrev pub carry_whole : ℕ → ℕ → ℕ → ℕ
carry_whole g h k = one_more_if (eqb k g) h

abbrev pub carry_class : ℕ → ℕ → ℕ
carry_class g k = cond (eqb k g) 0 k

-- "Otherwise i < g is needed, and the clocks of class g get h + 1 and class 0."
abbrev pub carry_to : Node → Node
carry_to u = record {
  location = u.location;
  region = record {
    whole = zip_with (carry_whole (largest_class u)) u.region.whole u.region.class;
    class = map (carry_class (largest_class u)) u.region.class;
  };
  corner = u.corner;
}

-- "Move, free"; "The new region must lie within the location's bounds."
unfoldable pub move_step : Automaton → Node → Option (Priced Node)
move_step A u = cond (some_whole u) (only (inside A (rise_to u)) (free (rise_to u)))
    (only (ltb u.corner (largest_class u) && inside A (carry_to u)) (free (carry_to u)))

-- "Codes 0 to 31 are edges, 32 is one unit of delay, 33 is a region move."
unfoldable pub step : Automaton → Node → ℕ → Option (Priced Node)
step A u code = cond (leb code 31) (edge_step A u code) (cond (eqb code 32) (unit_step A u) (cond (eqb code 33) (move_step A u) none))
