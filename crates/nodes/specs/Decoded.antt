-- The automaton that a decoded sheet means, whatever stands in it, and the ones of its records.
use Rattle.std.specs.Prelude.{not, ℕ, min, eqb, get_or}
use Rattle.std.proofs.Math.Option.{Option}
use Rattle.automaton.specs.Tests.{only}
use Rattle.automaton.specs.Automaton.{Automaton}
use Rattle.sheet.specs.Maps.{stands}
use Rattle.sheet.specs.Fields.{edition_at}
use Rattle.sheet.specs.Decoded.{blank_location, blank_edge}
use Rattle.sheet.specs.declared.Location.{Location}
use Rattle.sheet.specs.declared.Edge.{Edge}
use Rattle.sheet.specs.declared.Sheet.{Sheet}
use Rattle.nodes.specs.Numbers.{Layout, layout_at}

-- the clocks of a sheet, or the most that its edition has
abbrev pub few_clocks : ℕ → ℕ → ℕ
few_clocks edition k = min k (edition_at edition).clocks

-- where the node numbers of a decoded sheet have their parts
abbrev pub layout_in : Sheet → Layout
layout_in s = layout_at s.edition

-- an absent upper guard is 255
abbrev pub guard_of : ℕ → Option ℕ
guard_of u = only (not (eqb u 255)) u

abbrev pub bound_in : Location → ℕ → ℕ
bound_in l j = get_or l.upper j 0

abbrev pub lower_in : Edge → ℕ → ℕ
lower_in e j = get_or e.lower j 0

abbrev pub upper_in : Edge → ℕ → Option ℕ
upper_in e j = guard_of (get_or e.upper j 0)

abbrev pub location_in : Sheet → ℕ → Location
location_in s l = get_or s.location l blank_location

abbrev pub edge_in : Sheet → ℕ → Edge
edge_in s e = get_or s.edge e blank_edge

unfoldable pub decoded_meaning : Sheet → Automaton
decoded_meaning s = record {
  locations = s.locations;
  clocks = few_clocks s.edition s.clocks;
  edges = s.edges;
  bound = λ l. bound_in (location_in s l);
  cost_rate = λ l. (location_in s l).cost;
  reward_rate = λ l. (location_in s l).reward;
  source = λ e. (edge_in s e).source;
  target = λ e. (edge_in s e).target;
  lower = λ e. lower_in (edge_in s e);
  upper = λ e. upper_in (edge_in s e);
  reset = λ e. stands (edge_in s e).reset;
  cost = λ e. (edge_in s e).cost;
  reward = λ e. (edge_in s e).reward;
}

-- The automaton of one edge's record and one location's: one edge, by the code 0, and the same record at each location that four bits can tell.
-- A step needs no more of a sheet s. For an example, let its edge 7 lead from location 2 to location 5. That step, code 7 at a node of location 2,
-- reads the record of edge 7 and, for the bounds where it lands, that of location 5: it is the step with code 0 of
-- `alone s.edition s.clocks (edge_in s 7) (location_in s 5)`. A delay in location 2, code 32 or 33, reads that location's record only: it is the step with
-- the same code of `alone s.edition s.clocks e (location_in s 2)`, whatever e is. That it steps as the sheet does is proved for every sheet, number and
-- code in DecodedLaws.antt: edge_alone_number, delay_alone_number, and number_alone for question 15.
unfoldable pub alone : ℕ → ℕ → Edge → Location → Automaton
alone edition k edge l = record {
  locations = 16;
  clocks = few_clocks edition k;
  edges = 1;
  bound = λ i. bound_in l;
  cost_rate = λ i. l.cost;
  reward_rate = λ i. l.reward;
  source = λ i. edge.source;
  target = λ i. edge.target;
  lower = λ i. lower_in edge;
  upper = λ i. upper_in edge;
  reset = λ i. stands edge.reset;
  cost = λ i. edge.cost;
  reward = λ i. edge.reward;
}
