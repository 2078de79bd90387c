-- Node numbers of each edition and what a sheet's bytes mean, by computation. A number that comes to stand in a definition gets a row here.
use mathlib.Core.Path.{◌≡◌, refl}
use mathlib.Core.Bool.{true, false}
use mathlib.Core.List.{List, [], ◌∷◌, map, zip_with}
use mathlib.Core.Option
use mathlib.Core.Option.{Option, none, some}
use Prim.Native.Nat.{ℕ, ◌+◌, ◌*◌, ◌^◌}
use lib.IntN.{pos}
use lib.ListN.{set}
use Rattle.automaton.specs.Automaton.{Automaton, in_bounds, in_guards}
use Rattle.automaton.specs.Tests.{every}
use Rattle.automaton.specs.Ranks.{rank, close_up, mask, largest}
use Rattle.automaton.specs.Priced.{Priced}
use Rattle.automaton.specs.Nodes.{Node, is_node}
use Rattle.automaton.specs.Steps.{edge_step, unit_step, move_step, step}
use Rattle.sheet.specs.Bytes.{signed_of}
use Rattle.sheet.specs.Maps.{place_of}
use Rattle.sheet.specs.Records.{field_place, value_at, field_at, record_length, record_at}
use Rattle.nodes.specs.Numbers.{layout_at, clocks_from, number, list_from, node_of, is_number, step_by}
use Rattle.nodes.specs.Meaning.{meaning, layout_of}

-- ---- numbers: a node of location 3 with three clocks, and one of location 9 with four
abbrev three : Node
three = record { location = 3; region = record { whole = 2 ∷ 5 ∷ 1 ∷ []; class = 1 ∷ 0 ∷ 2 ∷ [] }; corner = 1 }

abbrev four : Node
four = record { location = 9; region = record { whole = 2 ∷ 5 ∷ 1 ∷ 12 ∷ []; class = 1 ∷ 0 ∷ 2 ∷ 4 ∷ [] }; corner = 4 }

-- "corner in bits 0 and 1; clock j has its class in bits 2 + 6j and 3 + 6j and h in the four bits above; location in bits 20 to 23"
first_number : number (layout_at 1) three ≡ 1 + 1 * 2 ^ 2 + 2 * 2 ^ 4 + 0 * 2 ^ 8 + 5 * 2 ^ 10 + 2 * 2 ^ 14 + 1 * 2 ^ 16 + 3 * 2 ^ 20
unfolding number clocks_from
first_number = refl

-- "corner in bits 0 to 2, clock j with its class in the three bits from 3 + 7j and h in the four above, location in bits 31 to 34"
second_number : number (layout_at 2) four ≡ 4 + 1 * 2 ^ 3 + 2 * 2 ^ 6 + 0 * 2 ^ 10 + 5 * 2 ^ 13 + 2 * 2 ^ 17 + 1 * 2 ^ 20 + 4 * 2 ^ 24 + 12 * 2 ^ 27 + 9 * 2 ^ 31
unfolding number clocks_from
second_number = refl

-- and back
first_node : node_of (layout_at 1) 3 (number (layout_at 1) three) ≡ three
unfolding number clocks_from node_of list_from
first_node = refl

second_node : node_of (layout_at 2) 4 (number (layout_at 2) four) ≡ four
unfolding number clocks_from node_of list_from
second_node = refl

-- ---- Bench
abbrev bench : List ℕ
bench = 1 ∷ 1 ∷ 1 ∷ 1 ∷ 5 ∷ 1 ∷ 0 ∷ 5 ∷ 15 ∷ 0 ∷ 0 ∷ 0 ∷ 5 ∷ 0 ∷ 2 ∷ 0 ∷ 1 ∷ 2 ∷ []

abbrev second : List ℕ
second = set bench 0 2

-- "One location, clock ≤ 2, rate 1; one edge, clock ≥ 1, reset, cost 5, reward 2"
module _ where
  abbrev A : Automaton
  A = meaning bench

  counts : A.locations ∷ A.clocks ∷ A.edges ∷ [] ≡ 1 ∷ 1 ∷ 1 ∷ []
  unfolding meaning
  counts = refl

  bytes : A.bound 0 0 ∷ A.reward_rate 0 ∷ A.source 0 ∷ A.target 0 ∷ A.lower 0 0 ∷ A.reward 0 ∷ [] ≡ 5 ∷ 0 ∷ 0 ∷ 0 ∷ 2 ∷ 2 ∷ []
  unfolding meaning field_at value_at field_place place_of record_at record_length
  bytes = refl

  costs : A.cost_rate 0 ∷ A.cost 0 ∷ [] ≡ pos 1 ∷ pos 5 ∷ []
  unfolding meaning field_at value_at field_place place_of record_at record_length signed_of
  costs = refl

  no_upper : A.upper 0 0 ≡ none
  unfolding meaning field_at value_at field_place place_of record_at record_length
  no_upper = refl

  resets : map (A.reset 0) (0 ∷ 1 ∷ []) ≡ true ∷ false ∷ []
  unfolding meaning field_at value_at field_place place_of record_at record_length
  resets = refl

-- two locations without prices, and an edge from the first to the second: an absent price is 0
abbrev two : List ℕ
two = 1 ∷ 2 ∷ 1 ∷ 1 ∷ 4 ∷ 5 ∷ 4 ∷ 5 ∷ 0 ∷ 0 ∷ 0 ∷ 1 ∷ []

ends : (meaning two).source 0 ∷ (meaning two).target 0 ∷ [] ≡ 0 ∷ 1 ∷ []
unfolding meaning field_at value_at field_place place_of record_at record_length
ends = refl

no_prices : (meaning two).cost_rate 1 ∷ (meaning two).cost 0 ∷ [] ≡ pos 0 ∷ pos 0 ∷ []
unfolding meaning field_at value_at field_place place_of record_at record_length signed_of
no_prices = refl

-- 15: the start; the corners of the region between 1 and 2, of which there is no third; clock 2, which is the bound, and beyond it; a location and a
-- clock that the sheet does not have; and a bit behind the location
numbers : map (is_number (layout_of bench) (meaning bench)) (0 ∷ 20 ∷ 21 ∷ 22 ∷ 32 ∷ 36 ∷ 48 ∷ 2 ^ 20 ∷ 2 ^ 8 ∷ 2 ^ 24 ∷ [])
    ≡ true ∷ true ∷ true ∷ false ∷ true ∷ false ∷ false ∷ false ∷ false ∷ false ∷ []
unfolding zip_with is_number is_node number clocks_from node_of list_from in_bounds every rank largest meaning field_at value_at field_place place_of record_at record_length
numbers = refl

-- in edition 2 the corners of the region between 1 and 2, and of no region 3; clock 2, and beyond it; a bit behind the location
second_numbers : map (is_number (layout_of second) (meaning second)) (0 ∷ 72 ∷ 73 ∷ 74 ∷ 3 ∷ 128 ∷ 136 ∷ 2 ^ 31 ∷ 2 ^ 35 ∷ [])
    ≡ true ∷ true ∷ true ∷ false ∷ false ∷ true ∷ false ∷ false ∷ false ∷ []
unfolding zip_with is_number is_node number clocks_from node_of list_from in_bounds every rank largest meaning field_at value_at field_place place_of record_at record_length
second_numbers = refl

-- 16, in each edition: a move from the start, a unit from corner 1 between 0 and 1, the edge at 1, and no edge at the start
abbrev where_to : Option (Priced ℕ) → Option ℕ
where_to = Option.map (λ v. v.to)

first_steps : where_to (step_by (layout_of bench) (meaning bench) 0 33) ∷ where_to (step_by (layout_of bench) (meaning bench) 5 32)
    ∷ where_to (step_by (layout_of bench) (meaning bench) 16 0) ∷ where_to (step_by (layout_of bench) (meaning bench) 0 0) ∷ []
    ≡ some 5 ∷ some 4 ∷ some 0 ∷ none ∷ []
unfolding zip_with step_by step move_step unit_step edge_step number clocks_from node_of list_from in_bounds in_guards every rank close_up mask largest meaning field_at value_at field_place place_of record_at record_length signed_of
first_steps = refl

second_steps : where_to (step_by (layout_of second) (meaning second) 0 33) ∷ where_to (step_by (layout_of second) (meaning second) 9 32)
    ∷ where_to (step_by (layout_of second) (meaning second) 64 0) ∷ where_to (step_by (layout_of second) (meaning second) 0 0) ∷ []
    ≡ some 9 ∷ some 8 ∷ some 0 ∷ none ∷ []
unfolding zip_with step_by step move_step unit_step edge_step number clocks_from node_of list_from in_bounds in_guards every rank close_up mask largest meaning field_at value_at field_place place_of record_at record_length signed_of
second_steps = refl
