-- Each question of the check at its border, and what is read, by computation. A number that comes to stand in a definition gets a row here.
use mathlib.Core.Path.{◌≡◌, refl}
use mathlib.Core.List.{List, [], ◌∷◌, ◌++◌, map}
use Prim.Native.Nat.{ℕ}
use lib.IntN.{pos, negsuc}
use lib.ListN.{get_or, set, take, replicate}
use Rattle.sheet.specs.Bytes.{signed_of}
use Rattle.sheet.specs.Maps.{place_of}
use Rattle.sheet.specs.Fields.{field_of, permitted_field, cost_in_range, in_range}
use Rattle.sheet.specs.Records.{field_place, value_at, field_at, record_length, record_at}
use Rattle.sheet.specs.Questions.{each, first_of, bit_good, map_refusal, field_good, fields_refusal, bounds_refusal, ends_refusal, location_refusal, edge_refusal}
use Rattle.sheet.specs.Questions.{same_record, distinct_refusal, start_refusal, rest_refusal, records_refusal, check_of}
use Rattle.sheet.specs.declared.Edge.{Edge}
use Rattle.sheet.specs.Decoded.{filled, clock_bytes, locations_of, edges_of, blank_location, blank_edge, read_of}

-- "Bench, a sheet of eighteen bytes": four of the sheet, four of its location and ten of its edge
abbrev location : List ℕ
location = 5 ∷ 1 ∷ 0 ∷ 5 ∷ []

abbrev edge : List ℕ
edge = 15 ∷ 0 ∷ 0 ∷ 0 ∷ 5 ∷ 0 ∷ 2 ∷ 0 ∷ 1 ∷ 2 ∷ []

abbrev bench : List ℕ
bench = 1 ∷ 1 ∷ 1 ∷ 1 ∷ location ++ edge

-- with the bytes of the location's cost, and of the edge's cost and reward
abbrev with_rate : ℕ → ℕ → List ℕ
with_rate low high = set (set bench 5 low) 6 high

abbrev with_cost : ℕ → ℕ → List ℕ
with_cost low high = set (set bench 12 low) 13 high

abbrev with_reward : ℕ → ℕ → List ℕ
with_reward low high = set (set bench 14 low) 15 high

-- with an upper guard of clock 0: bit 6 in edition 1, and bit 7 in edition 2
abbrev with_upper : ℕ → List ℕ
with_upper u = set bench 8 79 ++ u ∷ []

abbrev second : List ℕ → List ℕ
second s = set s 0 2

-- two locations, and an edge from the one to the other
abbrev two : ℕ → ℕ → List ℕ
two source target = 1 ∷ 2 ∷ 1 ∷ 1 ∷ location ++ location ++ set (set edge 2 source) 3 target

record Row : Type 0 where
  bytes : List ℕ
  number : ℕ

abbrev row : List ℕ → ℕ → Row
row s r = record { bytes = s; number = r }

abbrev rows : List Row
rows =
    row bench 0
    -- 2: three bytes and 657, four and 656
    ∷ row (1 ∷ 1 ∷ 1 ∷ []) 2 ∷ row (replicate 657 0) 2 ∷ row (replicate 4 0) 3 ∷ row (replicate 656 0) 3
    -- 3: editions 0 and 3, and 2
    ∷ row (set bench 0 0) 3 ∷ row (set bench 0 3) 3 ∷ row (second bench) 0
    -- 4: no location and 13, and 12, of which the second is no record; no clock; four in edition 1, and five in edition 2; 33 edges, and none
    ∷ row (set bench 1 0) 4 ∷ row (set bench 1 13) 4 ∷ row (set bench 1 12) 6
    ∷ row (set bench 2 0) 4 ∷ row (set bench 2 4) 4 ∷ row (set bench 2 3) 7 ∷ row (set (second bench) 2 5) 4 ∷ row (set (second bench) 2 4) 7
    ∷ row (set bench 3 33) 4 ∷ row (set bench 3 32) 5 ∷ row (1 ∷ 1 ∷ 1 ∷ 0 ∷ location) 0
    -- 5: no map, no bound, no lower guard
    ∷ row (take 4 bench) 5 ∷ row (take 7 bench) 5 ∷ row (take 17 bench) 5
    -- half a map, and a whole one, with the bit of a clock too many; a map of a location and nothing else
    ∷ row (take 9 (set bench 8 31)) 5 ∷ row (take 10 (set bench 8 31)) 6 ∷ row (1 ∷ 1 ∷ 1 ∷ 0 ∷ 0 ∷ []) 7
    -- 6, asked between them: the bit of clock 1, of an edge the bit behind those of its edition, and its last bit
    ∷ row (set (take 7 bench) 4 13) 6 ∷ row (set bench 8 31) 6 ∷ row (set bench 9 2) 6 ∷ row (set (second bench) 9 8) 6 ∷ row (set bench 9 128) 6
    -- 7, before 8: no bound and a cost of 0
    ∷ row (1 ∷ 1 ∷ 1 ∷ 0 ∷ 1 ∷ 0 ∷ 0 ∷ []) 7
    -- 8: costs of 0, 10,000, 10,001, −10,000 and −10,001
    ∷ row (with_rate 0 0) 8 ∷ row (with_rate 16 39) 0 ∷ row (with_rate 17 39) 8 ∷ row (with_cost 240 216) 0 ∷ row (with_cost 239 216) 8
    -- rewards of 0, 1, 10,000 and 10,001
    ∷ row (with_reward 0 0) 8 ∷ row (with_reward 1 0) 0 ∷ row (with_reward 16 39) 0 ∷ row (with_reward 17 39) 8
    -- masks of 0, and of clock 1 where there is none; upper guards of 0, 25 and 26; bounds of 25 and 26; lower guards of 0, 1, 25 and 26
    ∷ row (set bench 16 0) 8 ∷ row (set bench 16 2) 8
    ∷ row (with_upper 0) 0 ∷ row (with_upper 25) 0 ∷ row (with_upper 26) 8 ∷ row (set bench 7 25) 0 ∷ row (set bench 7 26) 8
    ∷ row (set bench 17 0) 8 ∷ row (set bench 17 1) 0 ∷ row (set bench 17 25) 0 ∷ row (set bench 17 26) 8
    -- 9: location 2 of two, as a source and as a target; after 8
    ∷ row (two 1 1) 0 ∷ row (two 2 1) 9 ∷ row (two 1 2) 9 ∷ row (set (with_cost 0 0) 11 1) 8
    -- 10: a byte more; before 17
    ∷ row (bench ++ 0 ∷ []) 10 ∷ row (set (bench ++ edge ++ 0 ∷ []) 3 2) 10
    -- 17: an edge entered twice, and with another reward; before 11
    ∷ row (set (bench ++ edge) 3 2) 17 ∷ row (set (bench ++ set edge 6 3) 3 2) 0 ∷ row (set (set (bench ++ edge) 3 2) 7 0) 17
    -- 11: clock < 0, and clock ≤ 0; of clock 1, and in location 1, where it is not asked
    ∷ row (set bench 7 0) 11 ∷ row (set bench 7 1) 0 ∷ row (1 ∷ 1 ∷ 2 ∷ 0 ∷ 12 ∷ 5 ∷ 0 ∷ []) 11 ∷ row (set (two 0 0) 11 0) 0
    ∷ []

numbers : map (λ r. check_of r.bytes) rows ≡ map (λ r. r.number) rows
unfolding check_of records_refusal first_of location_refusal edge_refusal map_refusal bounds_refusal fields_refusal ends_refusal rest_refusal distinct_refusal same_record start_refusal field_good each bit_good permitted_field field_of place_of record_length record_at field_place value_at field_at in_range cost_in_range signed_of
numbers = refl

-- ---- what is read: 0 and 255 where no guard stands, and signed costs
abbrev edge_read : List ℕ → Edge
edge_read s = get_or (read_of s).edge 0 blank_edge

-- four clocks, and an edge with bit 6: in edition 2 the lower guard of clock 3
abbrev four : List ℕ
four = 2 ∷ 1 ∷ 4 ∷ 1 ∷ 61 ∷ 1 ∷ 0 ∷ 5 ∷ 7 ∷ 9 ∷ 11 ∷ 79 ∷ 0 ∷ 0 ∷ 0 ∷ 5 ∷ 0 ∷ 2 ∷ 0 ∷ 15 ∷ 2 ∷ 4 ∷ []

read_lower : map (λ s. (edge_read s).lower) (bench ∷ four ∷ []) ≡ (2 ∷ 0 ∷ 0 ∷ 0 ∷ []) ∷ (2 ∷ 0 ∷ 0 ∷ 4 ∷ []) ∷ []
unfolding read_of locations_of edges_of clock_bytes filled check_of records_refusal first_of location_refusal edge_refusal map_refusal bounds_refusal fields_refusal ends_refusal rest_refusal distinct_refusal same_record start_refusal field_good each bit_good permitted_field field_of place_of record_length record_at field_place value_at field_at in_range cost_in_range signed_of
read_lower = refl

read_upper : map (λ s. (edge_read s).upper) (bench ∷ with_upper 4 ∷ (set (second bench) 8 143 ++ 4 ∷ []) ∷ [])
    ≡ (255 ∷ 255 ∷ 255 ∷ 255 ∷ []) ∷ (4 ∷ 255 ∷ 255 ∷ 255 ∷ []) ∷ (4 ∷ 255 ∷ 255 ∷ 255 ∷ []) ∷ []
unfolding read_of locations_of edges_of clock_bytes filled check_of records_refusal first_of location_refusal edge_refusal map_refusal bounds_refusal fields_refusal ends_refusal rest_refusal distinct_refusal same_record start_refusal field_good each bit_good permitted_field field_of place_of record_length record_at field_place value_at field_at in_range cost_in_range signed_of
read_upper = refl

read_bounds : map (λ s. (get_or (read_of s).location 0 blank_location).upper) (bench ∷ four ∷ []) ≡ (5 ∷ 0 ∷ 0 ∷ 0 ∷ []) ∷ (5 ∷ 7 ∷ 9 ∷ 11 ∷ []) ∷ []
unfolding read_of locations_of edges_of clock_bytes filled check_of records_refusal first_of location_refusal edge_refusal map_refusal bounds_refusal fields_refusal ends_refusal rest_refusal distinct_refusal same_record start_refusal field_good each bit_good permitted_field field_of place_of record_length record_at field_place value_at field_at in_range cost_in_range signed_of
read_bounds = refl

-- "signed 16-bit"
signed : map signed_of (0 ∷ 32767 ∷ 32768 ∷ 65535 ∷ []) ≡ pos 0 ∷ pos 32767 ∷ negsuc 32767 ∷ negsuc 0 ∷ []
unfolding signed_of
signed = refl

read_prices : map (λ s. (edge_read s).cost) (bench ∷ with_cost 252 255 ∷ []) ≡ pos 5 ∷ negsuc 3 ∷ []
unfolding read_of locations_of edges_of clock_bytes filled check_of records_refusal first_of location_refusal edge_refusal map_refusal bounds_refusal fields_refusal ends_refusal rest_refusal distinct_refusal same_record start_refusal field_good each bit_good permitted_field field_of place_of record_length record_at field_place value_at field_at in_range cost_in_range signed_of
read_prices = refl
