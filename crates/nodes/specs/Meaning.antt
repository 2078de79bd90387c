-- The automaton that the bytes of a sheet mean, by field access.
use Rattle.std.specs.Prelude.{List, ℕ, ◌+◌}
use Rattle.std.proofs.Math.Option.{get_or}
use Rattle.automaton.specs.Automaton.{Automaton}
use Rattle.sheet.specs.Bytes.{byte_at, signed_of}
use Rattle.sheet.specs.Maps.{stands}
use Rattle.sheet.specs.Fields.{lower_bit, upper_bit}
use Rattle.sheet.specs.Records.{field_at, bound_at, edition_of, location_at, edge_at, locations_in, clocks_in, edges_in}
use Rattle.sheet.specs.declared.fields.Kind.TheVariants.{LocationRecord, EdgeRecord}
use Rattle.nodes.specs.Numbers.{Layout, layout_at}

-- "An absent price is 0, an absent reset mask resets nothing, an absent guard allows all": an absent lower guard is the byte 0, from 0 on,
-- and an absent upper guard is none
unfoldable pub meaning : List ℕ → Automaton
meaning s = record {
  locations = locations_in s;
  clocks = clocks_in s;
  edges = edges_in s;
  bound = λ l j. bound_at s (location_at s l) j;
  cost_rate = λ l. signed_of (get_or (field_at LocationRecord s (location_at s l) 0) 0);
  reward_rate = λ l. get_or (field_at LocationRecord s (location_at s l) 1) 0;
  source = λ e. byte_at s (edge_at s e + 2);
  target = λ e. byte_at s (edge_at s e + 3);
  lower = λ e j. get_or (field_at EdgeRecord s (edge_at s e) (lower_bit + j)) 0;
  upper = λ e j. field_at EdgeRecord s (edge_at s e) (upper_bit (edition_of s) + j);
  reset = λ e j. stands (get_or (field_at EdgeRecord s (edge_at s e) 2) 0) j;
  cost = λ e. signed_of (get_or (field_at EdgeRecord s (edge_at s e) 0) 0);
  reward = λ e. get_or (field_at EdgeRecord s (edge_at s e) 1) 0;
}

-- where its node numbers have their parts
abbrev pub layout_of : List ℕ → Layout
layout_of s = layout_at (byte_at s 0)
