-- Nodes by value, in arrays of four, what becomes of them, and the numbers that ranks are worked out by: only functions inside the crate are told by these.
use Rattle.std.specs.Prelude.{Bool, cond, ◌&&◌, ℕ, zero, suc, ◌+◌, ◌*◌, ltb, get_or, take}
use mathlib.Core.List.{List, [], ◌∷◌, map, zip_with}
use Rattle.automaton.specs.Tests.{one_more_if, occurs, every}
use Rattle.automaton.specs.Bounds.{interval, upper_holds, lower_holds, if_present}
use Rattle.automaton.specs.Ranks.{rank, close_up, mask}
use Rattle.automaton.specs.Nodes as automaton
use Rattle.automaton.specs.Steps.{carry_whole, carry_class}
use Rattle.sheet.specs.Maps.{stands}
use Rattle.sheet.specs.Fields.{edition_at}
use Rattle.nodes.specs.Numbers.{layout_at, number, node_of}
use Rattle.nodes.specs.Decoded.{guard_of}
use Rattle.region.specs.declared.Region.{Region}
use Rattle.region.specs.declared.Node.{Node}

-- n entries, 0 after those of the list
unfoldable pub pad_to : ℕ → List ℕ → List ℕ
pad_to zero xs = []
pad_to (suc n) [] = 0 ∷ pad_to n []
pad_to (suc n) (x ∷ xs) = x ∷ pad_to n xs

abbrev pub in_arrays : automaton.Node → Node
in_arrays u = record {
  location = u.location;
  region = record { whole = pad_to 4 u.region.whole; class = pad_to 4 u.region.class };
  corner = u.corner;
}

-- the first clocks of a node in arrays
abbrev pub from_arrays : ℕ → Node → automaton.Node
from_arrays clocks n = record {
  location = n.location;
  region = record { whole = take clocks n.region.whole; class = take clocks n.region.class };
  corner = n.corner;
}

-- by the edition: the node of a number, for this number of clocks, and the number of a node
abbrev pub node_in : ℕ → ℕ → ℕ → Node
node_in e clocks x = in_arrays (node_of (layout_at e) clocks x)

abbrev pub number_in : ℕ → Node → ℕ
number_in e n = number (layout_at e) (from_arrays (edition_at e).clocks n)

-- of a part v of clock j: 0 where the sheet has no such clock
abbrev pub if_clock : ℕ → ℕ → ℕ → ℕ
if_clock clocks j v = cond (ltb j clocks) v 0

-- n hexadecimal digits, digit 0 the lowest
unfoldable pub hexadecimal : (ℕ → ℕ) → ℕ → ℕ
hexadecimal d zero = 0
hexadecimal d (suc n) = d 0 + 16 * hexadecimal (λ v. d (suc v)) n

-- of the values below 8: digit v is 1 where v occurs, and 0 elsewhere
unfoldable pub value_digits : List ℕ → ℕ
value_digits xs = hexadecimal (λ v. one_more_if (occurs v xs) 0) 8

-- "The ranks are worked out": digit t is the rank of t
unfoldable pub rank_digits : List ℕ → ℕ
rank_digits xs = hexadecimal (rank xs) 8

-- the intervals of the first clocks
abbrev pub intervals_in : ℕ → Region → List ℕ
intervals_in clocks r = take clocks (zip_with interval r.whole r.class)

unfoldable pub bounds_in : List ℕ → ℕ → Region → Bool
bounds_in upper clocks r = every (λ j x. upper_holds (get_or upper j 0) x) (intervals_in clocks r)

abbrev pub guard_holds : ℕ → ℕ → ℕ → Bool
guard_holds lower upper i = lower_holds lower i && if_present upper_holds (guard_of upper) i

unfoldable pub guards_in : List ℕ → List ℕ → ℕ → Region → Bool
guards_in lower upper clocks r = every (λ j x. guard_holds (get_or lower j 0) (get_or upper j 0) x) (intervals_in clocks r)

abbrev pub after_edge : Node → ℕ → ℕ → Node
after_edge n target reset = record {
  location = target;
  region = record { whole = mask (stands reset) n.region.whole; class = close_up (mask (stands reset) n.region.class) };
  corner = rank (mask (stands reset) n.region.class) n.corner;
}

abbrev pub after_rise : ℕ → Node → Node
after_rise clocks n = record {
  location = n.location;
  region = record {
    whole = n.region.whole;
    class = pad_to 4 (map suc (take clocks n.region.class));
  };
  corner = suc n.corner;
}

abbrev pub after_carry : ℕ → Node → Node
after_carry g n = record {
  location = n.location;
  region = record {
    whole = zip_with (carry_whole g) n.region.whole n.region.class;
    class = map (carry_class g) n.region.class;
  };
  corner = n.corner;
}
