-- Node numbers, for any number of clocks: the number of a node, the node of a number, and the steps on numbers.
use Rattle.std.specs.Prelude.{Bool, cond, ◌&&◌, List, [], ◌∷◌, ℕ, zero, suc, ◌+◌, ◌*◌, ◌/◌, ◌%◌, ◌^◌, eqb}
use Rattle.std.proofs.Math.Option.{Option, map}
use Rattle.automaton.specs.Automaton.{Automaton}
use Rattle.automaton.specs.Priced.{Priced}
use Rattle.automaton.specs.Nodes.{Node, is_node, start_node}
use Rattle.automaton.specs.Steps.{step}

-- where an edition has the parts of a node: how many bits a class and the corner have, and the bit where the location begins
pub record Layout : Type 0 where
  pub bits : ℕ
  pub location : ℕ

-- "corner in bits 0 and 1; clock j has its class in bits 2 + 6j and 3 + 6j and h in the four bits above; location in bits 20 to 23"
abbrev pub first_layout : Layout
first_layout = record { bits = 2; location = 20 }

-- "edition 2 has the corner in bits 0 to 2, clock j with its class in the three bits from 3 + 7j and h in the four above, location in bits 31 to 34"
abbrev pub second_layout : Layout
second_layout = record { bits = 3; location = 31 }

-- the layout of an edition, as its byte tells it
abbrev pub layout_at : ℕ → Layout
layout_at edition = cond (eqb edition 1) first_layout second_layout

-- where clock j has its class and its whole part
abbrev pub class_at : Layout → ℕ → ℕ
class_at y j = y.bits + (y.bits + 4) * j

abbrev pub whole_at : Layout → ℕ → ℕ
whole_at y j = class_at y j + y.bits

-- v in `width` bits from the bit `at` on; what has no room there is left out, and no part of a node is that large
abbrev pub put : ℕ → ℕ → ℕ → ℕ
put v width at = v % 2 ^ width * 2 ^ at

-- the clocks from j on
unfoldable pub clocks_from : Layout → ℕ → List ℕ → List ℕ → ℕ
clocks_from y j [] ks = 0
clocks_from y j (h ∷ hs) [] = 0
clocks_from y j (h ∷ hs) (k ∷ ks) = put k y.bits (class_at y j) + put h 4 (whole_at y j) + clocks_from y (suc j) hs ks

-- "the rest clear"
unfoldable pub number : Layout → Node → ℕ
number y u = put u.corner y.bits 0 + clocks_from y 0 u.region.whole u.region.class + put u.location 4 y.location

-- `width` bits of x from the bit `at` on
abbrev pub bits_of : ℕ → ℕ → ℕ → ℕ
bits_of x width at = x / 2 ^ at % 2 ^ width

-- f j, f (j + 1), .. for n clocks
unfoldable pub list_from : (ℕ → ℕ) → ℕ → ℕ → List ℕ
list_from f j zero = []
list_from f j (suc n) = f j ∷ list_from f (suc j) n

-- and back, for this number of clocks
unfoldable pub node_of : Layout → ℕ → ℕ → Node
node_of y clocks x = record {
  location = bits_of x 4 y.location;
  region = record {
    whole = list_from (λ j. bits_of x 4 (whole_at y j)) 0 clocks;
    class = list_from (λ j. bits_of x y.bits (class_at y j)) 0 clocks;
  };
  corner = bits_of x y.bits 0;
}

module _ (y : Layout) (A : Automaton) where
  -- 15. "Is the number that of a node of this sheet?" All other bits are clear where the node has this very number.
  unfoldable pub is_number : ℕ → Bool
  is_number x = eqb (number y (node_of y A.clocks x)) x && is_node A (node_of y A.clocks x)

  -- one step on numbers: where it leads is told by its number
  unfoldable pub step_by : ℕ → ℕ → Option (Priced ℕ)
  step_by x code = map (λ v. record { to = number y v.to; cost = v.cost; reward = v.reward }) (step A (node_of y A.clocks x) code)

  abbrev pub start_number : ℕ
  start_number = number y (start_node A)
