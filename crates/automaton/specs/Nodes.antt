-- Regions, corners and nodes (000, section 4.1).
use Rattle.std.specs.Prelude.{◌≡◌, Bool, true, ◌&&◌, ℕ, ◌≤◌, ◌<◌, leb, ltb, eqb, length, replicate}
use mathlib.Core.List.{List, zip_with}
use Rattle.automaton.specs.Tests.{one_more_if}
use Rattle.automaton.specs.Bounds.{interval, upper_holds}
use Rattle.automaton.specs.Ranks.{rank, largest}
use Rattle.automaton.specs.Automaton.{Automaton, in_bounds}

-- "A region gives each clock a whole part h (0 to 12) and a class: 0 for no fraction, else the rank 1 to g of its fraction, each rank used."
pub record Region : Type 0 where
  pub whole : List ℕ
  pub class : List ℕ

-- each clock's interval, by its number
abbrev pub intervals : Region → List ℕ
intervals R = zip_with interval R.whole R.class

-- each rank is used: of the values 1 to g, g occur
abbrev pub uses_each_rank : List ℕ → Bool
uses_each_rank ks = eqb (rank ks (largest ks)) (largest ks)

pub record Node : Type 0 where
  pub location : ℕ
  pub region : Region
  pub corner : ℕ

-- "a region that lies within that location's bounds"
abbrev pub inside : Automaton → Node → Bool
inside A u = in_bounds upper_holds A u.location (intervals u.region)

-- the largest class g of a node's region
abbrev pub largest_class : Node → ℕ
largest_class u = largest u.region.class

-- The corner point: "Corner i (0 to g) gives a clock h if its class is at most i, else h + 1." No step reads it; it is proved what each does to it.
abbrev pub point : Node → List ℕ
point u = zip_with (λ h k. one_more_if (ltb u.corner k) h) u.region.whole u.region.class

-- "A node is a location, a region that lies within that location's bounds, and a corner." That a whole part is "0 to 12" is not asked for here:
-- the bytes of a checked sheet's bounds are 25 at most (question 8), and a region within such bounds has no larger one (Nodes.antt, whole_small;
-- Reached.antt, reached_whole).
unfoldable pub is_node : Automaton → Node → Bool
is_node A u = ltb u.location A.locations && (eqb (length u.region.whole) A.clocks && (eqb (length u.region.class) A.clocks
    && (uses_each_rank u.region.class && (leb u.corner (largest_class u) && inside A u))))

-- location 0 with all clocks 0
unfoldable pub start_node : Automaton → Node
start_node A = record { location = 0; region = record { whole = replicate A.clocks 0; class = replicate A.clocks 0 }; corner = 0 }

-- What questions 4, 9 and 11 make sure of: a location, edges by codes 0 to 31, targets that are locations, and location 0's bounds
-- "admit all clocks at 0".
pub record Sound (A : Automaton) : Type 0 where
  pub some_location : 0 < A.locations
  pub few_edges : A.edges ≤ 32
  pub targets : (e : ℕ) → e < A.edges → A.target e < A.locations
  pub start_inside : inside A (start_node A) ≡ true
