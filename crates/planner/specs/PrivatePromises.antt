-- What the private functions are handed, and what they promise each other. Only private functions go by this file.
use Rattle.std.specs.Prelude.{◌≡◌, List, ℕ, ◌≤◌, ◌<◌, ℤ, length, get_or, take}
use Rattle.automaton.specs.Times.{units_of}
use Rattle.sheet.specs.Questions.{check_of}
use Rattle.sheet.specs.Decoded.{read_of}
use Rattle.sheet.specs.declared.Sheet.{Sheet}
use Rattle.walks.specs.Walk.{at, atℤ}
use Rattle.walks.specs.Weight.{sum, total}
use Rattle.walks.specs.Form.{Graph}
use Rattle.walks.specs.Cycles.{SimpleCycle}
use Rattle.lasso.specs.Answer as Lasso
use Rattle.ratio.specs.Answer.{RatioFound}
use Rattle.contract.specs.Plan.{Answer, refused_plan, Buffers, LongEnough, SameLengths, Passed, Judged, Planned, step_on, start_of}
use Rattle.contract.specs.Explored.{Found, Explored, Sorted}
use Rattle.planner.specs.declared.sums.Sums.{Sums}

-- ---- entries picked from a list

-- the first n entries of l' are those of s at the places that I names
pub record Picked {A : Type 0} (zero : A) (s : List A) (I : List ℕ) (n : ℕ) (l l' : List A) : Type 0 where
  pub sized : length l' ≡ length l
  pub is : (i : ℕ) → i < n → get_or l' i zero ≡ get_or s (at I i) zero

-- the places that I names are in s, and there is room for what is picked
pub record Pickable {A : Type 0} (s : List A) (I : List ℕ) (n : ℕ) (l : List A) : Type 0 where
  pub named : n ≤ length I
  pub there : (i : ℕ) → i < n → at I i < length s
  pub room : n ≤ length l

-- ---- what the plan goes by

-- the sheet was read from these bytes, which pass the check
pub record ReadFrom (read : Sheet) : Type 0 where
  pub bytes : List ℕ
  pub checked : check_of bytes ≡ 0
  pub is : read ≡ read_of bytes

-- a graph of n nodes: the codes of its arcs, the order of output, and the arc that discovered each node
pub record Handed (F T C : List ℕ) (Z : List ℤ) (R order tree : List ℕ) (n : ℕ) : Type 0 where
  pub graph : Graph F T Z R n
  pub codes : length C ≡ length F
  pub ordered : length order ≡ n
  pub order_below : (i : ℕ) → i < n → at order i < n
  pub tree_room : n ≤ length tree
  pub tree_arcs : (v : ℕ) → 0 < v → v < n → Lasso.TreeArc F T tree v

-- all arcs of the lists
abbrev pub graph_of : List ℕ → List ℕ → List ℕ → List ℕ → List ℤ → List ℕ → ℕ → Found
graph_of N F T C Z R n = record { node = N; from = F; to = T; code = C; cost = Z; reward = R; n = n; m = length F }

-- the graph is that of a sheet, explored; the nodes' numbers stand in the first buffer, rising
pub record OfSheet (F T C : List ℕ) (Z : List ℤ) (R order : List ℕ) (n : ℕ) (lent : Buffers) : Type 0 where
  pub bytes : List ℕ
  pub before : Buffers
  pub node : List ℕ
  pub checked : check_of bytes ≡ 0
  pub long : LongEnough before
  pub lengths : SameLengths lent before
  pub explored : Explored (step_on bytes) (start_of bytes) (graph_of node F T C Z R n)
  pub sorted : Sorted (graph_of node F T C Z R n) order lent.nodes

-- the first k entries of `cycle` are a simple cycle of a graph with a search tree
pub record Cyclic (F T C : List ℕ) (Z : List ℤ) (R order tree cycle : List ℕ) (n k : ℕ) : Type 0 where
  pub formed : Lasso.LassoArguments F T tree cycle n k 4096
  pub simple : SimpleCycle F T (length F) (take k cycle)
  pub sources : (e : ℕ) → e < length F → at F e < n
  pub codes : length C ≡ length F
  pub costs : length Z ≡ length F
  pub rewards : length R ≡ length F
  pub ordered : length order ≡ n
  pub order_below : (i : ℕ) → i < n → at order i < n

-- the graph is that of a sheet, and p/q is the least ratio, with the potentials and the cycle that were found with it
pub record Solved (F T C : List ℕ) (Z : List ℤ) (R order : List ℕ) (D : List ℤ) (cycle : List ℕ) (n k : ℕ) (p : ℤ) (q : ℕ) (lent : Buffers) : Type 0 where
  pub of_sheet : OfSheet F T C Z R order n lent
  pub potential : List ℤ
  pub arcs : List ℕ
  pub least : RatioFound F T Z R n p q k potential D arcs cycle

-- ---- the sums along the cycle

-- the arcs are there, and few enough for their sums to fit
pub record Summable (C : List ℕ) (Z : List ℤ) (R cycle : List ℕ) : Type 0 where
  pub few : length cycle ≤ 2048
  pub codes : (i : ℕ) → i < length cycle → at cycle i < length C
  pub costs : (i : ℕ) → i < length cycle → at cycle i < length Z
  pub rewards : (i : ℕ) → i < length cycle → at cycle i < length R

-- their units, by the code of each, their cost and their reward
pub record SumsOf (C : List ℕ) (Z : List ℤ) (R cycle : List ℕ) (r : Sums) : Type 0 where
  pub units : r.units ≡ total (λ e. units_of (at C e)) cycle
  pub cost : r.cost ≡ sum (atℤ Z) cycle
  pub reward : r.reward ≡ total (at R) cycle

-- ---- what the plan comes to

-- the contract of a plan, but that the buffers are still to be cleared where an explored sheet is refused
pub record PlannedButForClearing (bytes : List ℕ) (before after : Buffers) (a : Answer) : Type 0 where
  pub judged : Judged bytes before a.refusal
  pub numbers : 0 < a.refusal → a ≡ refused_plan a.refusal
  pub kept : ¬ Passed bytes before → after ≡ before
  pub accepted : a.refusal ≡ 0 → Planned bytes before after a
