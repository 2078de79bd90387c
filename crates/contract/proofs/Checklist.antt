-- The checklist: what the planner's code has in hand where it accepts. Of it `Exits.accepted` makes the whole contract, demand 3 included.
-- The other ways out have laws in Exits too: short_buffer (1), faulty_sheet (the check), too_many_nodes (12), no_earning_cycle (13) and
-- idle_cycle_gains (14).
use mathlib.Core.Path.{◌≡◌}
use mathlib.Core.List.{List, ◌++◌}
use Prim.Native.Nat.{ℕ, ◌+◌, ◌≤◌, ◌<◌}
use lib.IntN.{ℤ, pos, neg_ℤ, ◌*ℤ◌}
use lib.ListN.{length}
use Rattle.integers.specs.Lowest.{Lowest}
use Rattle.sheet.specs.Questions.{check_of}
use Rattle.walks.specs.Walk.{at, atℤ}
use Rattle.walks.specs.Weight.{weight_of, sum, total, PotentialOrMark}
use Rattle.walks.specs.Lasso.{ArcLasso}
use Rattle.contract.specs.Plan.{Buffers, LongEnough, SameLengths, step_on, start_of}
use Rattle.contract.specs.Explored.{Found, Explored}
pub use Rattle.contract.specs.Explored.{Sorted}

-- the weights at the ratio p/q, coefficients q, −p and 0: a cycle is negative if and only if its ratio is below
abbrev pub weight_at : ℤ → ℕ → Found → ℕ → ℤ
weight_at p q g = weight_of (pos q) (neg_ℤ p) (pos 0) g.cost g.reward

-- g is the explored graph, p/q the ratio, D the potentials by discovery that the last search left, stem and cycle the lasso as arcs of g
pub record InHand (bytes : List ℕ) (before after : Buffers) (g : Found) (p : ℤ) (q : ℕ) (D : List ℤ) (order stem cycle : List ℕ) : Type 0 where
  -- question 1 and those of the check are answered yes
  pub long : LongEnough before
  pub checked : check_of bytes ≡ 0
  -- so is question 12, since exploring ended. Exploring by the decoded sheet: `DecodedSheets.explored_read`. Where the
  -- lists are longer than m, g is the cut one: `Graphs.explored_cut`. That the search takes its lists as a graph: `Graphs.graph`.
  pub explored : Explored (step_on bytes) (start_of bytes) g
  -- so is question 13: the lasso's cycle earns
  pub earns : 0 < total (at g.reward) cycle
  -- so is question 14, by the potentials at p/q: `Feasible.no_idle_gain`
  pub potentials : (v : ℕ) → v < g.n → PotentialOrMark g.from g.to g.m (weight_at p q g) v (atℤ D v)
  -- p/q is the ratio of the lasso's cycle, in lowest terms. A cycle turned costs and earns the same: `Graphs.cost_turned, reward_turned`.
  pub lowest : Lowest p q
  pub exact : pos q *ℤ sum (atℤ g.cost) cycle ≡ p *ℤ pos (total (at g.reward) cycle)
  -- a stem from node 0 and a cycle at its end, whose arcs leave distinct nodes: the law `lasso` of walks. That s + m ≤ n follows.
  pub lasso : ArcLasso g.from g.to g.m stem cycle
  -- written to the buffers: the nodes in rising order
  pub sorted : Sorted g order after.nodes
  pub nodes_rest : (i : ℕ) → g.n ≤ i → i < length after.nodes → at after.nodes i ≡ 0
  -- the potentials in the same order
  pub permuted : (i : ℕ) → i < g.n → atℤ after.potentials i ≡ atℤ D (at order i)
  pub potentials_rest : (i : ℕ) → g.n ≤ i → i < length after.potentials → atℤ after.potentials i ≡ pos 0
  -- and the codes of the lasso's arcs
  pub codes : (i : ℕ) → i < length stem + length cycle → at after.steps i ≡ at g.code (at (stem ++ cycle) i)
  pub steps_rest : (i : ℕ) → length stem + length cycle ≤ i → i < length after.steps → at after.steps i ≡ 0
  pub lengths : SameLengths after before
