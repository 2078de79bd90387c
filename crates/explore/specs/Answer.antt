-- What `explore` answers: 01's number, and what stands in the buffers. As the call finds them they are `before`, and as it leaves them
-- `after`.
use Rattle.std.specs.Prelude.{◌≡◌, ℕ, ◌+◌, ◌*◌, ◌≤◌, ◌<◌, ℤ, drop, Result, Ok, Err}
use Rattle.std.proofs.Math.Option.{Option, none, some}
use Rattle.automaton.specs.Priced.{Priced}
use Rattle.sheet.specs.declared.Sheet.{Sheet}
use Rattle.walks.specs.Walk.{at, atℤ}
use Rattle.contract.specs.Questions as Questions
use Rattle.contract.specs.Explored.{ArcOf, Explored, Overfull, step_read, start_read}
use Rattle.explore.specs.Buffers.{GraphBuffers, found}
use Rattle.explore.specs.Explorable.{Explorable}
use Rattle.explore.specs.Index.{Index}
use Rattle.explore.specs.declared.Size.{Size}
use Rattle.explore.specs.declared.Unexplored.{Unexplored}
use Rattle.explore.specs.declared.Unexplored.TheVariants.{Malformed, TooMany}

abbrev pub Outcome : Type 0
Outcome = Result Size Unexplored

-- the number of each outcome: that of question 12, or 0. A call that is not explorable has no number of 01's, and no plan gets it.
abbrev pub outcome_number : Outcome → Option ℕ
outcome_number (Err Malformed) = none
outcome_number (Err TooMany) = some 12
outcome_number (Ok g) = some 0

-- ---- nodes and arcs in the buffers

-- the search tree: the first arc to each node but the start comes from an earlier node, and nodes stand in the order of these arcs
pub record SearchTree (b : GraphBuffers) (n m : ℕ) : Type 0 where
  pub arc : (v : ℕ) → v < n → 0 < v → at b.tree v < m
  pub ends : (v : ℕ) → v < n → 0 < v → at b.to (at b.tree v) ≡ v
  pub earlier : (v : ℕ) → v < n → 0 < v → at b.from (at b.tree v) < v
  pub first : (e : ℕ) → e < m → 0 < at b.to e → at b.tree (at b.to e) ≤ e
  pub rising : (u v : ℕ) → u < v → v < n → 0 < u → at b.tree u < at b.tree v

-- each code at each node has its turn: by node, in order of discovery, and then by code
abbrev pub turn_of : ℕ → ℕ → ℕ
turn_of node code = 34 * node + code

-- the turn of the arc e
abbrev pub turn_of_arc : GraphBuffers → ℕ → ℕ
turn_of_arc b e = turn_of (at b.from e) (at b.code e)

-- arcs stand in the order of their turns
abbrev pub BySource : GraphBuffers → ℕ → Type 0
BySource b m = (d e : ℕ) → d < e → e < m → turn_of_arc b d < turn_of_arc b e

-- beyond n nodes and m arcs nothing is written, nor is the tree's entry of the start
pub record Rest (before after : GraphBuffers) (n m : ℕ) : Type 0 where
  pub node : drop n after.node ≡ drop n before.node
  pub sorted : drop n after.sorted ≡ drop n before.sorted
  pub order : drop n after.order ≡ drop n before.order
  pub tree : drop n after.tree ≡ drop n before.tree
  pub root : at after.tree 0 ≡ at before.tree 0
  pub from : drop m after.from ≡ drop m before.from
  pub to : drop m after.to ≡ drop m before.to
  pub code : drop m after.code ≡ drop m before.code
  pub cost : drop m after.cost ≡ drop m before.cost
  pub reward : drop m after.reward ≡ drop m before.reward

-- n nodes and m arcs are filled in
pub record Filled (before after : GraphBuffers) (n m : ℕ) : Type 0 where
  pub index : Index after.node after.sorted after.order n
  pub tree : SearchTree after n m
  pub by_source : BySource after m
  pub few_arcs : m ≤ 34 * n
  pub codes : (e : ℕ) → e < m → at after.code e < 34
  pub rest : Rest before after n m

-- the arc e between two of n nodes is an allowed step
pub record IsStep (step : ℕ → ℕ → Option (Priced ℕ)) (b : GraphBuffers) (n e : ℕ) : Type 0 where
  pub source : at b.from e < n
  pub target : at b.to e < n
  pub sound : step (at b.node (at b.from e)) (at b.code e)
      ≡ some (record { to = at b.node (at b.to e); cost = atℤ b.cost e; reward = at b.reward e })

module _ (step : ℕ → ℕ → Option (Priced ℕ)) (start : ℕ) where
  -- 2,048 nodes and one more: a turn comes whose step leads to none of the 2,048. The arcs are the allowed steps of the turns before it, each of
  -- them and no other. This leaves no entry open (proved in explore/proofs/OneGraph.antt), turn by turn: an allowed step is the next arc, to a node
  -- that stands already or to the next node, and the first step to a node for which there is no room stops.
  pub record Stopped (before after : GraphBuffers) : Type 0 where
    pub overfull : Overfull step start after.node
    pub first : at after.node 0 ≡ start
    -- the step that leads to the one more
    pub node : ℕ
    pub code : ℕ
    pub cost : ℤ
    pub reward : ℕ
    pub node_in : node < 2048
    pub code_in : code < 34
    pub leads : step (at after.node node) code ≡ some (record { to = overfull.extra; cost = cost; reward = reward })
    pub arcs : ℕ
    pub filled : Filled before after 2048 arcs
    pub steps : (e : ℕ) → e < arcs → IsStep step after 2048 e
    pub earlier : (e : ℕ) → e < arcs → turn_of_arc after e < turn_of node code
    pub complete : (a c : ℕ) (v : Priced ℕ) → c < 34 → turn_of a c < turn_of node code → step (at after.node a) c ≡ some v
        → ArcOf (found after 2048 arcs) a c

  -- 12. "Are at most 2,048 nodes reachable?" Its number where it is answered no, else 0.
  pub data QuestionTwelve (number : ℕ) : Type 0 where
    answered_no : number ≡ 12 → Questions.TooMany step start → QuestionTwelve number
    answered_yes : number ≡ 0 → ¬ Questions.TooMany step start → QuestionTwelve number

-- ---- the contract

module _ (s : Sheet) where
  -- the number that the call is to be answered with
  abbrev pub ExploreNumbered : GraphBuffers → Option ℕ → Type 0
  ExploreNumbered before none = ¬ Explorable s before
  ExploreNumbered before (some number) = Explorable s before × QuestionTwelve (step_read s) (start_read s) number

  -- what stands in the buffers
  abbrev pub ExploreLeft : GraphBuffers → GraphBuffers → Outcome → Type 0
  ExploreLeft before after (Err Malformed) = after ≡ before
  ExploreLeft before after (Err TooMany) = Stopped (step_read s) (start_read s) before after
  ExploreLeft before after (Ok g) = Explored (step_read s) (start_read s) (found after g.nodes g.arcs) × Filled before after g.nodes g.arcs

  -- This fixes the answer and every entry: explore/proofs/OneGraph.antt.
  abbrev pub ExploreAnswered : GraphBuffers → GraphBuffers → Outcome → Type 0
  ExploreAnswered before after r = ExploreNumbered before (outcome_number r) × ExploreLeft before after r
