-- What stands in the answer and in the buffers where a plan is accepted, for any steps by code.
use Rattle.std.specs.Prelude.{◌≡◌, List, ℕ, ◌+◌, ◌≤◌, ◌<◌, ℤ, pos, nat_abs, ◌*ℤ◌, length, take}
use Rattle.std.proofs.Math.Option.{Option}
use Rattle.std.proofs.Math.Seq.{slice}
use Rattle.automaton.specs.Priced.{Priced}
use Rattle.automaton.specs.Times.{units_along}
use Rattle.automaton.specs.Walks.{Walk, Reachable}
use Rattle.automaton.specs.Weights.{Potential}
use Rattle.automaton.specs.Ratios.{LeastRatio}
use Rattle.walks.specs.Walk.{at, atℤ}

-- x is among the first n entries of the list
pub record Listed (l : List ℕ) (n x : ℕ) : Type 0 where
  pub index : ℕ
  pub below : index < n
  pub is : at l index ≡ x

module _ {S : Type 0} (step : S → ℕ → Option (Priced S)) (start : S) (p : ℤ) (q : ℕ) where
  -- "step codes (16-bit, stem then cycle)": the lasso "is walked from the start, closes, meets no node twice except where it closes, and its
  -- cycle has exactly the ratio". Any such one will do.
  pub record Lasso (s m : ℕ) (steps : List ℕ) : Type 0 where
    -- the node where it closes
    pub node : S
    pub stem_cost : ℤ
    pub stem_reward : ℕ
    pub stem : Walk step start (take s steps) node stem_cost stem_reward
    pub some_step : 1 ≤ m
    pub cost : ℤ
    pub reward : ℕ
    pub cycle : Walk step node (slice s (s + m) steps) node cost reward
    -- the first i steps and the first j lead to different nodes, unless i is s and j is s + m
    pub simple : (i j : ℕ) → i < j → j < s + m → (x : S) (c d : ℤ) (r t : ℕ)
        → Walk step start (take i steps) x c r → Walk step start (take j steps) x d t → ⊥
    pub earns : 0 < reward
    pub exact : pos q *ℤ cost ≡ p *ℤ pos reward
    pub rest : (i : ℕ) → s + m ≤ i → i < length steps → at steps i ≡ 0

  -- "the cycle's units, its cost and its reward": the sums along the cycle of that lasso, as it stands among the step codes
  pub record CycleSums {s m : ℕ} {steps : List ℕ} (lasso : Lasso s m steps) (units : ℕ) (cost : ℤ) (reward : ℕ) : Type 0 where
    pub units_are : units ≡ units_along (slice s (s + m) steps)
    pub cost_is : cost ≡ lasso.cost
    pub reward_is : reward ≡ lasso.reward

module _ (step : ℕ → ℕ → Option (Priced ℕ)) (start : ℕ) where
  -- "n reachable nodes", "node numbers (32-bit, rising)", which "become 64 bits wide": the first n entries are the reachable ones, each of them and no other
  pub record NodeList (n : ℕ) (nodes : List ℕ) : Type 0 where
    pub rising : (i j : ℕ) → i < j → j < n → at nodes i < at nodes j
    pub reachable : (i : ℕ) → i < n → Reachable step start (at nodes i)
    pub complete : (x : ℕ) → Reachable step start x → Listed nodes n x
    -- "Entries beyond are 0 to the buffer's end."
    pub rest : (i : ℕ) → n ≤ i → i < length nodes → at nodes i ≡ 0

  module _ (p : ℤ) (q : ℕ) where
    -- "potentials (signed 64-bit, same order)": each "is the least sum over walks from the start, and lies strictly between −10^15 and 10^15"
    pub record PotentialList (n : ℕ) (nodes : List ℕ) (potentials : List ℤ) : Type 0 where
      pub least : (i : ℕ) → i < n → Potential step start p q (at nodes i) (atℤ potentials i)
      pub small : (i : ℕ) → i < n → nat_abs (atℤ potentials i) < 1000000000000000
      pub rest : (i : ℕ) → n ≤ i → i < length potentials → atℤ potentials i ≡ pos 0

    pub record Accepted (n s m units : ℕ) (cost : ℤ) (reward : ℕ) (nodes : List ℕ) (potentials : List ℤ) (steps : List ℕ) : Type 0 where
      -- "the ratio p/q in lowest terms": some reachable cycle has it, and none is below it
      pub ratio : LeastRatio step start p q
      pub node_list : NodeList n nodes
      pub potential_list : PotentialList n nodes potentials
      pub lasso : Lasso step start p q s m steps
      pub sums : CycleSums step start p q lasso units cost reward
      pub short : s + m ≤ n
