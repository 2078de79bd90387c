-- What `negative_cycle` answers. The buffers as the call finds them are `potential` and `cycle`, and as it leaves them `potential'` and `cycle'`.
use Rattle.std.specs.Prelude.{◌≡◌, List, ℕ, ◌≤◌, ◌<◌, length, take, drop, ℤ, Option, Some, None, Result, Ok, Err}
use Rattle.walks.specs.Walk.{atℤ}
use Rattle.walks.specs.Weight.{weight_of, NegativeCycle, NoneNegative, PotentialOrMark}
use Rattle.walks.specs.Form.{Graph, CoefficientsInRange}
use Rattle.walks.specs.declared.Malformed.{Malformed}

-- the arguments: a graph of n nodes, coefficients in range, and n entries or more in each buffer
pub record SearchArguments (F T : List ℕ) (cost : List ℤ) (reward : List ℕ) (a b c : ℤ) (n potentials arcs : ℕ) : Type 0 where
  pub graph : Graph F T cost reward n
  pub in_range : CoefficientsInRange a b c
  pub potential_room : n ≤ potentials
  pub cycle_room : n ≤ arcs

-- the first k entries of cycle are the arcs of a negative cycle, in order, and nothing else is written. Left open is which of the negative cycles
-- this is, and with that k, and at which of its nodes it begins; that the answer is a cycle is fixed: graph/proofs/OneKind.antt
pub record CycleFound (F T : List ℕ) (weight : ℕ → ℤ) (n k : ℕ) (potential potential' : List ℤ) (cycle cycle' : List ℕ) : Type 0 where
  pub short : k ≤ n
  pub negative : NegativeCycle F T (length F) weight (take k cycle')
  pub rest : drop k cycle' ≡ drop k cycle
  pub kept : potential' ≡ potential

-- the first n entries of potential are the nodes' potentials, no negative cycle is reached, and nothing else is written. This
-- fixes every entry: graph/proofs/OneKind.antt
pub record PotentialsFound (F T : List ℕ) (weight : ℕ → ℤ) (n : ℕ) (potential potential' : List ℤ) (cycle cycle' : List ℕ) : Type 0 where
  pub potentials : (v : ℕ) → v < n → PotentialOrMark F T (length F) weight v (atℤ potential' v)
  pub none : NoneNegative F T (length F) weight
  pub rest : drop n potential' ≡ drop n potential
  pub kept : cycle' ≡ cycle

-- malformed arguments, and nothing is written; a cycle of k arcs; or potentials
abbrev pub SearchAnswered : List ℕ → List ℕ → List ℤ → List ℕ → ℤ → ℤ → ℤ → ℕ → List ℤ → List ℤ → List ℕ → List ℕ → Result (Option ℕ) Malformed → Type 0
SearchAnswered F T cost reward a b c n potential potential' cycle cycle' (Err _) =
    (SearchArguments F T cost reward a b c n (length potential) (length cycle) → ⊥) × (potential' ≡ potential) × (cycle' ≡ cycle)
SearchAnswered F T cost reward a b c n potential potential' cycle cycle' (Ok (Some k)) =
    SearchArguments F T cost reward a b c n (length potential) (length cycle)
    × CycleFound F T (weight_of a b c cost reward) n k potential potential' cycle cycle'
SearchAnswered F T cost reward a b c n potential potential' cycle cycle' (Ok None) =
    SearchArguments F T cost reward a b c n (length potential) (length cycle)
    × PotentialsFound F T (weight_of a b c cost reward) n potential potential' cycle cycle'
