-- What `least_ratio` answers. The buffers as the call finds them are `potential` and `cycle`, and as it leaves them `potential'` and `cycle'`.
use Rattle.std.specs.Prelude.{◌≡◌, List, ℕ, ◌≤◌, ◌<◌, length, take, drop, ℤ, pos, neg_ℤ, nat_abs, ◌*ℤ◌, Result, Ok, Err}
use Rattle.std.proofs.Math.Option.{Option, none, some}
use Rattle.integers.specs.Lowest.{Lowest}
use Rattle.walks.specs.Walk.{at, atℤ}
use Rattle.walks.specs.Weight.{weight_of, sum, total, NoneNegative, PotentialOrMark}
use Rattle.walks.specs.Cycles.{SimpleCycle, EarningArcs, NoneEarns, NoIdleGain, IdleGainArcs}
use Rattle.walks.specs.Form.{Graph}
use Rattle.ratio.specs.declared.Ratio.{Ratio}
use Rattle.ratio.specs.declared.NoRatio.{NoRatio}

-- the arguments: a graph of n nodes, and n entries or more in each buffer
pub record RatioArguments (F T : List ℕ) (cost : List ℤ) (reward : List ℕ) (n potentials arcs : ℕ) : Type 0 where
  pub graph : Graph F T cost reward n
  pub potential_room : n ≤ potentials
  pub cycle_room : n ≤ arcs

-- p / q is the ratio of the cycle c, in lowest terms
pub record RatioOf (cost : List ℤ) (reward c : List ℕ) (p : ℤ) (q : ℕ) : Type 0 where
  pub exact : pos q *ℤ sum (atℤ cost) c ≡ p *ℤ pos (total (at reward) c)
  pub lowest : Lowest p q

-- the first k entries of cycle are the arcs of a simple cycle that earns, with the ratio p / q, in order, and no cycle is below it; the first n of potential
-- are the nodes' potentials at that ratio; nothing else is written. Left open is which of the simple cycles with this ratio stands there, and with that k,
-- and at which of its nodes it begins; the answer's number, p, q and every potential are fixed: ratio/proofs/OneRatio.antt
pub record RatioFound (F T : List ℕ) (cost : List ℤ) (reward : List ℕ) (n : ℕ) (p : ℤ) (q k : ℕ)
    (potential potential' : List ℤ) (cycle cycle' : List ℕ) : Type 0 where
  pub short : k ≤ n
  pub attained : SimpleCycle F T (length F) (take k cycle')
  pub earns : 0 < total (at reward) (take k cycle')
  pub ratio : RatioOf cost reward (take k cycle') p q
  pub p_small : nat_abs p ≤ 20480000
  pub q_small : q ≤ 20480000
  pub none_below : NoneNegative F T (length F) (weight_of (pos q) (neg_ℤ p) (pos 0) cost reward)
  pub potentials : (v : ℕ) → v < n → PotentialOrMark F T (length F) (weight_of (pos q) (neg_ℤ p) (pos 0) cost reward) v (atℤ potential' v)
  pub rest_potential : drop n potential' ≡ drop n potential
  pub rest_cycle : drop k cycle' ≡ drop k cycle

-- nothing is written
pub record Kept (potential potential' : List ℤ) (cycle cycle' : List ℕ) : Type 0 where
  pub potentials : potential' ≡ potential
  pub cycles : cycle' ≡ cycle

-- 01's number of each answer; malformed arguments have no number of 01's, and no plan gets that answer
abbrev pub ratio_number : Result Ratio NoRatio → Option ℕ
ratio_number (Err NoRatio.Malformed) = none
ratio_number (Err NoRatio.NoneEarns) = some 13
ratio_number (Err NoRatio.IdleGain) = some 14
ratio_number (Ok r) = some 0

-- questions 13 and 14 put to the graph, with the number of the first answered no, and 0 where both are answered yes. No two cases hold together.
pub data RatioQuestions (F T : List ℕ) (cost : List ℤ) (reward : List ℕ) (number : ℕ) : Type 0 where
  no_to_13 : number ≡ 13 → NoneEarns F T (length F) reward → RatioQuestions F T cost reward number
  no_to_14 : number ≡ 14 → EarningArcs F T (length F) reward → IdleGainArcs F T (length F) cost reward → RatioQuestions F T cost reward number
  yes_to_both : number ≡ 0 → EarningArcs F T (length F) reward → NoIdleGain F T (length F) cost reward → RatioQuestions F T cost reward number

-- what the number of an answer says of the arguments
abbrev pub RatioNumbered : List ℕ → List ℕ → List ℤ → List ℕ → ℕ → ℕ → ℕ → Option ℕ → Type 0
RatioNumbered F T cost reward n potentials arcs none = ¬ RatioArguments F T cost reward n potentials arcs
RatioNumbered F T cost reward n potentials arcs (some number) = RatioArguments F T cost reward n potentials arcs × RatioQuestions F T cost reward number

-- what an answer leaves in the buffers
abbrev pub RatioLeft : List ℕ → List ℕ → List ℤ → List ℕ → ℕ → List ℤ → List ℤ → List ℕ → List ℕ → Result Ratio NoRatio → Type 0
RatioLeft F T cost reward n potential potential' cycle cycle' (Err _) = Kept potential potential' cycle cycle'
RatioLeft F T cost reward n potential potential' cycle cycle' (Ok r) = RatioFound F T cost reward n r.p r.q r.arcs potential potential' cycle cycle'

abbrev pub RatioAnswered : List ℕ → List ℕ → List ℤ → List ℕ → ℕ → List ℤ → List ℤ → List ℕ → List ℕ → Result Ratio NoRatio → Type 0
RatioAnswered F T cost reward n potential potential' cycle cycle' v =
    RatioNumbered F T cost reward n (length potential) (length cycle) (ratio_number v) × RatioLeft F T cost reward n potential potential' cycle cycle' v
