-- What the private functions promise each other: the ratio of the cycle in hand, a turn of the loop, and what the loop comes to. Only private
-- functions go by this file.
use Rattle.std.specs.Prelude.{◌≡◌, List, ℕ, ◌≤◌, ◌<◌, length, take, drop, ℤ, pos, neg_ℤ, nat_abs, ◌*ℤ◌, ◌<ℤ◌, Option, Some, None}
use Rattle.integers.specs.Lowest.{Lowest}
use Rattle.walks.specs.Walk.{at, atℤ}
use Rattle.walks.specs.Weight.{weight_of, sum, total, NoneNegative, PotentialOrMark}
use Rattle.walks.specs.Cycles.{SimpleCycle, EarningArcs, IdleGainArcs}
use Rattle.ratio.specs.Answer.{RatioOf}
use Rattle.ratio.specs.declared.improve.Turn.{Turn}
use Rattle.ratio.specs.declared.Ratio.{Ratio}

-- p / q is cost / reward in lowest terms
pub record Reduced (cost : ℤ) (reward : ℕ) (p : ℤ) (q : ℕ) : Type 0 where
  pub lowest : Lowest p q
  pub exact : pos q *ℤ cost ≡ p *ℤ pos reward
  pub p_small : nat_abs p ≤ nat_abs cost
  pub q_small : q ≤ reward

-- the arcs of a cycle can be summed up, and earn
pub record Summed (cost : List ℤ) (reward cycle : List ℕ) : Type 0 where
  pub short : length cycle ≤ 2048
  pub costs : (i : ℕ) → i < length cycle → at cycle i < length cost
  pub rewards : (i : ℕ) → i < length cycle → at cycle i < length reward
  pub cost_small : nat_abs (sum (atℤ cost) cycle) ≤ 20480000
  pub earns : 0 < total (at reward) cycle

-- the cycle in hand: the first k entries
pub record InHand (F T : List ℕ) (n : ℕ) (hand : List ℕ) (k : ℕ) : Type 0 where
  pub short : k ≤ n
  pub room : n ≤ length hand
  pub cycle : SimpleCycle F T (length F) (take k hand)

-- it earns
abbrev pub Earns : List ℕ → List ℕ → ℕ → Type 0
Earns reward hand k = 0 < total (at reward) (take k hand)

-- the ratio of the cycle c is below that of d: its cost times d's reward is below d's cost times its reward
abbrev pub Cheaper : List ℤ → List ℕ → List ℕ → List ℕ → Type 0
Cheaper cost reward c d = (sum (atℤ cost) c *ℤ pos (total (at reward) d)) <ℤ (sum (atℤ cost) d *ℤ pos (total (at reward) c))

-- the potentials at the ratio p / q of the cycle in hand are written, and there is no cycle below it
pub record LeastInHand (F T : List ℕ) (cost : List ℤ) (reward : List ℕ) (n : ℕ) (potential potential' : List ℤ) (hand : List ℕ) (p : ℤ) (q k : ℕ) : Type 0 where
  pub in_hand : InHand F T n hand k
  pub earns : Earns reward hand k
  pub ratio : RatioOf cost reward (take k hand) p q
  pub p_small : nat_abs p ≤ 20480000
  pub q_small : q ≤ 20480000
  pub none_below : NoneNegative F T (length F) (weight_of (pos q) (neg_ℤ p) (pos 0) cost reward)
  pub potentials : (v : ℕ) → v < n → PotentialOrMark F T (length F) (weight_of (pos q) (neg_ℤ p) (pos 0) cost reward) v (atℤ potential' v)
  pub rest : drop n potential' ≡ drop n potential

-- a cheaper cycle that earns is in hand, and no potential is written
pub record Improved (F T : List ℕ) (cost : List ℤ) (reward : List ℕ) (n k j : ℕ) (potential potential' : List ℤ) (hand hand' : List ℕ) : Type 0 where
  pub in_hand : InHand F T n hand' j
  pub earns : Earns reward hand' j
  pub cheaper : Cheaper cost reward (take j hand') (take k hand)
  pub kept : potential' ≡ potential

-- a cycle earns and one without reward makes money, and no potential is written
pub record GainFound (F T : List ℕ) (cost : List ℤ) (reward : List ℕ) (potential potential' : List ℤ) : Type 0 where
  pub earning : EarningArcs F T (length F) reward
  pub gain : IdleGainArcs F T (length F) cost reward
  pub kept : potential' ≡ potential

abbrev pub Turned : List ℕ → List ℕ → List ℤ → List ℕ → ℕ → ℕ → List ℤ → List ℤ → List ℕ → List ℕ → Turn → Type 0
Turned F T cost reward n k potential potential' hand hand' (Turn.Better j) = Improved F T cost reward n k j potential potential' hand hand'
Turned F T cost reward n k potential potential' hand hand' Turn.Gains = GainFound F T cost reward potential potential'
Turned F T cost reward n k potential potential' hand hand' (Turn.Done f) = LeastInHand F T cost reward n potential potential' hand' f.p f.q k

abbrev pub SettledBy : List ℕ → List ℕ → List ℤ → List ℕ → ℕ → List ℤ → List ℤ → List ℕ → Option Ratio → Type 0
SettledBy F T cost reward n potential potential' hand' None = GainFound F T cost reward potential potential'
SettledBy F T cost reward n potential potential' hand' (Some r) = LeastInHand F T cost reward n potential potential' hand' r.p r.q r.arcs
