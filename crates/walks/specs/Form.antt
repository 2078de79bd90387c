-- The graphs and the coefficients that the search takes.
use Rattle.std.specs.Prelude.{◌≡◌, List, ℕ, ◌≤◌, ◌<◌, length, ℤ, nat_abs}
use Rattle.walks.specs.Walk.{at, atℤ}

-- the arc e lies between nodes below n, and its prices are in range
pub record Arc (F T : List ℕ) (cost : List ℤ) (reward : List ℕ) (n e : ℕ) : Type 0 where
  pub source : at F e < n
  pub target : at T e < n
  pub cost_small : nat_abs (atℤ cost e) ≤ 10000
  pub reward_small : at reward e ≤ 10000

-- n nodes, and as many arcs as F has entries
pub record Graph (F T : List ℕ) (cost : List ℤ) (reward : List ℕ) (n : ℕ) : Type 0 where
  pub some : 0 < n
  pub nodes : n ≤ 2048
  pub arcs : length F ≤ 69632
  pub tos : length T ≡ length F
  pub costs : length cost ≡ length F
  pub rewards : length reward ≡ length F
  pub arc : (e : ℕ) → e < length F → Arc F T cost reward n e

-- the coefficients of the cost, of the reward and of the arc itself are in range
pub record CoefficientsInRange (a b c : ℤ) : Type 0 where
  pub a_small : nat_abs a ≤ 20480000
  pub b_small : nat_abs b ≤ 20480001
  pub c_small : nat_abs c ≤ 1
