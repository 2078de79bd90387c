-- The cost and the reward that an accepted plan tells of its cycle: the cycle earns, and cost over reward is the ratio.
use mathlib.Core.Path.{◌≡◌}
use mathlib.Core.List.{List}
use Prim.Native.Nat.{ℕ, ◌<◌}
use lib.IntN.{pos, ◌*ℤ◌}
use Rattle.contract.specs.Plan.{Answer, Buffers, Planned}

module _ {bytes : List ℕ} {before after : Buffers} {a : Answer} (h : Planned bytes before after a) (ok : a.refusal ≡ 0) where
  pub sums_earn : 0 < a.reward
  sums_earn = let x = h.accepted ok in rw x.sums.reward_is x.lasso.earns

  -- cost times q is reward times p
  pub sums_exact : pos a.q *ℤ a.cost ≡ a.p *ℤ pos a.reward
  sums_exact = let x = h.accepted ok in rw (x.sums.cost_is, x.sums.reward_is) x.lasso.exact
