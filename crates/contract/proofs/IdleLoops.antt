-- "the comparison with runs in nths includes idle loops": of an accepted sheet none of them makes money.
use mathlib.Core.Path.{◌≡◌}
use mathlib.Core.List.{List}
use Prim.Native.Nat.{ℕ, ◌<◌}
use lib.IntN.{ℤ, pos}
use lib.Signed.{◌≤ℤ◌}
use Rattle.automaton.specs.Runs.{Member}
use Rattle.automaton.specs.Loops.{Loop, NoLoopBelow}
use Rattle.nodes.specs.Meaning.{meaning}
use Rattle.contract.specs.Plan.{Answer, Buffers, Planned}
use Rattle.contract.proofs.Feasible.{idle_cost}

module _ {bytes : List ℕ} {before after : Buffers} {a : Answer} (h : Planned bytes before after a) (ok : a.refusal ≡ 0) where
  pub idle_loops_cost : (n : ℕ) → 0 < n → (members : List Member) (c : ℤ) → Loop (meaning bytes) n members c 0 → pos 0 ≤ℤ c
  unfolding NoLoopBelow
  idle_loops_cost n some members c l = idle_cost a.p c a.q (h.accepted ok).ratio.lowest.positive (h.no_loop_below ok n some members c 0 l)
