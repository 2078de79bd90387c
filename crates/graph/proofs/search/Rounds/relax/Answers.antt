-- The arc is relaxed as the laws of the search have it.
use mathlib.Core.Path.{◌≡◌}
use Prim.Native.Nat.{ℕ, ◌≤◌}
use lib.IntN.{ℤ, nat_abs}
use Rattle.walks.proofs.Tests.{fits, passed}
use Rattle.walks.proofs.RaisedWeights.{raised_weight_is, small}
use Rattle.walks.proofs.RelaxTurns.{kept, changed}
use Rattle.graph.proofs.search.Rounds.relax.Goals as goal

light : (r z : ℤ) (n : ℕ) → r ≡ z → nat_abs z ≤ n → nat_abs r ≤ n
light r z n p h = rw p h

pub sum_at-x-requires-clause-small : goal.sum_at-x-requires-clause-small
sum_at-x-requires-clause-small c =
    light _ _ _ (passed c.weight.result c.weight.type_inv c.weight.ensures)
    (small c.requires.running.graph c.requires.running.in_range _ c.requires.e_in_bounds)

pub returns-then-improves : goal.returns-then-improves
returns-then-improves c =
    changed c.requires.running c.requires.e_in_bounds c.from-u.ensures c.from-v.ensures (fits c.sum_at-x.result c.sum_at-x.type_inv) c.if-self-u.false
    (raised_weight_is _ _ _ _ _ _ _ (passed c.weight.result c.weight.type_inv c.weight.ensures)) c.sum_at-x.ensures c.improves.ensures c.if-improves.true _ c.put.ensures

pub returns : goal.returns
returns c =
    kept c.requires.running c.requires.e_in_bounds c.from-u.ensures c.from-v.ensures (fits c.sum_at-x.result c.sum_at-x.type_inv) c.if-self-u.false
    (raised_weight_is _ _ _ _ _ _ _ (passed c.weight.result c.weight.type_inv c.weight.ensures)) c.sum_at-x.ensures c.improves.ensures c.if-improves.false
