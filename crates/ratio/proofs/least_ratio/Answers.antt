-- The search by rewards alone, and then what follows it.
use mathlib.Core.Path.{refl}
use native.Mathlib.Omega.{arith}
use lib.IntN.{pos}
use lib.ListN.{replicate}
use Rattle.ratio.specs.Answer.{no_to_13}
use Rattle.ratio.proofs.Searches.{earns, none_earns}
use Rattle.ratio.proofs.RatioAnswerLaws.{SearchByReward, by_reward, found, none}
use Rattle.ratio.proofs.least_ratio.Goals as goal

pub least_from-requires-clause-earns : goal.least_from-requires-clause-earns
least_from-requires-clause-earns c =
    let a = c.args.arcs in
    let i : SearchByReward a.from.now a.to.now a.cost.now a.reward.now c.args.nodes (replicate 2048 (pos 0)) c.negative_cycle.new.potential (replicate 2048 0) c.negative_cycle.new.cycle c.negative_cycle.result =
    by_reward c.negative_cycle.ensures (record { a_small = omega arith; b_small = omega arith; c_small = omega arith }) refl refl refl refl in
    earns a.from.now a.to.now a.cost.now a.reward.now i.b i.negative i.some _ (found i c.in-Ok-Some.is c.in-Ok-Some.field-0-is).negative

pub returns-in-Ok-None : goal.returns-in-Ok-None
returns-in-Ok-None c =
    let a = c.args.arcs in
    let i : SearchByReward a.from.now a.to.now a.cost.now a.reward.now c.args.nodes (replicate 2048 (pos 0)) c.negative_cycle.new.potential (replicate 2048 0) c.negative_cycle.new.cycle c.negative_cycle.result =
    by_reward c.negative_cycle.ensures (record { a_small = omega arith; b_small = omega arith; c_small = omega arith }) refl refl refl refl in
    let y = none i c.in-Ok-None.is c.in-Ok-None.field-0-is in (
      (
        record { graph = y.0; potential_room = omega arith; cycle_room = omega arith },
        no_to_13 refl (none_earns a.from.now a.to.now a.cost.now a.reward.now i.b i.negative i.some y.1.none),
      ),
      record { potentials = refl; cycles = refl },
    )
