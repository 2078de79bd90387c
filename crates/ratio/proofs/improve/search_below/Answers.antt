-- The search at the ratio of the cycle in hand.
use mathlib.Core.Path.{sym, ◌∙◌}
use native.Mathlib.Omega.{arith}
use lib.ListN.{length}
use Rattle.ratio.proofs.Bounds.{in_cycle, summed}
use Rattle.ratio.proofs.TurnLaws.{q_fits, neg_fits, at_ratio, formed, handed, improved, gained, settled}
use Rattle.ratio.proofs.improve.search_below.Goals as goal

pub fraction_of-ratio-requires : goal.fraction_of-ratio-requires
fraction_of-ratio-requires c = summed c.requires.ratio_arguments.graph c.requires.in_hand c.requires.earns

pub overflow_cast-below : goal.overflow_cast-below
overflow_cast-below c = let r = c.requires in q_fits r.ratio_arguments r.in_hand r.earns c.fraction_of-ratio.ensures

pub overflow_sub-below : goal.overflow_sub-below
overflow_sub-below c = let r = c.requires in neg_fits r.ratio_arguments r.in_hand r.earns c.fraction_of-ratio.ensures

pub reward_sum-earned-requires-clause-arcs_in : goal.reward_sum-earned-requires-clause-arcs_in
reward_sum-earned-requires-clause-arcs_in c =
    let r = c.requires in
    let g = r.ratio_arguments.graph in
    let s = at_ratio r.ratio_arguments r.in_hand r.earns c.fraction_of-ratio.ensures _ _ _ _ c.negative_cycle.ensures in
    let y = rw (c.in-Ok-Some.is, c.in-Ok-Some.field-0-is) at s in
    let h = handed _ (omega (arith, r.in_hand.room, c.negative_cycle.auto.cycle)) y.1 in
    λ i l. omega (arith, in_cycle g h i l, g.rewards)

pub returns-then-earned-eq0 : goal.returns-then-earned-eq0
returns-then-earned-eq0 c =
    let r = c.requires in
    let s = at_ratio r.ratio_arguments r.in_hand r.earns c.fraction_of-ratio.ensures _ _ _ _ c.negative_cycle.ensures in
    let y = rw (c.in-Ok-Some.is, c.in-Ok-Some.field-0-is) at s in
    gained r.ratio_arguments r.in_hand r.earns c.fraction_of-ratio.ensures (sym c.reward_sum-earned.ensures ∙ c.if-earned-eq0.true) y.1

pub returns-in-Err : goal.returns-in-Err
returns-in-Err c =
    let r = c.requires in
    let s = at_ratio r.ratio_arguments r.in_hand r.earns c.fraction_of-ratio.ensures _ _ _ _ c.negative_cycle.ensures in
    let y = rw c.in-Err.is at s in
    absurd (y.0 (formed r.ratio_arguments r.in_hand r.earns c.fraction_of-ratio.ensures (length c.args.potential.now) (length c.args.hand.now)
    r.ratio_arguments.potential_room r.in_hand.room))

pub returns-in-Ok-None : goal.returns-in-Ok-None
returns-in-Ok-None c =
    let r = c.requires in
    let s = at_ratio r.ratio_arguments r.in_hand r.earns c.fraction_of-ratio.ensures _ _ _ _ c.negative_cycle.ensures in
    let y = rw (c.in-Ok-None.is, c.in-Ok-None.field-0-is) at s in
    settled r.ratio_arguments r.in_hand r.earns c.fraction_of-ratio.ensures y.1

pub returns-else-earned-eq0 : goal.returns-else-earned-eq0
returns-else-earned-eq0 c =
    let r = c.requires in
    let s = at_ratio r.ratio_arguments r.in_hand r.earns c.fraction_of-ratio.ensures _ _ _ _ c.negative_cycle.ensures in
    let y = rw (c.in-Ok-Some.is, c.in-Ok-Some.field-0-is) at s in
    improved r.ratio_arguments r.in_hand r.earns c.fraction_of-ratio.ensures c.negative_cycle.auto.cycle
    (omega (arith, c.reward_sum-earned.ensures, c.if-earned-eq0.false)) y.1
