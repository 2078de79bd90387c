-- The loop's invariant is `Marks` and, whatever the rest of the graph is, `Climbing`.
use mathlib.Core.Path.{refl}
use native.Mathlib.Omega.{arith}
use Rattle.walks.proofs.ClimbTurns.{top_some, top_most, arc_of, climb_again, climb_begun, climb_rooted, climb_round}
use Rattle.graph.proofs.climb.climb.Goals as goal

pub loop-mark-init : goal.loop-mark-init
loop-mark-init c = climb_begun _ _ _ _ 2048 _ c.requires.in_view refl c.requires.climbed_length

pub returns-then-p-eq0 : goal.returns-then-p-eq0
returns-then-p-eq0 c = λ g. climb_rooted c.loop-mark.invariant.0 c.loop-mark.invariant.1 g c.loop-mark-test.true c.if-p-eq0.true 0

pub overflow_sub-top : goal.overflow_sub-top
overflow_sub-top c = top_some c.loop-mark.invariant.0 c.loop-mark-test.true

pub bounds-climbed-top : goal.bounds-climbed-top
bounds-climbed-top c = omega (arith, top_most c.loop-mark.invariant.0, top_some c.loop-mark.invariant.0 c.loop-mark-test.true)

pub offset_bounds-from-p : goal.offset_bounds-from-p
offset_bounds-from-p c = omega (arith, arc_of c.loop-mark.invariant.0 c.requires.is_view c.if-p-eq0.false)

pub bounds-from-p : goal.bounds-from-p
bounds-from-p c = (arc_of c.loop-mark.invariant.0 c.requires.is_view c.if-p-eq0.false).0

pub loop-mark-smaller : goal.loop-mark-smaller
loop-mark-smaller c = omega (arith, top_some c.loop-mark.invariant.0 c.loop-mark-test.true)

pub loop-mark-preserved : goal.loop-mark-preserved
loop-mark-preserved c =
    climb_again c.requires.is_view c.loop-mark.invariant.0 c.loop-mark.invariant.1 c.loop-mark-test.true c.if-p-eq0.false c.from-x.ensures

pub returns : goal.returns
returns c = λ g. climb_round c.loop-mark.invariant.0 c.loop-mark.invariant.1 g c.loop-mark-test.false
