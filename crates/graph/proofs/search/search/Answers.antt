-- `Running` at a round's start, and the buffers are as they were.
use mathlib.Core.Path.{◌≡◌, refl, sym, ap, subst}
use native.Mathlib.Omega.{arith}
use lib.ListN.{set, drop, replicate}
use lib.IntN.{ℤ, pos}
use Rattle.walks.specs.SearchNumbers.{per_round}
use Rattle.walks.specs.SearchTerms.{Running}
use mathlib.Core.List.{List, ◌++◌}
use Rattle.walks.proofs.RaisedWeights.{widen}
use Rattle.walks.proofs.RoundTurns.{turn_lengths, view, all_settled, go_on, first_round}
use Rattle.graph.proofs.Found.{potentials_found, part_of, sized, copied_whole, cycle_found}
use Rattle.graph.proofs.search.search.Goals as goal

pub loop-v-init : goal.loop-v-init
loop-v-init c =
    let a = c.args.arcs in
    let k = c.args.k in
    let e : c.fill.new.self ≡ replicate 2048 (pos 1152921504606846976) = c.fill.ensures.after (λ y h. h) in (
      subst (λ (l : List ℤ). Running a.from.now a.to.now a.cost.now a.reward.now k.a k.b k.c (set l 0 (pos 0)) (replicate 2048 0) (set (replicate 2048 0) 0 per_round) per_round 0)
          (sym e) (first_round _ _ _ _ _ _ _ 2048 refl (widen c.requires.is_graph) c.requires.in_range),
      refl,
      refl,
      refl,
    )

pub climb-requires-clause-is_view : goal.climb-requires-clause-is_view
climb-requires-clause-is_view c = view (widen c.requires.is_graph) c.requires.in_range c.in-Some.ensures.1

pub offset_bounds-climbed-part : goal.offset_bounds-climbed-part
offset_bounds-climbed-part c =
    let p = part_of c.requires.is_graph c.requires.in_range c.in-Some.ensures.1 c.in-Some-climb.ensures in
    omega (arith, p.some, p.within)

pub slice_bounds-found-count : goal.slice_bounds-found-count
slice_bounds-found-count c =
    let p = part_of c.requires.is_graph c.requires.in_range c.in-Some.ensures.1 c.in-Some-climb.ensures in
    omega (arith, p.some)

pub slice_bounds-found-start : goal.slice_bounds-found-start
slice_bounds-found-start c =
    let p = part_of c.requires.is_graph c.requires.in_range c.in-Some.ensures.1 c.in-Some-climb.ensures in
    omega (arith, p.some, p.within)

pub slice_bounds-found-end : goal.slice_bounds-found-end
slice_bounds-found-end c =
    let p = part_of c.requires.is_graph c.requires.in_range c.in-Some.ensures.1 c.in-Some-climb.ensures in
    omega (arith, p.some, p.within)

pub slice_bounds-copy_from_slice-end : goal.slice_bounds-copy_from_slice-end
slice_bounds-copy_from_slice-end c =
    let p = part_of c.requires.is_graph c.requires.in_range c.in-Some.ensures.1 c.in-Some-climb.ensures in
    omega (arith, sized c.requires.is_graph c.requires.in_range p, p.few, c.requires.cycle_room, c.loop-v.auto.cycle)

pub slice_bounds-copy_from_slice-end-in-Some-climb : goal.slice_bounds-copy_from_slice-end-in-Some-climb
slice_bounds-copy_from_slice-end-in-Some-climb c =
    let p = part_of c.requires.is_graph c.requires.in_range c.in-Some.ensures.1 c.in-Some-climb.ensures in
    sym (copied_whole c.requires.is_graph c.requires.in_range p c.loop-v.cycle (omega (arith, c.requires.cycle_room, c.loop-v.auto.cycle)))

pub copy_from_slice-requires : goal.copy_from_slice-requires
copy_from_slice-requires c =
    let p = part_of c.requires.is_graph c.requires.in_range c.in-Some.ensures.1 c.in-Some-climb.ensures in
    copied_whole c.requires.is_graph c.requires.in_range p c.loop-v.cycle (omega (arith, c.requires.cycle_room, c.loop-v.auto.cycle))

pub returns-in-Some-climb : goal.returns-in-Some-climb
returns-in-Some-climb c =
    let p = part_of c.requires.is_graph c.requires.in_range c.in-Some.ensures.1 c.in-Some-climb.ensures in
    cycle_found c.requires.is_graph c.requires.in_range p c.copy_from_slice.ensures.after refl refl c.loop-v.invariant.3

pub loop-v-preserved : goal.loop-v-preserved
loop-v-preserved c =
    let y = c.in-Some.ensures in
    let climbed = c.in_default-climb.ensures (view (widen c.requires.is_graph) c.requires.in_range y.1) in
    let onward = go_on (widen c.requires.is_graph) c.requires.in_range y.1 (λ e. omega (arith, y.0, e)) (climbed.root (omega arith)) c.round.new.self.potential refl in
    (onward.1, c.climb.array_long, refl, c.loop-v.invariant.3)

pub returns : goal.returns
returns c =
    let left = turn_lengths c.round.new.self.potential c.in_default.ensures.state in
    potentials_found c.requires.is_graph c.requires.in_range c.round.new.self.potential left.0
    (all_settled (widen c.requires.is_graph) c.requires.in_range c.in_default.ensures refl)
    (ap (λ (x : List ℤ). x ++ drop c.args.nodes c.args.potential.now) c.copy_from_slice-2.ensures.after) refl c.loop-v.invariant.3
