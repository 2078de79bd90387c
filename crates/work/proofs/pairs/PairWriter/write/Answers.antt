-- What is still to be written of the codes left is all that is to be written.
use native.Mathlib.Omega.{arith}
use Rattle.work.proofs.PairSteps.{at_place, place_left, edge_comes, unit_comes, move_comes, none_left}
use Rattle.work.proofs.pairs.PairWriter.write.Goals as goal
use Rattle.work.proofs.pairs.PairWriter.write.Goals.{in-32, in-33, in-0-to-31, in_default+else-code-lt32}

pub bounds-self-self : goal.bounds-self-self
bounds-self-self c =
    let next = at_place c.args.codes.now c.loop-code.code-index c.loop-code-test.true c.loop-code.invariant.going in
    (place_left next (omega arith) c.requires).0

pub bounds-self-self-in-0-to-31 : goal.bounds-self-self-in-0-to-31
bounds-self-self-in-0-to-31 c =
    let next = at_place c.args.codes.now c.loop-code.code-index c.loop-code-test.true c.loop-code.invariant.going in
    (place_left next (omega arith) c.requires).1

pub loop-code-preserved : goal.loop-code-preserved
loop-code-preserved c =
    let i = c.loop-code.invariant in
    let next = at_place c.args.codes.now c.loop-code.code-index c.loop-code-test.true i.going in
    elim c.match-code.branch [
      | in-32 w ↦ rw (w.self-is, w.wait-is) (record { same = i.same; going = unit_comes next (omega arith) })
      | in-33 w ↦ rw (w.self-is, w.wait-is) (record { same = i.same; going = move_comes next (omega arith) (λ q. omega arith) })
      | in-0-to-31 w ↦ rw (w.self-is, w.wait-is) (record { same = record { waits = i.same.waits; edges = i.same.edges }; going = edge_comes next (omega arith) })
      | in_default+else-code-lt32 w ↦ rw (w.self-is, w.wait-is) (record { same = i.same; going = move_comes next (omega arith) (λ q. omega arith) })
    ]

pub returns-clause-written : goal.returns-clause-written
returns-clause-written c = none_left c.args.codes.now c.loop-code.code-index c.loop-code-test.false c.loop-code.invariant.going
