-- Up to place i there is no edge.
use native.Mathlib.Omega.{arith}
use Rattle.work.proofs.EdgeSearch.{ends, found, goes_on}
use Rattle.work.proofs.turn.past_edge.Goals as goal
use Rattle.work.proofs.turn.past_edge.Goals.{in-32, in-33, in_default+else-code-lt32}

pub returns-in-0-to-31-clause-until : goal.returns-in-0-to-31-clause-until
returns-in-0-to-31-clause-until c = (found c.args.codes.now c.loop-i.invariant (omega arith) (omega arith)).until

pub returns-in-0-to-31-clause-past : goal.returns-in-0-to-31-clause-past
returns-in-0-to-31-clause-past c = (found c.args.codes.now c.loop-i.invariant (omega arith) (omega arith)).past

pub loop-i-preserved : goal.loop-i-preserved
loop-i-preserved c = goes_on c.args.codes.now c.loop-i.invariant (omega arith)
    (elim c.match-code.branch [ in-32 w ↦ omega arith | in-33 w ↦ omega arith | in_default+else-code-lt32 w ↦ omega arith ])

pub returns-clause-until : goal.returns-clause-until
returns-clause-until c = (ends c.args.codes.now c.loop-i.invariant (omega arith)).until

pub returns-clause-past : goal.returns-clause-past
returns-clause-past c = (ends c.args.codes.now c.loop-i.invariant (omega arith)).past
