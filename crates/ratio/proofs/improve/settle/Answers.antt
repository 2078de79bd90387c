-- A simple cycle that earns is in hand, and its height falls.
use Rattle.ratio.proofs.TurnLaws.{falls}
use Rattle.ratio.proofs.improve.settle.Goals as goal

pub loop-j-smaller : goal.loop-j-smaller
loop-j-smaller c =
    let b = c.in-Better.ensures in
    falls c.requires.ratio_arguments c.loop-j.invariant.0.0 c.loop-j.invariant.0.1 b.in_hand b.earns b.cheaper
