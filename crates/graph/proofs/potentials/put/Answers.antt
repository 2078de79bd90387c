-- `graph::potentials::put` meets its contract.
use Rattle.walks.proofs.Signed.{stored}
use Rattle.graph.proofs.potentials.put.Goals as goal

pub returns : goal.returns
returns c =
    stored c.args.potential.now c.args.v c.args.x c.ranges.x
