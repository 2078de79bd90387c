-- `graph::potentials::too_low` meets its contract.
use mathlib.Core.Path.{◌≡◌}
use Rattle.walks.specs.Walk.{at, atℤ}
use Rattle.walks.specs.SearchNumbers.{start, raised, raised_all}
use Rattle.walks.proofs.Tests.{again}
use Rattle.walks.proofs.Signed.{elem, is_too_low}
use Rattle.graph.proofs.potentials.too_low.Goals as goal

pub returns : goal.returns
returns c =
    let E : raised start (again (atℤ c.args.potential.now c.args.v)) ≡ at (raised_all start c.args.potential.now) c.args.v =
    elem start c.args.potential.now c.args.v c.requires c.y-1.given in
    is_too_low _ _ (rw E at c.less.ensures)
