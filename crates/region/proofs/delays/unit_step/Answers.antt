-- By the edition.
use borrow.Author.Tests.{ne_eqb}
use Rattle.nodes.specs.Decoded.{alone}
use Rattle.region.proofs.delays.unit_step.Goals as goal

pub returns-else-edition-eq1 : goal.returns-else-edition-eq1
unfolding alone
returns-else-edition-eq1 c =
    simp (ne_eqb _ 1 c.if-edition-eq1.false) c.unit_in-else-edition-eq1.ensures
