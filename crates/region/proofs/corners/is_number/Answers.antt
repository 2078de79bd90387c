-- By the edition.
use borrow.Author.Tests.{ne_eqb}
use Rattle.nodes.specs.Decoded.{alone}
use Rattle.region.proofs.corners.is_number.Goals as goal

pub returns-else-edition-eq1 : goal.returns-else-edition-eq1
unfolding alone
returns-else-edition-eq1 c =
    simp (ne_eqb _ 1 c.if-edition-eq1.false) c.is_number_in-else-edition-eq1.ensures
