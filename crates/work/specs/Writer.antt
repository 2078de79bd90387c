-- A writer of pairs: the two lists that it is lent.
use Rattle.std.specs.Prelude.{◌≡◌}
use Rattle.work.specs.Work.{PairBuffers, lent_pairs}
use Rattle.work.specs.declared.pairs.PairWriter.{PairWriter}

abbrev pub pairs_in : PairWriter → PairBuffers
pairs_in w = lent_pairs w.waits.now w.edges.now

-- both lists stay where they are
pub record SamePairLists (old new : PairWriter) : Type 0 where
  pub waits : new.waits.ghost_name ≡ old.waits.ghost_name
  pub edges : new.edges.ghost_name ≡ old.edges.ghost_name
