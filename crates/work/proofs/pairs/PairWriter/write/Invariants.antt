-- What is still to be written of the codes left is all that is to be written.
use lib.ListN.{drop}
use Rattle.work.specs.Writer.{pairs_in, SamePairLists}
use Rattle.work.proofs.PairSteps.{Going}
use Rattle.work.proofs.pairs.PairWriter.write.Given as goal

abbrev pub invariant-loop-code : goal.invariant-loop-code
invariant-loop-code l = record {
  same : SamePairLists l.fn.self l.self;
  going : Going (pairs_in l.fn.self) l.fn.self.count l.fn.self.wait l.codes (pairs_in l.self) l.self.count l.wait (drop l.code-index l.codes);
}
