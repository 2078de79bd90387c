-- The refusal of its number, and blank records.
use lib.ListN.{replicate}
use Rattle.sheet.proofs.BlankLaws.{blank_location_is, blank_edge_is}
use Rattle.reader.proofs.decode.refused.Goals as goal

pub returns : goal.returns
returns c = λ i. record {
  refusal = c.number.ensures i;
  edition = 0;
  locations = 0;
  clocks = 0;
  edges = 0;
  location = replicate 12 (blank_location_is c.default.ensures i);
  edge = replicate 32 (blank_edge_is c.default-2.ensures i);
}
