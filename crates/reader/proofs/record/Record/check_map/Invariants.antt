-- The bits passed are clear or permitted.
use mathlib.Core.Path.{◌≡◌}
use mathlib.Core.Bool.{true}
use Rattle.sheet.specs.Records.{map_of, edition_of}
use Rattle.sheet.specs.Questions.{each, bit_good}
use Rattle.reader.proofs.record.Record.check_map.Given as goal

abbrev pub invariant-loop-b : goal.invariant-loop-b
invariant-loop-b l = let r = l.self in each l.b (bit_good (edition_of r.sheet.now) r.kind l.counts.clocks (map_of r.kind r.sheet.now r.at)) ≡ true
