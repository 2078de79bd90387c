-- Record by record.
use mathlib.Core.Path.{◌≡◌}
use Rattle.sheet.specs.Records.{record_at}
use Rattle.sheet.specs.Decoded.{edges_of}
use Rattle.sheet.specs.declared.fields.Kind.TheVariants.{EdgeRecord}
use Rattle.reader.proofs.decode.read_edges.Given as goal

abbrev pub invariant-loop-e : goal.invariant-loop-e
invariant-loop-e l = (l.at ≡ record_at EdgeRecord l.sheet l.from l.e) × (l.all ≡ edges_of l.sheet l.from l.e)
