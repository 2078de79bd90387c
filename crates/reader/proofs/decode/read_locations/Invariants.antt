-- Record by record.
use mathlib.Core.Path.{◌≡◌}
use Rattle.sheet.specs.Records.{record_at}
use Rattle.sheet.specs.Decoded.{locations_of}
use Rattle.sheet.specs.declared.fields.Kind.TheVariants.{LocationRecord}
use Rattle.reader.proofs.decode.read_locations.Given as goal

abbrev pub invariant-loop-i : goal.invariant-loop-i
invariant-loop-i l = (l.at ≡ record_at LocationRecord l.sheet 4 l.i) × (l.all ≡ locations_of l.sheet l.i)
