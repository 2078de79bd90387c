-- The counts are those of a header that passed.
use native.Mathlib.Omega.{arith}
use Rattle.sheet.specs.declared.fields.Kind.TheVariants.{LocationRecord}
use Rattle.sheet.proofs.AcceptedLaws.{header}
use Rattle.sheet.proofs.RecordLaws.{at_le}
use Rattle.reader.proofs.decode.decoded.Goals as goal

pub read_locations-from-requires : goal.read_locations-from-requires
read_locations-from-requires c =
    omega (arith, c.from.ensures, c.byte-locations.ensures, (header c.args.sheet.now c.requires).locations)

pub read_edges-edge-requires : goal.read_edges-edge-requires
read_edges-edge-requires c =
    let h = header c.args.sheet.now c.requires in
    omega (
      arith,
      c.read_locations-from.ensures.end,
      c.from.ensures,
      c.byte-locations.ensures,
      h.locations,
      at_le LocationRecord c.args.sheet.now 4 c.from.result,
      c.from-2.ensures,
      c.byte-edges.ensures,
      h.edges,
    )
