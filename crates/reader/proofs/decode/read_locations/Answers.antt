-- Record by record.
use mathlib.Core.Path.{refl, ap}
use Prim.Native.Nat.{ℕ}
use native.Mathlib.Omega.{arith}
use lib.ListN.{replicate}
use Rattle.sheet.specs.Records.{record_at}
use Rattle.sheet.specs.Decoded.{filled, location_of, blank_location, locations_of}
use Rattle.sheet.specs.declared.fields.Kind.TheVariants.{LocationRecord}
use Rattle.sheet.proofs.RecordLaws.{at_le, at_more}
use Rattle.sheet.proofs.DecodeLaws.{filled_more}
use Rattle.sheet.proofs.BlankLaws.{blank_location_is}
use Rattle.reader.proofs.decode.read_locations.Goals as goal

pub loop-i-init : goal.loop-i-init
unfolding record_at filled locations_of
loop-i-init c = (refl, ap (replicate 12) (blank_location_is c.default-all.ensures))

pub map_at-map-requires : goal.map_at-map-requires
map_at-map-requires c = omega (arith, at_le LocationRecord c.args.sheet.now 4 c.loop-i.i)

pub invariant_of-record : goal.invariant_of-record
invariant_of-record c = record { near = omega (arith, at_le LocationRecord c.args.sheet.now 4 c.loop-i.i); mapped = c.map_at-map.ensures }

pub loop-i-preserved : goal.loop-i-preserved
unfolding locations_of
loop-i-preserved c =
    let s = c.args.sheet.now in
    let l = c.loop-i in
    (cc (at_more LocationRecord s 4 l.i), cc (filled_more (λ (k : ℕ). location_of s (record_at LocationRecord s 4 k)) blank_location 12 l.i))
