-- Record by record.
use mathlib.Core.Path.{refl, ap}
use Prim.Native.Nat.{ℕ}
use native.Mathlib.Omega.{arith}
use lib.ListN.{replicate}
use Rattle.sheet.specs.Records.{record_at}
use Rattle.sheet.specs.Decoded.{filled, edge_of, blank_edge, edges_of}
use Rattle.sheet.specs.declared.fields.Kind.TheVariants.{EdgeRecord}
use Rattle.sheet.proofs.RecordLaws.{at_le, at_more}
use Rattle.sheet.proofs.DecodeLaws.{filled_more}
use Rattle.sheet.proofs.BlankLaws.{blank_edge_is}
use Rattle.reader.proofs.decode.read_edges.Goals as goal

pub loop-e-init : goal.loop-e-init
unfolding record_at filled edges_of
loop-e-init c = (refl, ap (replicate 32) (blank_edge_is c.default-all.ensures))

pub map_at-map-requires : goal.map_at-map-requires
map_at-map-requires c = omega (arith, at_le EdgeRecord c.args.sheet.now c.args.from c.loop-e.e)

pub invariant_of-record : goal.invariant_of-record
invariant_of-record c = record { near = omega (arith, at_le EdgeRecord c.args.sheet.now c.args.from c.loop-e.e); mapped = c.map_at-map.ensures }

pub loop-e-preserved : goal.loop-e-preserved
unfolding edges_of
loop-e-preserved c =
    let s = c.args.sheet.now in
    let l = c.loop-e in
    (cc (at_more EdgeRecord s c.args.from l.e), cc (filled_more (λ (k : ℕ). edge_of s (record_at EdgeRecord s c.args.from k)) blank_edge 32 l.e))
