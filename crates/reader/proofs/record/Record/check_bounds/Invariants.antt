-- The bits passed are set.
use mathlib.Core.Path.{◌≡◌}
use mathlib.Core.Bool.{true}
use Prim.Native.Nat.{◌+◌}
use Rattle.sheet.specs.Maps.{stands}
use Rattle.sheet.specs.Fields.{bound_bit}
use Rattle.sheet.specs.Records.{map_of}
use Rattle.sheet.specs.Questions.{each}
use Rattle.sheet.specs.declared.fields.Kind.TheVariants.{LocationRecord}
use Rattle.reader.proofs.record.Record.check_bounds.Given as goal

abbrev pub invariant-loop-j : goal.invariant-loop-j
invariant-loop-j l = each l.j (λ i. stands (map_of LocationRecord l.self.sheet.now l.self.at) (bound_bit + i)) ≡ true
