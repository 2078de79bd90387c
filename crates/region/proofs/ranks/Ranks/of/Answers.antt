-- One product.
use mathlib.Core.Path.{refl}
use Rattle.region.proofs.DigitLaws.{product}
use Rattle.region.proofs.ranks.Ranks.of.Goals as goal

pub invariant_of-result : goal.invariant_of-result
invariant_of-result c = record {
  low = c.requires;
  ranked = rw c.from-above_0.ensures (product c.args.class c.value_digits.result _ c.value_digits.ensures refl);
}
