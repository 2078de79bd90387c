-- Clock by clock.
use mathlib.Core.Path.{◌∙◌}
use Prim.Native.Nat.{suc}
use native.Mathlib.Numerals.{add-one}
use lib.ListN.{get_or}
use Rattle.region.specs.Arrays.{if_clock}
use Rattle.region.proofs.ArrayLaws.{filled_four, clock_map}
use Rattle.std.proofs.Common.{rules}
use Rattle.region.proofs.numbers.Unpacked.after_rise.Goals as goal

pub returns : goal.returns
returns c =
    let n = c.args.self.node in
    let class = n.region.class in
    λ i. record {
      location = n.location;
      region = record {
        whole = n.region.whole;
        class = (filled_four (λ j. if_clock c.args.clocks j (suc (get_or class j 0))) c.from_fn-class.result
            (search rules) (search rules) (search rules) (search rules) (search rules)
            ∙ clock_map suc c.args.clocks 4 class (search rules)) i;
      };
      corner = add-one n.corner i;
    }
