-- Clock by clock.
use mathlib.Core.Path.{ap, ap₂, ◌∙◌}
use mathlib.Core.List.{map, zip_with}
use lib.ListN.{get_or}
use Rattle.automaton.specs.Steps.{carry_whole, carry_class}
use Rattle.nodes.specs.Numbers.{list_from}
use Rattle.region.proofs.ArrayLaws.{four, filled_four}
use Rattle.std.proofs.Common.{rules}
use Rattle.region.proofs.numbers.Unpacked.after_carry.Goals as goal

pub returns : goal.returns
unfolding zip_with list_from
returns c =
    let g = c.args.g in
    let n = c.args.self.node in
    let whole = n.region.whole in
    let class = n.region.class in
    λ i. record {
      location = n.location;
      region = record {
        whole = (filled_four (λ j. carry_whole g (get_or whole j 0) (get_or class j 0)) c.from_fn-carried.result
            (search rules) (search rules) (search rules) (search rules) (search rules)
            ∙ ap₂ (zip_with (carry_whole g)) (four whole (search rules)) (four class (search rules))) i;
        class = (filled_four (λ j. carry_class g (get_or class j 0)) c.map-class.result
            (search rules) (search rules) (search rules) (search rules) (search rules)
            ∙ ap (map (carry_class g)) (four class (search rules))) i;
      };
      corner = n.corner;
    }
