-- Clock by clock.
use mathlib.Core.Path.{ap, ◌∙◌}
use mathlib.Core.Bool.{cond}
use lib.ListN.{get_or}
use Rattle.automaton.specs.Ranks.{mask}
use Rattle.sheet.specs.Maps.{stands}
use Rattle.nodes.specs.Numbers.{list_from}
use Rattle.region.proofs.ArrayLaws.{four, filled_four}
use Rattle.std.proofs.Common.{rules}
use Rattle.region.proofs.edges.reset_parts.Goals as goal

pub returns : goal.returns
unfolding mask list_from
returns c =
    filled_four (λ j. cond (stands c.args.reset j) 0 (get_or c.args.parts j 0)) c.from_fn.result
    (search rules) (search rules) (search rules) (search rules) (search rules)
    ∙ ap (mask (stands c.args.reset)) (four c.args.parts (search rules))
