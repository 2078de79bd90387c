-- Entry by entry.
use mathlib.Core.Path.{ap, ◌∙◌}
use mathlib.Core.List.{map}
use lib.ListN.{get_or}
use Rattle.automaton.specs.Ranks.{rank, close_up}
use Rattle.nodes.specs.Numbers.{list_from}
use Rattle.region.proofs.ArrayLaws.{four, filled_four}
use Rattle.std.proofs.Common.{rules}
use Rattle.region.proofs.ranks.Ranks.closed_up.Goals as goal

pub returns : goal.returns
unfolding close_up list_from
returns c =
    let xs = c.args.self.class in
    filled_four (λ j. rank xs (get_or xs j 0)) c.from_fn.result
    (search rules) (search rules) (search rules) (search rules) (search rules)
    ∙ ap (map (rank xs)) (four xs (search rules))
