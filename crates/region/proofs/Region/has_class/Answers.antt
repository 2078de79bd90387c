-- Any of them.
use mathlib.Core.Path.{◌∙◌}
use lib.Dec.{eqb}
use lib.ListN.{take}
use Rattle.std.proofs.Common.{rules, tests}
use Rattle.std.proofs.lemmas.Iterator.{YieldsList-from_slice, YieldsList-from_take}
use Rattle.std.proofs.lemmas.Iterator.Search.{any_from_yields_List}
use Rattle.region.proofs.ClockLaws.{occurs_any}
use Rattle.region.proofs.Region.has_class.Goals as goal

pub returns : goal.returns
returns c =
    any_from_yields_List (eqb c.args.v) _ _ c.any.result c.any.ensures.ran
    (YieldsList-from_take c.args.clocks (YieldsList-from_slice c.args.self.class cc) cc) (λ x b q k. search (rules, tests))
    ∙ occurs_any c.args.v (take c.args.clocks c.args.self.class)
