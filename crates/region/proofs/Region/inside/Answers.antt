-- All of the first clocks.
use mathlib.Core.Path.{refl, ◌∙◌}
use native.Mathlib.Omega.{arith}
use lib.ListN.{get_or}
use Rattle.automaton.specs.Bounds.{interval, upper_holds}
use Rattle.region.specs.Arrays.{bounds_in}
use Rattle.region.proofs.ClockLaws.{all_clocks}
use Rattle.std.proofs.Common.{rules, tests}
use Rattle.std.proofs.lemmas.Iterator.{YieldsList-from_range}
use Rattle.std.proofs.lemmas.Iterator.Search.{all_from_yields_List}
use Rattle.region.proofs.Region.inside.Goals as goal

pub returns : goal.returns
unfolding bounds_in
returns c =
    let r = c.args.self in
    all_from_yields_List (λ j. upper_holds (get_or c.args.upper j 0) (interval (get_or r.whole j 0) (get_or r.class j 0)))
    c.all.new.self _ c.all.result c.all.ensures.ran (YieldsList-from_range 0 c.min.result c.min.result refl (omega arith)) (λ x b q k. search (rules, tests))
    ∙ all_clocks (λ j x. upper_holds (get_or c.args.upper j 0) x) r.whole r.class (search rules) (search rules) c.args.clocks c.min.result c.min.ensures
