-- The bounds of the first locations.
use mathlib.Core.Bool.{Bool}
use Rattle.std.proofs.Common.{rules, tests}
use Rattle.std.proofs.lemmas.Iterator.{YieldsList-from_slice}
use Rattle.std.proofs.lemmas.Iterator.Search.{all_from_yields_List}
use Rattle.sheet.specs.declared.Location.{Location}
use Rattle.work.specs.PrivatePromises.{all_of_parity}
use Rattle.work.proofs.closed.bounds_closed.Goals as goal

pub returns : goal.returns
returns c =
    let a = c.args in
    let odd : Location → Bool = λ l. all_of_parity l.upper a.clocks 1 in
    all_from_yields_List odd _ _ c.all.result c.all.ensures.ran (YieldsList-from_slice a.locations.now cc) (λ x b q k. search (rules, tests))
