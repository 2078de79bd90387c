-- The guards of the first edges.
use mathlib.Core.Bool.{Bool, ◌&&◌}
use Rattle.std.proofs.Common.{rules, tests}
use Rattle.std.proofs.lemmas.Iterator.{YieldsList-from_slice}
use Rattle.std.proofs.lemmas.Iterator.Search.{all_from_yields_List}
use Rattle.sheet.specs.declared.Edge.{Edge}
use Rattle.work.specs.PrivatePromises.{all_of_parity}
use Rattle.work.proofs.closed.guards_closed.Goals as goal

pub returns : goal.returns
returns c =
    let a = c.args in
    let both : Edge → Bool = λ e. all_of_parity e.lower a.clocks 0 && all_of_parity e.upper a.clocks 1 in
    all_from_yields_List both _ _ c.all.result c.all.ensures.ran (YieldsList-from_slice a.edges.now cc) (λ x b q k. search (rules, tests))
