-- The bytes of the first clocks, tested one by one.
use mathlib.Core.Path.{◌∙◌}
use mathlib.Core.Bool.{Bool}
use Prim.Native.Nat.{ℕ, ◌%◌}
use lib.Dec.{eqb}
use Rattle.std.proofs.Common.{rules, tests}
use Rattle.std.proofs.lemmas.Iterator.{YieldsList-from_slice, YieldsList-from_take}
use Rattle.std.proofs.lemmas.Iterator.Search.{all_from_yields_List}
use Rattle.work.proofs.EachLaws.{each_upto}
use Rattle.work.proofs.closed.all_of_parity.Goals as goal

pub returns : goal.returns
returns c =
    let a = c.args in
    let has : ℕ → Bool = λ b. eqb (b % 2) a.parity in
    all_from_yields_List has _ _ c.all.result c.all.ensures.ran
    (YieldsList-from_take _ (YieldsList-from_slice a.bytes cc) c.take.ensures.count) (λ x b q k. search (rules, tests))
    ∙ each_upto has a.bytes 0 _ 4 (search rules)
