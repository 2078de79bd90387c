-- The keys first, then the bytes.
use mathlib.Core.Path.{sym, ap, ◌∙◌}
use native.Mathlib.Omega.{arith}
use Rattle.sheet.specs.declared.keys.Key.{Key}
use Rattle.sheet.specs.declared.fields.Kind.TheVariants.{EdgeRecord}
use Rattle.sheet.proofs.RecordLaws.{length-le}
use Rattle.sheet.proofs.KeyLaws.{fronts_differ, backs_differ}
use Rattle.sheet.proofs.PairLaws.{bytes_compared}
use Rattle.reader.proofs.distinct.same_record.Goals as goal

pub returns-then-x-y : goal.returns-then-x-y
returns-then-x-y c =
    let a = c.args in
    let m = c.requires.keys in
    fronts_differ a.s.now a.x.at a.y.at (λ e. c.if-x-y.true (ap (λ (k : Key). k.front) m.0 ∙ e ∙ sym (ap (λ (k : Key). k.front) m.1)))

pub returns-then-x-y-2 : goal.returns-then-x-y-2
returns-then-x-y-2 c =
    let a = c.args in
    let m = c.requires.keys in
    backs_differ a.s.now a.x.at a.y.at (λ e. c.if-x-y-2.true (ap (λ (k : Key). k.back) m.0 ∙ e ∙ sym (ap (λ (k : Key). k.back) m.1)))

pub same_bytes-requires : goal.same_bytes-requires
same_bytes-requires c =
    let a = c.args in
    omega (arith, c.requires.places, ap (λ (k : Key). k.length) c.requires.keys.1, length-le EdgeRecord a.s.now a.y.at)

pub returns : goal.returns
returns c =
    let a = c.args in
    bytes_compared a.s.now a.x.at a.y.at a.y.length c.same_bytes.result (ap (λ (k : Key). k.length) c.requires.keys.1) c.same_bytes.ensures
