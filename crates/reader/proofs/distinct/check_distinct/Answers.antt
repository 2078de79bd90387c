-- Each record before the one in hand differs from all before it.
use mathlib.Core.Path.{◌≡◌, refl, sym, ap, ap₂, ◌∙◌}
use mathlib.Core.Bool.{not}
use mathlib.Core.List.{List}
use Prim.Native.Nat.{ℕ, ◌+◌}
use native.Mathlib.Omega.{arith}
use lib.ListN.{set, replicate}
use Rattle.sheet.specs.Records.{record_at, record_length}
use Rattle.sheet.specs.Questions.{each}
use Rattle.sheet.specs.Decoded.{filled}
use Rattle.sheet.specs.Keys.{key_of, blank_key}
use Rattle.sheet.specs.declared.keys.Key.{Key}
use Rattle.sheet.specs.declared.fields.Kind.TheVariants.{EdgeRecord}
use Rattle.sheet.proofs.RecordLaws.{at_le, at_more, at_inside, length-le}
use Rattle.sheet.proofs.QuestionLaws.{each_none, each_more}
use Rattle.sheet.proofs.DecodeLaws.{filled_more}
use Rattle.sheet.proofs.BlankLaws.{blank_key_is}
use Rattle.sheet.proofs.PairLaws.{begins, differs, is_new, kept, compared, twice, none_twice}
use Rattle.reader.proofs.distinct.check_distinct.Goals as goal

pub loop-j-init : goal.loop-j-init
unfolding record_at filled
loop-j-init c = record { place = refl; kept = ap (replicate 32) (blank_key_is c.default-keys.ensures); new = each_none (is_new c.args.sheet.now c.args.from) }

pub map_at-map-requires : goal.map_at-map-requires
map_at-map-requires c = omega (arith, c.loop-j.invariant.place, at_le EdgeRecord c.args.sheet.now c.args.from c.loop-j.j)

pub invariant_of-edge : goal.invariant_of-edge
invariant_of-edge c = record { near = omega (arith, c.loop-j.invariant.place, at_le EdgeRecord c.args.sheet.now c.args.from c.loop-j.j); mapped = c.map_at-map.ensures }

pub key-key-requires-clause-room : goal.key-key-requires-clause-room
key-key-requires-clause-room c =
    let a = c.args in
    omega (arith, c.loop-j.invariant.place, ap (record_length EdgeRecord a.sheet.now) c.loop-j.invariant.place, at_inside EdgeRecord a.sheet.now a.from a.edges c.loop-j.j (omega arith))

pub loop-i-init : goal.loop-i-init
loop-i-init c = each_none (differs c.args.sheet.now c.args.from c.loop-j.j)

pub same_record-requires-clause-keys : goal.same_record-requires-clause-keys
same_record-requires-clause-keys c =
    let a = c.args in
    let v = c.loop-j.invariant in
    let x = kept a.sheet.now a.from c.loop-j.keys c.loop-i.i c.loop-j.j v.kept (omega arith) (omega arith) in
    let y = c.key-key.ensures in
    (x ∙ ap (λ (k : Key). key_of a.sheet.now k.at) (sym x), y ∙ ap (λ (k : Key). key_of a.sheet.now k.at) (sym y))

pub same_record-requires-clause-places : goal.same_record-requires-clause-places
same_record-requires-clause-places c =
    let a = c.args in
    let v = c.loop-j.invariant in
    let x = kept a.sheet.now a.from c.loop-j.keys c.loop-i.i c.loop-j.j v.kept (omega arith) (omega arith) in
    omega (
      arith,
      v.place,
      ap (λ (k : Key). k.at) x,
      ap (λ (k : Key). k.at) c.key-key.ensures,
      at_le EdgeRecord a.sheet.now a.from c.loop-i.i,
      at_le EdgeRecord a.sheet.now a.from c.loop-j.j,
    )

pub loop-i-preserved : goal.loop-i-preserved
loop-i-preserved c =
    let a = c.args in
    let v = c.loop-j.invariant in
    each_more c.loop-i.i (differs a.sheet.now a.from c.loop-j.j) c.loop-i.invariant
    (compared a.sheet.now a.from c.loop-i.i c.loop-j.j _ _ c.same_record.result
    (kept a.sheet.now a.from c.loop-j.keys c.loop-i.i c.loop-j.j v.kept (omega arith) (omega arith))
    (c.key-key.ensures ∙ ap (key_of a.sheet.now) v.place) c.same_record.ensures ∙ ap not c.if-same_record.false)

pub overflow_add-at : goal.overflow_add-at
overflow_add-at c =
    let a = c.args in
    omega (arith, c.loop-j.invariant.place, ap (λ (k : Key). k.length) c.key-key.ensures, length-le EdgeRecord a.sheet.now c.loop-j.at, at_le EdgeRecord a.sheet.now a.from c.loop-j.j)

pub loop-j-preserved : goal.loop-j-preserved
loop-j-preserved c =
    let a = c.args in
    let v = c.loop-j.invariant in
    let here : c.key-key.result ≡ key_of a.sheet.now (begins a.sheet.now a.from c.loop-j.j) = c.key-key.ensures ∙ ap (key_of a.sheet.now) v.place in
    let last : c.loop-j.j ≡ c.loop-i.i = omega arith in
    record {
      place = ap₂ ◌+◌ v.place (ap (λ (k : Key). k.length) here) ∙ sym (at_more EdgeRecord a.sheet.now a.from c.loop-j.j);
      kept = ap₂ (λ (k : List Key) (x : Key). set k c.loop-j.j x) v.kept here
          ∙ filled_more (λ i. key_of a.sheet.now (begins a.sheet.now a.from i)) blank_key 32 c.loop-j.j;
      new = each_more c.loop-j.j (is_new a.sheet.now a.from) v.new
          (ap (λ (n : ℕ). each n (differs a.sheet.now a.from c.loop-j.j)) last ∙ c.loop-i.invariant);
    }

pub returns-then-same_record : goal.returns-then-same_record
returns-then-same_record c =
    let a = c.args in
    let v = c.loop-j.invariant in
    twice a.edges a.sheet.now a.from c.loop-i.i c.loop-j.j (omega arith) (omega arith)
    (compared a.sheet.now a.from c.loop-i.i c.loop-j.j _ _ c.same_record.result
    (kept a.sheet.now a.from c.loop-j.keys c.loop-i.i c.loop-j.j v.kept (omega arith) (omega arith))
    (c.key-key.ensures ∙ ap (key_of a.sheet.now) v.place) c.same_record.ensures ∙ ap not c.if-same_record.true)

pub returns-after-loop-j : goal.returns-after-loop-j
returns-after-loop-j c =
    let a = c.args in
    none_twice a.edges a.sheet.now a.from c.loop-j.j (omega arith) (omega arith) c.loop-j.invariant.new
