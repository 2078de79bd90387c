-- Each record before the one in hand differs from all before it.
use mathlib.Core.Path.{◌≡◌}
use mathlib.Core.Bool.{true}
use Rattle.sheet.specs.Questions.{each}
use Rattle.sheet.proofs.PairLaws.{begins, keys, differs, is_new}
use Rattle.reader.proofs.distinct.check_distinct.Given as goal

abbrev pub invariant-loop-i : goal.invariant-loop-i
invariant-loop-i l = each l.i (differs l.sheet l.from l.j) ≡ true

abbrev pub invariant-loop-j : goal.invariant-loop-j
invariant-loop-j l = record {
  place : l.at ≡ begins l.sheet l.from l.j;
  kept : l.keys ≡ keys l.sheet l.from l.j;
  new : each l.j (is_new l.sheet l.from) ≡ true;
}
