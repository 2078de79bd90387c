-- How many pairs a work plan has: each list one at least, and both together one more than the lasso has steps at most.
use mathlib.Core.Path.{◌≡◌, sym, ap, ◌∙◌}
use mathlib.Core.Bool.{Bool, true, false, cond}
use mathlib.Core.List.{List, [], ◌∷◌, ◌++◌}
use Prim.Native.Nat.{ℕ, ◌+◌, ◌≤◌, ◌<◌}
use native.Mathlib.Omega.{arith}
use lib.IntN.{ℤ}
use lib.ListN.{length, length-append}
use Rattle.automaton.specs.Automaton.{Automaton}
use Rattle.automaton.specs.Times.{units_of}
use Rattle.schedules.specs.Pairs.{Pair, is_edge, pairs_from, pairs_of}
use Rattle.schedules.specs.Turning.{until_edge, past_edge, stem_pairs, cycle_pairs}
use Rattle.schedules.specs.WorkPlan.{EndsWith, WorkPlan}
use Rattle.schedules.specs.WalkTerms.{rest_of}
use Rattle.schedules.proofs.PairLaws.{pairs_append, pairs_few}
use Rattle.schedules.proofs.TurnLaws.{parts_whole}

some_pair : {e : ℕ} {pairs : List Pair} → EndsWith e pairs → 0 < length pairs
some_pair {e} h = omega (arith, ap length h.is, length-append h.before (record { wait = h.wait; edge = e } ∷ []))

pub each_some : {A : Automaton} {stem cycle : List Pair} {c : ℤ} {r : ℕ} → WorkPlan A stem cycle c r → (0 < length stem) × (0 < length cycle)
each_some h = (some_pair h.stem_ends, some_pair h.cycle_ends)

until_one : (w : ℕ) (codes : List ℕ) → length (pairs_from w (until_edge codes)) ≤ 1
unfolding until_edge pairs_from
until_one w [] = omega arith
until_one w (code ∷ codes) = let ih = until_one (w + units_of code) codes in go (is_edge code) ih
  where
    go : (b : Bool) → length (pairs_from (w + units_of code) (until_edge codes)) ≤ 1
        → length (cond b (record { wait = w; edge = code } ∷ pairs_from 0 (cond b [] (until_edge codes))) (pairs_from (w + units_of code) (cond b [] (until_edge codes)))) ≤ 1
    go true h = omega arith
    go false h = h

module _ (stem cycle : List ℕ) where
  parts_length : length (until_edge cycle) + length (past_edge cycle) ≡ length cycle
  parts_length = sym (length-append (until_edge cycle) (past_edge cycle)) ∙ ap length (parts_whole cycle)

  -- the stem has one pair more than steps at most, and the cycle no more than steps
  stem_few : length (stem_pairs stem cycle) ≤ length stem + 1
  stem_few = omega (
    arith,
    ap length (pairs_append 0 stem (until_edge cycle)) ∙ length-append (pairs_of stem) (pairs_from (rest_of stem) (until_edge cycle)),
    pairs_few 0 stem,
    until_one (rest_of stem) cycle,
  )

  cycle_few : length (cycle_pairs cycle) ≤ length cycle
  cycle_few = omega (arith, pairs_few 0 (past_edge cycle ++ until_edge cycle), length-append (past_edge cycle) (until_edge cycle), parts_length)

  pub lasso_few : length (stem_pairs stem cycle) + length (cycle_pairs cycle) ≤ length stem + length cycle + 1
  lasso_few = omega (arith, stem_few, cycle_few)
