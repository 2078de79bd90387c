-- The time of a work plan: its pairs, read as a run with n = 1, take the units of the step codes that they are made of.
use mathlib.Core.Path.{◌≡◌, refl, sym, ap, ◌∙◌}
use mathlib.Core.Bool.{Bool, true, false, cond, ◌||◌}
use mathlib.Core.List.{List, [], ◌∷◌, ◌++◌}
use Prim.Native.Nat.{ℕ, ◌+◌, ◌<◌}
use native.Mathlib.Omega.{arith}
use lib.IntN.{ℤ}
use lib.ListN.{length}
use Rattle.automaton.specs.Automaton.{Automaton}
use Rattle.automaton.specs.Times.{units_of, units_along, time}
use Rattle.automaton.proofs.Tests.{by_bool}
use Rattle.automaton.proofs.Times.{edge_units, units_append}
use Rattle.schedules.specs.Pairs.{Pair, is_edge, members, pairs_from, pairs_of}
use Rattle.schedules.specs.Turning.{until_edge, past_edge, stem_pairs, cycle_pairs}
use Rattle.schedules.specs.WorkPlan.{WorkPlan}
use Rattle.schedules.specs.WalkTerms.{rest_from}
use Rattle.schedules.proofs.EdgeInCycle.{has_edge}
use Rattle.schedules.proofs.CodeLaws.{pairs_none, pairs_edge, pairs_delay, rest_none, rest_edge, rest_delay}
use Rattle.schedules.proofs.PairLaws.{by_kind}
use Rattle.schedules.proofs.TurnLaws.{parts_whole, TurnedAt, LastEdge, until_ends, last_after, nothing_left}
use Rattle.schedules.proofs.PlanSizes.{each_some}

-- the waits and what remains are the units, with those behind
pairs_time : (w : ℕ) (codes : List ℕ) → time (members (pairs_from w codes)) + rest_from w codes ≡ w + units_along codes
unfolding time members units_along
pairs_time w [] = omega (arith, ap (λ (ps : List Pair). time (members ps)) (pairs_none w), rest_none w)
pairs_time w (code ∷ codes) = let f = pairs_time 0 codes in let g = pairs_time (w + units_of code) codes in by_kind code
    (λ l. omega (arith, ap (λ (ps : List Pair). time (members ps)) (pairs_edge w code codes l), rest_edge w code codes l, edge_units code l, f))
    (λ l. omega (arith, ap (λ (ps : List Pair). time (members ps)) (pairs_delay w code codes l), rest_delay w code codes l, g))

-- with an edge at the end nothing remains
ended_time : {e : ℕ} (codes : List ℕ) → LastEdge e codes → time (members (pairs_of codes)) ≡ units_along codes
ended_time codes h = omega (arith, pairs_time 0 codes, nothing_left codes h)

-- ---- codes that make a pair when they are turned have an edge

edgeless : (codes : List ℕ) → has_edge codes ≡ false → past_edge codes ≡ []
unfolding has_edge past_edge
edgeless [] e = refl
edgeless (code ∷ codes) e = let ih = edgeless codes in go (is_edge code) ih e
  where
    go : (b : Bool) → (has_edge codes ≡ false → past_edge codes ≡ []) → b || has_edge codes ≡ false → cond b codes (past_edge codes) ≡ []
    go true ih e = absurd (let z : ◌≡◌ {A = ℕ} 0 1 = cc in omega arith)
    go false ih e = ih e

pairless : (w : ℕ) (codes : List ℕ) → has_edge codes ≡ false → pairs_from w (until_edge codes) ≡ []
unfolding has_edge until_edge pairs_from
pairless w [] e = refl
pairless w (code ∷ codes) e = let ih = pairless (w + units_of code) codes in go (is_edge code) ih e
  where
    go : (b : Bool) → (has_edge codes ≡ false → pairs_from (w + units_of code) (until_edge codes) ≡ []) → b || has_edge codes ≡ false
        → cond b (record { wait = w; edge = code } ∷ pairs_from 0 (cond b [] (until_edge codes))) (pairs_from (w + units_of code) (cond b [] (until_edge codes))) ≡ []
    go true ih e = absurd (let z : ◌≡◌ {A = ℕ} 0 1 = cc in omega arith)
    go false ih e = ih e

turned_at : (cycle : List ℕ) → 0 < length (cycle_pairs cycle) → TurnedAt cycle
turned_at cycle some = by_bool (has_edge cycle) (until_ends cycle)
    (λ no. absurd (omega (arith, ap length (ap (λ (l : List ℕ). pairs_of (l ++ until_edge cycle)) (edgeless cycle no) ∙ pairless 0 cycle no))))

-- ---- the time of the cycle, and of the stem with its part of the cycle

module _ {A : Automaton} (stem cycle : List ℕ) {c : ℤ} {r : ℕ} (h : WorkPlan A (stem_pairs stem cycle) (cycle_pairs cycle) c r) where
  turned : TurnedAt cycle
  turned = turned_at cycle (each_some h).1

  pub cycle_time : time (members (cycle_pairs cycle)) ≡ units_along cycle
  cycle_time = omega (
    arith,
    ended_time (past_edge cycle ++ until_edge cycle) (last_after (past_edge cycle) (until_edge cycle) turned.last),
    units_append (past_edge cycle) (until_edge cycle),
    sym (units_append (until_edge cycle) (past_edge cycle)) ∙ ap units_along (parts_whole cycle),
  )

  pub stem_time : time (members (stem_pairs stem cycle)) ≡ units_along stem + units_along (until_edge cycle)
  stem_time = ended_time (stem ++ until_edge cycle) (last_after stem (until_edge cycle) turned.last) ∙ units_append stem (until_edge cycle)
