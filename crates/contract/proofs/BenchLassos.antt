-- Every lasso of Bench with its ratio, by trying all walks of at most seven steps: it has no stem, and one of two cycles.
use mathlib.Core.Path.{◌≡◌, refl, sym, ap, ◌∙◌, subst}
use mathlib.Core.Bool.{Bool, true, false, ◌&&◌, ◌||◌, not}
use mathlib.Core.List.{List, [], ◌∷◌, ◌++◌, zip_with}
use Prim.Native.Nat.{ℕ, ◌+◌, ◌≤◌, ◌<◌}
use native.Mathlib.Decide.{ℕ_discrete}
use native.Mathlib.Omega.{arith}
use borrow.Author.Tests.{eqb-true, eq-eqb, not-true}
use lib.Dec.{eqb}
use lib.IntN.{pos, ◌+ℤ◌}
use lib.ListN.{length, take, drop, length-take, take-append-drop}
use lib.Seq.{slice, take-take}
use Rattle.automaton.specs.Tests.{every}
use Rattle.automaton.specs.Ranks.{rank, close_up, mask, largest}
use Rattle.automaton.specs.Automaton.{in_bounds, in_guards}
use Rattle.automaton.specs.Priced.{chain}
use Rattle.automaton.specs.Nodes.{start_node}
use Rattle.automaton.specs.Steps.{edge_step, unit_step, move_step, step}
use Rattle.automaton.specs.Walks.{Walk}
use Rattle.automaton.proofs.Tests.{clash, fails, &&-left, &&-right, &&-intro}
use Rattle.automaton.proofs.Walks.{walk_nil, walk_append}
use Rattle.sheet.specs.Bytes.{signed_of}
use Rattle.sheet.specs.Maps.{place_of}
use Rattle.sheet.specs.Fields.{field_of}
use Rattle.sheet.specs.Records.{field_place, value_at, field_at, record_length, record_at}
use Rattle.sheet.specs.Questions.{each}
use Rattle.sheet.proofs.QuestionLaws.{each_at, each_true}
use Rattle.nodes.specs.Numbers.{clocks_from, number, list_from, node_of, step_by}
use Rattle.nodes.specs.Meaning.{meaning, layout_of}
use Rattle.contract.specs.Accepted.{Lasso}
use Rattle.contract.specs.Plan.{step_on, start_of}
use Rattle.contract.specs.Rules.{all_true, is_allowed, has_ratio, is_lasso}
use Rattle.contract.specs.BenchTable.{bench}
use Rattle.contract.proofs.Graphs.{code_below}
use Rattle.contract.proofs.Rules.{or_cases, allowed_is}
use Rattle.contract.proofs.LassoKept.{lasso_kept}
use Rattle.contract.proofs.TriedWalks.{tried, tried_walk}

-- ---- the test
same_codes : List ℕ → List ℕ → Bool
same_codes [] [] = true
same_codes [] (y ∷ l) = false
same_codes (x ∷ k) [] = false
same_codes (x ∷ k) (y ∷ l) = eqb x y && same_codes k l

same_codes_lem : (k l : List ℕ) → same_codes k l ≡ true → k ≡ l
unfolding same_codes
same_codes_lem [] [] h = refl
same_codes_lem [] (y ∷ l) h = clash h refl
same_codes_lem (x ∷ k) [] h = clash h refl
same_codes_lem (x ∷ k) (y ∷ l) h =
    ap (λ (z : ℕ). z ∷ k) (eqb-true x y (&&-left (eqb x y) (same_codes k l) h)) ∙ ap (λ (r : List ℕ). y ∷ r) (same_codes_lem k l (&&-right (eqb x y) (same_codes k l) h))

-- do the first j codes lead to the start?
at_start : List ℕ → ℕ → Bool
at_start l j = is_allowed (λ v. eqb v.to (start_of bench)) (chain (step_on bench) (start_of bench) (take j l))

-- the walk does not come to the start before its end
stays_away : List ℕ → Bool
stays_away l = each (length l) (λ j. eqb j 0 || not (at_start l j))

-- the first s codes and the others are a lasso with the ratio 3/1 that does not come to the start before its end
is_fit : List ℕ → ℕ → Bool
is_fit l s = stays_away l && is_lasso (step_on bench) (start_of bench) (has_ratio (pos 3) 1) (take s l) (drop s l)

-- a move, a unit, a move and edge 0; or one move more before the edge
abbrev pub early : List ℕ
early = 33 ∷ 32 ∷ 33 ∷ 0 ∷ []

abbrev pub late : List ℕ
late = 33 ∷ 32 ∷ 33 ∷ 33 ∷ 0 ∷ []

is_one_of_two : List ℕ → ℕ → Bool
is_one_of_two l s = same_codes (take s l) [] && (same_codes (drop s l) early || same_codes (drop s l) late)

test : List ℕ → Bool
test l = each 8 (λ s. not (is_fit l s) || is_one_of_two l s)

computed : tried (step_on bench) 7 test (start_of bench) ≡ true
unfolding tried test is_one_of_two is_fit stays_away at_start same_codes is_lasso all_true each
    meaning step_by node_of list_from number clocks_from record_at record_length field_at value_at field_place field_of place_of signed_of
    step move_step unit_step edge_step start_node chain in_guards in_bounds largest mask close_up rank every zip_with
computed = refl

-- ---- the lassos
pub data BenchCycle (codes : List ℕ) : Type 0 where
  leaves_early : codes ≡ early → BenchCycle codes
  leaves_late : codes ≡ late → BenchCycle codes

or_true : (a b : Bool) → b ≡ true → a || b ≡ true
or_true true b h = refl
or_true false b h = h

module _ (s m : ℕ) (codes : List ℕ) (w : Lasso (step_on bench) (start_of bench) (pos 3) 1 s m codes) (few : s + m ≤ 7) where
  abbrev all : List ℕ
  all = take (s + m) codes

  front : (j : ℕ) → j ≤ s + m → take j all ≡ take j codes
  front j h = take-take j (s + m) codes h

  length_all : length all ≤ s + m
  length_all = omega (arith, length-take (s + m) codes)

  walked : Walk (step_on bench) (start_of bench) all w.node (w.stem_cost +ℤ w.cost) (w.stem_reward + w.reward)
  walked = subst (λ (l : List ℕ). Walk (step_on bench) (start_of bench) l w.node (w.stem_cost +ℤ w.cost) (w.stem_reward + w.reward))
      (ap (λ (l : List ℕ). l ++ drop s all) (sym (front s (omega arith))) ∙ take-append-drop s all) (walk_append (step_on bench) w.stem w.cycle)

  -- no node is met twice, and so the start is not met again before the end
  not_home : (j : ℕ) → 0 < j → j < length all → at_start all j ≡ true → ⊥
  unfolding at_start
  not_home j h b t =
      let v = allowed_is (λ v. eqb v.to (start_of bench)) (chain (step_on bench) (start_of bench) (take j all)) t in
      let l : j < s + m = omega (arith, length_all) in
      w.simple 0 j h l (start_of bench) (pos 0) v.value.cost 0 v.value.reward (walk_nil (step_on bench) (start_of bench))
      (subst (λ (z : ℕ). Walk (step_on bench) (start_of bench) (take j codes) z v.value.cost v.value.reward)
      (eqb-true v.value.to (start_of bench) v.passes)
      (record { walks = ap (chain (step_on bench) (start_of bench)) (sym (front j (omega arith))) ∙ v.is }))

  away : stays_away all ≡ true
  unfolding stays_away
  away = each_true (length all) (λ j. eqb j 0 || not (at_start all j)) (λ j b. elim (ℕ_discrete j 0) [
    | yes e ↦ ap (λ (t : Bool). t || not (at_start all j)) (eq-eqb j 0 e)
    | no n ↦ or_true (eqb j 0) (not (at_start all j)) (ap not (fails (at_start all j) (not_home j (omega arith) b)))
  ])

  fit : is_fit all s ≡ true
  unfolding is_fit
  fit = &&-intro away (ap (λ (l : List ℕ). is_lasso (step_on bench) (start_of bench) (has_ratio (pos 3) 1) l (drop s all)) (front s (omega arith))
      ∙ lasso_kept (step_on bench) (start_of bench) (pos 3) 1 s m codes w)

  one_of_two : is_one_of_two all s ≡ true
  unfolding test
  one_of_two =
      let passes = tried_walk (step_on bench) (code_below (layout_of bench) (meaning bench)) 7 test (start_of bench) computed all _ (omega (arith, length_all)) walked.walks in
      or_cases (not (is_fit all s)) (is_one_of_two all s) (each_at 8 (λ i. not (is_fit all i) || is_one_of_two all i) passes s (omega (arith, w.some_step)))
      (λ t. clash fit (not-true (is_fit all s) t)) (λ t. t)

  pub no_stem : take s codes ≡ []
  unfolding is_one_of_two
  no_stem = sym (front s (omega arith)) ∙ same_codes_lem (take s all) [] (&&-left (same_codes (take s all) []) _ one_of_two)

  pub two_cycles : BenchCycle (slice s (s + m) codes)
  unfolding is_one_of_two
  two_cycles = or_cases (same_codes (drop s all) early) (same_codes (drop s all) late) (&&-right (same_codes (take s all) []) _ one_of_two)
      (λ t. leaves_early (same_codes_lem (drop s all) early t)) (λ t. leaves_late (same_codes_lem (drop s all) late t))
