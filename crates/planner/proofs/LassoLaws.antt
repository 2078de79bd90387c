-- The arcs that `lasso_of` laid out: a lasso, no longer than there are nodes, of arcs of the graph.
use mathlib.Core.Path.{◌≡◌, sym, ap, ◌∙◌, subst}
use mathlib.Core.List.{List, ◌++◌}
use Prim.Native.Nat.{ℕ, ◌+◌, ◌-◌, ◌≤◌, ◌<◌}
use native.Mathlib.Omega.{arith}
use lib.IntN.{ℤ}
use lib.ListN.{length, take, drop, replicate, length-replicate}
use lib.Seq.{slice, length-take-le, length-slice, get_or-take, get_or-drop, take-length}
use Rattle.walks.specs.Walk.{at}
use Rattle.walks.specs.Lasso.{ArcLasso}
use Rattle.walks.proofs.Lassos.{lasso_arc, lasso_short}
use Rattle.walks.proofs.Trees.{slice_join, take_part}
use Rattle.lasso.specs.Answer.{LassoArguments, LaidOut, LassoAnswered}
use Rattle.std.specs.Prelude.{Result, Ok, Err}
use Rattle.walks.specs.declared.Malformed.{Malformed}
use Rattle.lasso.proofs.Laying.{lasso_laid}
use Rattle.contract.specs.Explored.{Found}
use Rattle.contract.proofs.Arcs.{cost_of, reward_of}
use Rattle.contract.proofs.Graphs.{cost_turned, reward_turned}
use Rattle.planner.specs.PrivatePromises.{Cyclic, Pickable, Summable}

module _ {F T C : List ℕ} {Z : List ℤ} {R order tree cycle : List ℕ} {n k s : ℕ} {arcs arcs' : List ℕ} (c : Cyclic F T C Z R order tree cycle n k)
    (sized : length arcs' ≡ 4096) (laid : LaidOut F T tree cycle n k s arcs arcs') where
  abbrev pub stem : List ℕ
  stem = take s arcs'

  abbrev pub turned : List ℕ
  turned = slice s (s + k) arcs'

  room : s + k ≤ 4096
  room = omega (arith, laid.short, c.formed.arcs_room)

  pub stem_sized : length stem ≡ s
  stem_sized = length-take-le s arcs' (omega (arith, room))

  pub turned_sized : length turned ≡ k
  turned_sized = length-slice s (s + k) arcs' (omega (arith, room)) ∙ omega arith

  pub is_lasso_lem : ArcLasso F T (length F) stem turned
  is_lasso_lem = lasso_laid F T tree cycle n k s arcs arcs' c.simple.hub c.formed.cycle_room laid c.simple.cycle.walk c.simple.simple

  pub short : s + k ≤ n
  short = omega (arith, lasso_short F T (length F) stem turned is_lasso_lem n c.sources, stem_sized, turned_sized)

  -- the arcs in order
  pub joined_at : (i : ℕ) → i < s + k → at (stem ++ turned) i ≡ at arcs' i
  joined_at i h = ap (λ (l : List ℕ). at l i) (sym (slice_join 0 s (s + k) arcs' (omega arith) (omega arith))) ∙ get_or-take (s + k) arcs' i 0 h

  arc : (i : ℕ) → i < s + k → at arcs' i < length F
  arc i l = omega (
    arith,
    sym (joined_at i l),
    lasso_arc F T (length F) stem turned is_lasso_lem i (omega (arith, stem_sized, turned_sized)),
  )

  -- the codes of the first j
  pub codes_pickable : {j : ℕ} (steps : List ℕ) → 2048 ≤ length steps → j ≤ s + k → Pickable C (take j arcs') (length (take j arcs')) steps
  codes_pickable {j} steps h m =
      let long : length (take j arcs') ≡ j = length-take-le j arcs' (omega (arith, room)) in record {
        named = omega arith;
        there = λ i l. omega (arith, get_or-take j arcs' i 0 (omega arith), arc i (omega arith), c.codes);
        room = omega (arith, short, c.formed.few);
      }

  pub turned_is : take (s + k - s) (drop s arcs') ≡ turned
  turned_is = let e : s + k - s ≡ k = omega arith in
      ap (λ (n : ℕ). take n (drop s arcs')) e ∙ ap (λ (l : List ℕ). take k (drop s l)) (sym (take-length arcs'))
      ∙ take_part s k (length arcs') arcs' (omega (arith, room))

  turned_arc : (i : ℕ) → i < length turned → at turned i < length F
  turned_arc i l = omega (
    arith,
    get_or-drop s (take (s + k) arcs') i 0,
    get_or-take (s + k) arcs' (s + i) 0 (omega (arith, turned_sized)),
    arc (s + i) (omega (arith, turned_sized)),
  )

  pub turned_summable : Summable C Z R turned
  turned_summable = record {
    few = omega (arith, turned_sized, short, c.formed.few);
    codes = λ i l. omega (arith, turned_arc i l, c.codes);
    costs = λ i l. omega (arith, turned_arc i l, c.costs);
    rewards = λ i l. omega (arith, turned_arc i l, c.rewards);
  }

  -- the turned cycle costs and earns what the cycle does
  whole : take k cycle ≡ take laid.turn cycle ++ slice laid.turn k cycle
  whole = slice_join 0 laid.turn k cycle (omega arith) (omega (arith, laid.below))

  pub turned_cost : (g : Found) → cost_of g turned ≡ cost_of g (take k cycle)
  turned_cost g = ap (cost_of g) laid.turned ∙ cost_turned g (take laid.turn cycle) (slice laid.turn k cycle) ∙ sym (ap (cost_of g) whole)

  pub turned_reward : (g : Found) → reward_of g turned ≡ reward_of g (take k cycle)
  turned_reward g = ap (reward_of g) laid.turned ∙ reward_turned g (take laid.turn cycle) (slice laid.turn k cycle) ∙ sym (ap (reward_of g) whole)

-- by what `lasso_of` answered
module _ (F T tree cycle : List ℕ) (n k : ℕ) (arcs' : List ℕ) (A : Result ℕ Malformed) (z : LassoAnswered F T tree cycle n k (replicate 4096 0) arcs' A) where
  pub never : {m : Malformed} → A ≡ Err m → LassoArguments F T tree cycle n k 4096 → ⊥
  never e w = (subst (LassoAnswered F T tree cycle n k (replicate 4096 0) arcs') e z).0
      (subst (LassoArguments F T tree cycle n k) (sym (length-replicate {A = ℕ} 4096 0)) w)

  pub laid_of : {s : ℕ} → A ≡ Ok s → LaidOut F T tree cycle n k s (replicate 4096 0) arcs'
  laid_of e = (subst (LassoAnswered F T tree cycle n k (replicate 4096 0) arcs') e z).1
