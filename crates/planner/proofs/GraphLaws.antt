-- What `least_ratio` answered of the graph, and the ways out with a refusal.
use mathlib.Core.Path.{◌≡◌, refl, sym, ap, ◌∙◌, subst}
use mathlib.Core.Logic.{◌≢◌}
use mathlib.Core.Bool.{true, false, ◌||◌}
use mathlib.Core.List.{List}
use Prim.Native.Nat.{ℕ, ◌<◌}
use native.Mathlib.Omega.{arith}
use borrow.Author.Tests.{lt-leb, ne_eqb}
use lib.Dec.{leb, eqb}
use lib.IntN.{ℤ, pos}
use lib.ListN.{length, take, replicate}
use lib.Seq.{length-take-le, take-length}
use mir.Syntax.{w64}
use mir.Val.{to_z, of_z}
use mir.ValLaws.{to_z-of_z}
use Rattle.std.specs.Prelude.{Result, Ok, Err}
use Rattle.std.specs.Result.{is_err}
use Rattle.integers.proofs.Machine.{small}
use Rattle.walks.specs.Walk.{at}
use Rattle.walks.specs.Cycles.{EarningArcs, NoneEarns, IdleGainArcs}
use Rattle.walks.proofs.Walks.{walk_arc}
use Rattle.ratio.specs.Answer.{RatioFound, RatioAnswered}
use Rattle.ratio.specs.declared.Ratio.{Ratio}
use Rattle.ratio.specs.declared.NoRatio.{NoRatio}
use Rattle.ratio.proofs.RatioAnswerLaws.{room, numbered_13, numbered_14}
use Rattle.refusals.specs.declared.Refusal.{Refusal}
use Rattle.refusals.proofs.Laws.{never_0}
use Rattle.automaton.specs.Tests.{every}
use Rattle.automaton.proofs.Tests.{clash}
use Rattle.sheet.specs.Questions.{check_of, check_numbers}
use Rattle.nodes.proofs.CheckNumberLaws.{check_number, passes}
use Rattle.contract.specs.Plan.{Answer, refused_plan, Buffers, zeros, SameLengths, Passed, Judged, too_short, faulty, explored, Planned}
use Rattle.planner.specs.ContractTerms.{lent_buffers, answer_of}
use Rattle.planner.specs.declared.output.Plan.{Plan}
use Rattle.planner.specs.PrivatePromises.{Handed, Cyclic, PlannedButForClearing}

-- ---- what is settled
module _ {bytes : List ℕ} {before after : Buffers} {a : Answer} where
  pub settled_planned : Planned bytes before after a → PlannedButForClearing bytes before after a
  settled_planned w = record { judged = w.judged; numbers = w.numbers; kept = w.kept; accepted = λ _. w }

  -- an explored sheet is refused, and the buffers are still to be cleared
  pub settled_refused : (r : ℕ) → a ≡ refused_plan r → 0 < r → Passed bytes before → Planned bytes before (zeros before) (refused_plan r)
      → PlannedButForClearing bytes before after a
  settled_refused r e some passed w = record {
    judged = rw number w.judged;
    numbers = λ _. e ∙ ap refused_plan (sym number);
    kept = λ failed. absurd (failed passed);
    accepted = λ z. absurd (omega (arith, number));
  }
    where
      number : a.refusal ≡ r
      number = ap (λ (x : Answer). x.refusal) e

-- a refusal with nothing written
pub settled_kept : {bytes : List ℕ} (before : Buffers) {r : ℕ} {a : Answer} → a ≡ refused_plan r → Planned bytes before before (refused_plan r)
    → PlannedButForClearing bytes before before a
settled_kept {bytes} before e w = settled_planned (subst (Planned bytes before before) (sym e) w)

-- no refusal of a short buffer or of the check has this number
pub past_check : {bytes : List ℕ} {b : Buffers} {r : ℕ} → 11 < r → r ≢ 17 → Judged bytes b r → Passed bytes b
unfolding every
past_check high other (too_short e h) = absurd (omega arith)
past_check {bytes} high other (faulty e l c) = clash (passes (λ x. leb x 11 || eqb x 17) check_numbers refl (check_of bytes) (check_number bytes))
    (simp (lt-leb (check_of bytes) 11 (omega arith), ne_eqb (check_of bytes) 17 (λ q. other (e ∙ q))))
past_check high other (explored l c v) = (l, c)

-- a plan has no number, a refusal has one
pub planned_0 : (A : Result Plan Refusal) → is_err A ≡ false → (answer_of A).refusal ≡ 0
planned_0 (Ok a) e = refl
planned_0 (Err r) e = absurd (let z : true ≡ false = e in cc)

pub refused_some : (A : Result Plan Refusal) → is_err A ≡ true → 0 < (answer_of A).refusal
refused_some (Ok a) e = absurd (let z : false ≡ true = e in cc)
refused_some (Err r) e = omega (arith, never_0 r)

-- the buffers, once they are cleared
pub all_zero : {before : Buffers} {N : List ℕ} {P : List ℤ} {S N' : List ℕ} {P' : List ℤ} {S' : List ℕ} → SameLengths (lent_buffers N P S) before
    → N' ≡ replicate (length N) 0 → P' ≡ replicate (length P) (pos 0) → S' ≡ replicate (length S) 0 → lent_buffers N' P' S' ≡ zeros before
all_zero l en ep es =
    rw (en ∙ ap (λ (n : ℕ). replicate n 0) l.nodes, ep ∙ ap (λ (n : ℕ). replicate n (pos 0)) l.potentials, es ∙ ap (λ (n : ℕ). replicate n 0) l.steps) refl

-- an explored sheet is refused, and every entry is 0
pub refused_planned : {bytes : List ℕ} {before after : Buffers} {r : ℕ} {a : Answer} → a ≡ refused_plan r → Judged bytes before r → Passed bytes before
    → after ≡ zeros before → SameLengths after before → 0 < r → Planned bytes before after a
refused_planned e j passed zero same some = rw e record {
  judged = j;
  numbers = λ _. refl;
  kept = λ failed. absurd (failed passed);
  cleared = λ _ _. zero;
  lengths = same;
  accepted = λ z. absurd (omega arith);
  no_loop_below = λ z. absurd (omega arith);
  no_run_below = λ z. absurd (omega arith);
}

module _ {F T C : List ℕ} {Z : List ℤ} {R order tree : List ℕ} {n : ℕ} (h : Handed F T C Z R order tree n) (D : List ℤ) (cycle : List ℕ) (W : Result Ratio NoRatio)
    (z : RatioAnswered F T Z R n (replicate 2048 (pos 0)) D (replicate 2048 0) cycle W) where
  abbrev Is : Result Ratio NoRatio → Type 0
  Is = RatioAnswered F T Z R n (replicate 2048 (pos 0)) D (replicate 2048 0) cycle

  pub never : W ≡ Err NoRatio.Malformed → ⊥
  never e = (subst Is e z).0
      (record { graph = h.graph; potential_room = room 2048 (pos 0) h.graph.nodes; cycle_room = room {A = ℕ} 2048 0 h.graph.nodes })

  pub none_earns : W ≡ Err NoRatio.NoneEarns → NoneEarns F T (length F) R
  none_earns e = numbered_13 (subst Is e z).0.1

  pub idle_gain : W ≡ Err NoRatio.IdleGain → EarningArcs F T (length F) R × IdleGainArcs F T (length F) Z R
  idle_gain e = numbered_14 (subst Is e z).0.1

  module _ {r : Ratio} (e : W ≡ Ok r) where
    abbrev found : List ℕ
    found = take r.arcs cycle

    whole : take (length found) found ≡ found
    whole = take-length found

    least : RatioFound F T Z R n r.p r.q r.arcs (replicate 2048 (pos 0)) D (replicate 2048 0) cycle
    least = (subst Is e z).1

    front : length cycle ≡ 2048 → length found ≡ r.arcs
    front sized = length-take-le r.arcs cycle (omega (arith, h.graph.nodes, least.short))

    -- with the cycle by itself
    least_cut : length cycle ≡ 2048 → RatioFound F T Z R n r.p r.q (length found) (replicate 2048 (pos 0)) D found found
    least_cut sized = record {
      short = omega (arith, front sized, least.short);
      attained = rw whole least.attained;
      earns = rw whole least.earns;
      ratio = record { exact = rw whole least.ratio.exact; lowest = least.ratio.lowest };
      p_small = least.p_small;
      q_small = least.q_small;
      none_below = least.none_below;
      potentials = least.potentials;
      rest_potential = least.rest_potential;
      rest_cycle = refl;
    }

    -- and with the numerator as it is read back
    pub least_again : length cycle ≡ 2048 → RatioFound F T Z R n (to_z w64 (of_z w64 r.p)) r.q (length found) (replicate 2048 (pos 0)) D found found
    least_again sized = subst (λ (y : ℤ). RatioFound F T Z R n y r.q (length found) (replicate 2048 (pos 0)) D found found)
        (sym (to_z-of_z w64 r.p (small r.p 20480001 (omega (arith, least.p_small)) (omega arith)))) (least_cut sized)

    pub cyclic : length cycle ≡ 2048 → Cyclic F T C Z R order tree found n (length found)
    cyclic sized = record {
      formed = record {
        few = h.graph.nodes;
        tos = h.graph.tos;
        tree_room = h.tree_room;
        tree_arcs = h.tree_arcs;
        some = least.attained.cycle.some;
        cycle_room = omega arith;
        cycle_arcs = λ i l. record { arc = arc i l; source = (h.graph.arc (at found i) (arc i l)).source };
        arcs_room = omega (arith, h.graph.nodes, least.short, front sized);
      };
      simple = rw whole least.attained;
      sources = λ a l. (h.graph.arc a l).source;
      codes = h.codes;
      costs = h.graph.costs;
      rewards = h.graph.rewards;
      ordered = omega (arith, h.ordered);
      order_below = h.order_below;
    }
      where
        arc : (i : ℕ) → i < length found → at found i < length F
        arc i l = walk_arc F T (length F) least.attained.hub found least.attained.hub least.attained.cycle.walk i l
