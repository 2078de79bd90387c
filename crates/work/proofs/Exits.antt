-- The ways out: a law for each that makes the contract of what is in hand there.
use mathlib.Core.Path.{◌≡◌, refl, sym, ap, ◌∙◌, subst}
use mathlib.Core.Logic.{◌≢◌}
use mathlib.Core.Bool.{true, false}
use mathlib.Core.List.{List, ◌++◌}
use Prim.Native.Nat.{ℕ, ◌+◌, ◌≤◌, ◌<◌}
use native.Mathlib.Omega.{arith}
use lib.ListN.{length, take, length-append, length-map, length-replicate}
use lib.Seq.{slice}
use Rattle.sheet.specs.Questions.{check_of}
use Rattle.nodes.specs.Meaning.{meaning}
use Rattle.schedules.specs.Closed.{is_closed}
use Rattle.schedules.specs.Pairs.{Pair, waits, edge_numbers}
use Rattle.schedules.specs.Turning.{stem_pairs, cycle_pairs}
use Rattle.contract.specs.Accepted.{Accepted}
use Rattle.contract.specs.Answers.{PlanAnswers}
use Rattle.contract.specs.Plan.{Answer, Buffers, LongEnough, Judged, too_short, faulty, explored, step_on, start_of, Planned}
use Rattle.work.specs.Work.{WorkAnswer, refused_work, PairBuffers, RoomForPairs, holding, zero_pairs, WorkJudged, no_room, no_plan, strict, all_closed, WorkAccepted, WorkPassed, Worked}
use Rattle.work.specs.PrivatePromises.{with_pairs, LassoWritten}
use Rattle.work.proofs.StoredLaws.{over_zeros}
use Rattle.work.proofs.PlanRuns.{lasso_runs}

-- what a plan answers in some buffers that are long enough, it answers in all
pub answers_all : {bytes : List ℕ} {b : Buffers} {r : ℕ} → LongEnough b → Judged bytes b r → PlanAnswers bytes r
answers_all l (too_short e h) c k = absurd (h l)
answers_all l (faulty e h x) c k = faulty e k x
answers_all l (explored h x v) c k = explored k x v

number_of : {a : WorkAnswer} {r : ℕ} → a ≡ refused_work r → r ≡ a.refusal
number_of e = sym (ap (λ (x : WorkAnswer). x.refusal) e)

-- what is stored in buffers that are cleared, they hold
held : (before : PairBuffers) {cleared after : PairBuffers} → cleared ≡ zero_pairs before → RoomForPairs before → (ps : List Pair) → length ps ≤ 2049
    → after ≡ with_pairs 0 ps cleared → after ≡ holding ps before
held before empty room ps few e = e ∙ ap (with_pairs 0 ps) empty ∙ (λ i. record {
  waits = over_zeros (waits ps) (length before.waits) (omega (arith, few, room.waits, length-map ps (λ p. p.wait))) i;
  edges = over_zeros (edge_numbers ps) (length before.edges) (omega (arith, few, room.edges, length-map ps (λ p. p.edge))) i;
})

-- buffers that are cleared have as much room as before
pub zeros_room : {b before : PairBuffers} → b ≡ zero_pairs before → RoomForPairs before → RoomForPairs b
zeros_room {b} {before} e r = record {
  waits = omega (arith, ap (λ (x : PairBuffers). length x.waits) e, length-replicate {A = ℕ} (length before.waits) 0, r.waits);
  edges = omega (arith, ap (λ (x : PairBuffers). length x.edges) e, length-replicate {A = ℕ} (length before.edges) 0, r.edges);
}

module _ {bytes : List ℕ} {before : PairBuffers} {a : WorkAnswer} where
  refused_with : (r : ℕ) {after : PairBuffers} → a ≡ refused_work r → 0 < r → WorkJudged bytes before r
      → (¬ WorkPassed bytes before → after ≡ before) → (WorkPassed bytes before → after ≡ zero_pairs before) → Worked bytes before after a
  refused_with r e some j kept cleared = record {
    judged = subst (WorkJudged bytes before) (number_of e) j;
    numbers = λ h. e ∙ ap refused_work (number_of e);
    kept = kept;
    cleared = λ h k. cleared h;
    accepted = λ h. absurd (omega (arith, number_of e));
  }

  -- nothing is written

  pub short_buffer : a ≡ refused_work 1 → ¬ RoomForPairs before → Worked bytes before before a
  short_buffer e h = refused_with 1 e (omega arith) (no_room refl h) (λ x. refl) (λ x. absurd (h x.0))

  pub faulty_sheet : a ≡ refused_work (check_of bytes) → RoomForPairs before → check_of bytes ≢ 0 → Worked bytes before before a
  faulty_sheet e room c = refused_with (check_of bytes) e some (no_plan room (record { some_number = some; judged = λ x l. faulty refl l c })) (λ x. refl) (λ x. absurd (c x.1))
    where
      some : 0 < check_of bytes
      some = omega (arith, c)

  -- both buffers are cleared

  module _ {cleared : PairBuffers} (empty : cleared ≡ zero_pairs before) (x : WorkPassed bytes before) where
    pub without_plan : (r : ℕ) → a ≡ refused_work r → 0 < r → PlanAnswers bytes r → Worked bytes before cleared a
    without_plan r e some p = refused_with r e some (no_plan x.0 (record { some_number = some; judged = p })) (λ n. absurd (n x)) (λ y. empty)

    pub strict_somewhere : a ≡ refused_work 18 → PlanAnswers bytes 0 → is_closed (meaning bytes) ≡ false → Worked bytes before cleared a
    strict_somewhere e p c = refused_with 18 e (omega arith) (strict refl x.0 p c) (λ n. absurd (n x)) (λ y. empty)

    -- and the lasso of an accepted plan is written to them
    module _ {b b' : Buffers} {plan : Answer} {after : PairBuffers} (long : LongEnough b) (planned : Planned bytes b b' plan) (accepts : plan.refusal ≡ 0)
        (closed : is_closed (meaning bytes) ≡ true)
        (w : LassoWritten cleared after (take plan.s b'.steps) (slice plan.s (plan.s + plan.m) b'.steps) a) where
      abbrev p : Accepted (step_on bytes) (start_of bytes) plan.p plan.q plan.n plan.s plan.m plan.units plan.cost plan.reward
          b'.nodes b'.potentials b'.steps
      p = planned.accepted accepts

      yes : PlanAnswers bytes 0
      yes = subst (PlanAnswers bytes) accepts (answers_all long planned.judged)

      abbrev stem : List Pair
      stem = stem_pairs (take plan.s b'.steps) (slice plan.s (plan.s + plan.m) b'.steps)

      abbrev cycle : List Pair
      cycle = cycle_pairs (slice plan.s (plan.s + plan.m) b'.steps)

      work_accepted : WorkAccepted bytes before after a
      work_accepted = record {
        p = plan.p;
        q = plan.q;
        n = plan.n;
        ratio = record { judged = yes; ratio = p.ratio; nodes = b'.nodes; node_list = p.node_list };
        s = plan.s;
        m = plan.m;
        codes = b'.steps;
        lasso = p.lasso;
        short = p.short;
        stem = stem;
        cycle = cycle;
        stem_is = refl;
        cycle_is = refl;
        stem_length = w.stem_length;
        cycle_length = w.cycle_length;
        room = w.few;
        written = held before empty x.0 (stem ++ cycle) (omega (arith, length-append stem cycle, w.few)) w.is;
        cost = p.lasso.cost;
        reward = p.lasso.reward;
        runs = lasso_runs planned accepts closed;
        earns = p.lasso.earns;
        exact = p.lasso.exact;
        no_loop_below = planned.no_loop_below accepts;
      }

      pub work_given : Worked bytes before after a
      work_given = record {
        judged = all_closed w.accepted x.0 yes closed;
        numbers = λ k. absurd (omega (arith, w.accepted));
        kept = λ n. absurd (n x);
        cleared = λ y k. absurd (omega (arith, w.accepted));
        accepted = λ k. work_accepted;
      }
