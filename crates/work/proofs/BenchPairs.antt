-- "Bench gives stem (1, 0), cycle (1, 0)": of whatever meets the contract, lent buffers long enough.
use mathlib.Core.Path.{◌≡◌, refl, ap, ap₂, ◌∙◌, subst}
use mathlib.Core.Bool.{true}
use mathlib.Core.List.{List, [], ◌∷◌, ◌++◌}
use Prim.Native.Nat.{ℕ, ◌+◌}
use native.Mathlib.Omega.{arith}
use lib.IntN.{ℤ, pos}
use lib.ListN.{length}
use lib.Seq.{slice}
use Rattle.automaton.proofs.Ratios.{ratio_unique}
use Rattle.sheet.specs.Bytes.{signed_of}
use Rattle.sheet.specs.Maps.{place_of}
use Rattle.sheet.specs.Fields.{field_of}
use Rattle.sheet.specs.Records.{field_place, value_at, field_at, record_length, record_at}
use Rattle.sheet.specs.Questions.{each}
use Rattle.nodes.specs.Meaning.{meaning}
use Rattle.walks.specs.Walk.{at}
use Rattle.schedules.specs.Closed.{bounds_closed, guards_closed, is_closed}
use Rattle.schedules.specs.Pairs.{Pair}
use Rattle.schedules.specs.Turning.{stem_pairs, cycle_pairs}
use Rattle.schedules.proofs.Computes.{bench_stem, bench_cycle, bench_late_stem, bench_late_cycle}
use Rattle.contract.specs.Accepted.{Lasso}
use Rattle.contract.specs.Plan.{step_on, start_of}
use Rattle.contract.specs.BenchTable.{bench}
use Rattle.contract.proofs.Rising.{same_count}
use Rattle.contract.proofs.BenchTableHolds.{bench_accepted}
use Rattle.contract.proofs.BenchLassos.{BenchCycle, leaves_early, leaves_late, no_stem, two_cycles}
use Rattle.work.specs.Work.{WorkAnswer, PairBuffers, RoomForPairs, holding, WorkAccepted, Worked}
use Rattle.work.specs.BenchWorked.{BenchWorked}
use Rattle.work.proofs.JustWhen.{on_its_condition}

closed : is_closed (meaning bench) ≡ true
unfolding is_closed bounds_closed guards_closed each meaning record_at record_length field_at value_at field_place field_of place_of signed_of
closed = refl

-- the one pair
abbrev only : List Pair
only = record { wait = 1; edge = 0 } ∷ []

stem_of : {cycle : List ℕ} → BenchCycle cycle → stem_pairs [] cycle ≡ only
stem_of (leaves_early e) = ap (stem_pairs []) e ∙ bench_stem
stem_of (leaves_late e) = ap (stem_pairs []) e ∙ bench_late_stem

cycle_of : {cycle : List ℕ} → BenchCycle cycle → cycle_pairs cycle ≡ only
cycle_of (leaves_early e) = ap cycle_pairs e ∙ bench_cycle
cycle_of (leaves_late e) = ap cycle_pairs e ∙ bench_late_cycle

module _ {before after : PairBuffers} {a : WorkAnswer} (y : WorkAccepted bench before after a) where
  seven : y.n ≡ 7
  seven = let b = bench_accepted in let l = y.ratio.node_list in
      same_count y.n y.ratio.nodes 7 b.nodes l.rising b.node_list.rising
      (λ i h. b.node_list.complete (at y.ratio.nodes i) (l.reachable i h))
      (λ i h. l.complete (at b.nodes i) (b.node_list.reachable i h))

  ratio : (y.p ≡ pos 3) × (y.q ≡ 1)
  ratio = ratio_unique (step_on bench) (start_of bench) y.p (pos 3) y.q 1 y.ratio.ratio bench_accepted.ratio

  lasso : Lasso (step_on bench) (start_of bench) (pos 3) 1 y.s y.m y.codes
  lasso = subst (λ (p : ℤ). Lasso (step_on bench) (start_of bench) p 1 y.s y.m y.codes) ratio.0
      (subst (λ (q : ℕ). Lasso (step_on bench) (start_of bench) y.p q y.s y.m y.codes) ratio.1 y.lasso)

  cycle_codes : BenchCycle (slice y.s (y.s + y.m) y.codes)
  cycle_codes = two_cycles y.s y.m y.codes lasso (omega (arith, y.short, seven))

  stem_pairs_lem : y.stem ≡ only
  stem_pairs_lem = y.stem_is
      ∙ ap (λ (l : List ℕ). stem_pairs l (slice y.s (y.s + y.m) y.codes)) (no_stem y.s y.m y.codes lasso (omega (arith, y.short, seven)))
      ∙ stem_of cycle_codes

  cycle_pairs_lem : y.cycle ≡ only
  cycle_pairs_lem = y.cycle_is ∙ cycle_of cycle_codes

  held : after ≡ holding (only ++ only) before
  held = y.written ∙ ap₂ (λ k l. holding (k ++ l) before) stem_pairs_lem cycle_pairs_lem

pub bench_pairs : (before after : PairBuffers) (a : WorkAnswer) → RoomForPairs before → Worked bench before after a → BenchWorked before after a
bench_pairs before after a room h = record {
  refusal = accepts;
  stem = y.stem_length ∙ ap length (stem_pairs_lem y);
  cycle = y.cycle_length ∙ ap length (cycle_pairs_lem y);
  waits = ap (λ (b : PairBuffers). b.waits) (held y);
  edges = ap (λ (b : PairBuffers). b.edges) (held y);
}
  where
    accepts : a.refusal ≡ 0
    accepts = (on_its_condition bench before a.refusal h.judged).just_0.1 (room, bench_accepted.judged, closed)

    y : WorkAccepted bench before after a
    y = h.accepted accepts
