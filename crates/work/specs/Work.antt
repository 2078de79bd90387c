-- The contract of `work`: what it answers and leaves in the two buffers, for every byte string and all buffers.
use Rattle.std.specs.Prelude.{◌≡◌, Result, Ok, Err, true, false, List, ◌++◌, ℕ, ◌+◌, ◌-◌, ◌≤◌, ◌<◌, ℤ, pos, ◌*ℤ◌, length, take, replicate}
use Rattle.std.proofs.Math.Seq.{slice}
use Rattle.refusals.specs.Numbers.{number_of}
use Rattle.refusals.specs.declared.Refusal.{Refusal}
use Rattle.automaton.specs.Loops.{NoLoopBelow}
use Rattle.sheet.specs.Questions.{check_of}
use Rattle.nodes.specs.Meaning.{meaning}
use Rattle.schedules.specs.Closed.{is_closed}
use Rattle.schedules.specs.Pairs.{Pair, waits, edge_numbers}
use Rattle.schedules.specs.Turning.{stem_pairs, cycle_pairs}
use Rattle.schedules.specs.WorkPlan.{WorkPlan}
use Rattle.contract.specs.Accepted.{Lasso}
use Rattle.contract.specs.Plan.{step_on, start_of}
use Rattle.contract.specs.Answers.{PlanAnswers, AcceptedAs, RefusedAs}
use Rattle.work.specs.declared.Lengths.{Lengths}

-- the number of the refusal, or 0, and how many pairs the stem and the cycle have
pub record WorkAnswer : Type 0 where
  pub refusal : ℕ
  pub stem : ℕ
  pub cycle : ℕ

-- "the result has both lengths, 0 when refused"
abbrev pub refused_work : ℕ → WorkAnswer
refused_work r = record { refusal = r; stem = 0; cycle = 0 }

abbrev pub given_work : ℕ → ℕ → WorkAnswer
given_work stem cycle = record { refusal = 0; stem = stem; cycle = cycle }

-- both lengths, or the number of the refusal and zeros beside it
abbrev pub work_answer : Result Lengths Refusal → WorkAnswer
work_answer (Ok l) = given_work l.stem l.cycle
work_answer (Err r) = refused_work (number_of r)

-- "two buffers, .. one for the waits and one for the edge numbers"
pub record PairBuffers : Type 0 where
  pub waits : List ℕ
  pub edges : List ℕ

abbrev pub lent_pairs : List ℕ → List ℕ → PairBuffers
lent_pairs waits edges = record { waits = waits; edges = edges }

-- "each of at least 2,049 16-bit entries"
pub record RoomForPairs (b : PairBuffers) : Type 0 where
  pub waits : 2049 ≤ length b.waits
  pub edges : 2049 ≤ length b.edges

-- "0 after them": a list, and zeros up to n entries
abbrev pub zeros_after : ℕ → List ℕ → List ℕ
zeros_after n l = l ++ replicate (n - length l) 0

-- "stem then cycle, 0 after them": the pairs in buffers of the lengths of b
abbrev pub holding : List Pair → PairBuffers → PairBuffers
holding pairs b = record { waits = zeros_after (length b.waits) (waits pairs); edges = zeros_after (length b.edges) (edge_numbers pairs) }

abbrev pub zero_pairs : PairBuffers → PairBuffers
zero_pairs b = record { waits = replicate (length b.waits) 0; edges = replicate (length b.edges) 0 }

-- "A shorter one gets number 1 before all else. It refuses with 18, after 14, a sheet holding any strict bound or guard."
pub data WorkJudged (bytes : List ℕ) (b : PairBuffers) (refusal : ℕ) : Type 0 where
  no_room : refusal ≡ 1 → ¬ RoomForPairs b → WorkJudged bytes b refusal
  no_plan : RoomForPairs b → RefusedAs bytes refusal → WorkJudged bytes b refusal
  strict : refusal ≡ 18 → RoomForPairs b → PlanAnswers bytes 0 → is_closed (meaning bytes) ≡ false → WorkJudged bytes b refusal
  all_closed : refusal ≡ 0 → RoomForPairs b → PlanAnswers bytes 0 → is_closed (meaning bytes) ≡ true → WorkJudged bytes b refusal

-- where a work plan is given
pub record WorkAccepted (bytes : List ℕ) (before after : PairBuffers) (a : WorkAnswer) : Type 0 where
  -- the ratio of the sheet, and a lasso that has it, as a plan may answer it
  pub p : ℤ
  pub q : ℕ
  pub n : ℕ
  pub ratio : AcceptedAs bytes p q n
  pub s : ℕ
  pub m : ℕ
  pub codes : List ℕ
  pub lasso : Lasso (step_on bytes) (start_of bytes) p q s m codes
  pub short : s + m ≤ n
  -- "the lasso becomes pairs: whole units to wait, edge number. The cycle is turned so that it starts just after its first edge; the stem
  -- grows by that part."
  pub stem : List Pair
  pub cycle : List Pair
  pub stem_is : stem ≡ stem_pairs (take s codes) (slice s (s + m) codes)
  pub cycle_is : cycle ≡ cycle_pairs (slice s (s + m) codes)
  -- "the result has both lengths", and the buffers have the pairs, and room for them
  pub stem_length : a.stem ≡ length stem
  pub cycle_length : a.cycle ≡ length cycle
  pub room : length stem + length cycle ≤ 2049
  pub written : after ≡ holding (stem ++ cycle) before
  -- "Read as a run with n = 1, the pairs keep every bound, come round exactly, and cost exactly the ratio."
  pub cost : ℤ
  pub reward : ℕ
  pub runs : WorkPlan (meaning bytes) stem cycle cost reward
  pub earns : 0 < reward
  pub exact : pos q *ℤ cost ≡ p *ℤ pos reward
  -- demand 3: no loop of a run in nths is below that ratio
  pub no_loop_below : NoLoopBelow (meaning bytes) p q

-- both buffers have room, and the sheet passes the check
abbrev pub WorkPassed : List ℕ → PairBuffers → Type 0
WorkPassed bytes b = RoomForPairs b × (check_of bytes ≡ 0)

-- the contract, with the buffers before and after
pub record Worked (bytes : List ℕ) (before after : PairBuffers) (a : WorkAnswer) : Type 0 where
  pub judged : WorkJudged bytes before a.refusal
  pub numbers : 0 < a.refusal → a ≡ refused_work a.refusal
  -- "All refusals set these two buffers to 0, except 1 to 11 and 17, which do not write": those are what a short buffer or the check refuses
  pub kept : ¬ WorkPassed bytes before → after ≡ before
  pub cleared : WorkPassed bytes before → 0 < a.refusal → after ≡ zero_pairs before
  pub accepted : a.refusal ≡ 0 → WorkAccepted bytes before after a
