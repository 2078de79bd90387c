-- The contract of `plan`: what it answers and leaves in the three buffers, for every byte string and all buffers.
use Rattle.std.specs.Prelude.{◌≡◌, ◌≢◌, List, ℕ, ◌≤◌, ◌<◌, ℤ, pos, length, replicate}
use Rattle.std.proofs.Math.Option.{Option}
use Rattle.automaton.specs.Priced.{Priced}
use Rattle.automaton.specs.Loops.{NoLoopBelow}
use Rattle.automaton.specs.RunWeights.{NoRunBelow}
use Rattle.sheet.specs.Questions.{check_of}
use Rattle.nodes.specs.Numbers.{step_by, start_number}
use Rattle.nodes.specs.Meaning.{meaning, layout_of}
use Rattle.contract.specs.Questions.{Verdict}
use Rattle.contract.specs.Accepted.{Accepted}
use Rattle.contract.specs.Smallest.{smallest_potential}

-- the answer: the refusal, the ratio p/q, n reachable nodes, a stem of s steps and a cycle of m, and that cycle's units, cost and reward
pub record Answer : Type 0 where
  pub refusal : ℕ
  pub p : ℤ
  pub q : ℕ
  pub n : ℕ
  pub s : ℕ
  pub m : ℕ
  pub units : ℕ
  pub cost : ℤ
  pub reward : ℕ

-- "All numbers besides the refusal are 0."
abbrev pub refused_plan : ℕ → Answer
refused_plan r = record { refusal = r; p = pos 0; q = 0; n = 0; s = 0; m = 0; units = 0; cost = pos 0; reward = 0 }

-- the three buffers
pub record Buffers : Type 0 where
  pub nodes : List ℕ
  pub potentials : List ℤ
  pub steps : List ℕ

-- every entry 0
abbrev pub zeros : Buffers → Buffers
zeros b = record {
  nodes = replicate (length b.nodes) 0;
  potentials = replicate (length b.potentials) (pos 0);
  steps = replicate (length b.steps) 0;
}

-- 1. "(Plan only) Has each buffer at least 2,048 entries?"
pub record LongEnough (b : Buffers) : Type 0 where
  pub nodes : 2048 ≤ length b.nodes
  pub potentials : 2048 ≤ length b.potentials
  pub steps : 2048 ≤ length b.steps

pub record SameLengths (a b : Buffers) : Type 0 where
  pub nodes : length a.nodes ≡ length b.nodes
  pub potentials : length a.potentials ≡ length b.potentials
  pub steps : length a.steps ≡ length b.steps

-- the steps on node numbers, those that a single step answers, and the start
abbrev pub step_on : List ℕ → ℕ → ℕ → Option (Priced ℕ)
step_on bytes = step_by (layout_of bytes) (meaning bytes)

abbrev pub start_of : List ℕ → ℕ
start_of bytes = start_number (layout_of bytes) (meaning bytes)

-- each buffer is long enough, and the sheet passes the check: what is asked from then on is asked of an explored sheet
abbrev pub Passed : List ℕ → Buffers → Type 0
Passed bytes b = LongEnough b × (check_of bytes ≡ 0)

-- "Reading stops at the first question answered no, with that number": 1, then those of the check, then 12 to 14
pub data Judged (bytes : List ℕ) (b : Buffers) (refusal : ℕ) : Type 0 where
  too_short : refusal ≡ 1 → ¬ LongEnough b → Judged bytes b refusal
  faulty : refusal ≡ check_of bytes → LongEnough b → check_of bytes ≢ 0 → Judged bytes b refusal
  explored : LongEnough b → check_of bytes ≡ 0 → Verdict (step_on bytes) (start_of bytes) refusal → Judged bytes b refusal

-- the contract, with the buffers before and after
pub record Planned (bytes : List ℕ) (before after : Buffers) (a : Answer) : Type 0 where
  pub judged : Judged bytes before a.refusal
  pub numbers : 0 < a.refusal → a ≡ refused_plan a.refusal
  -- By the cause: what a short buffer or the check refuses ("Refusals 1 to 11 do not write to any buffer", and 17 "writes to no buffer"),
  pub kept : ¬ Passed bytes before → after ≡ before
  -- and what is refused of an explored sheet ("12 to 14 set every entry of the three buffers to 0")
  pub cleared : Passed bytes before → 0 < a.refusal → after ≡ zeros before
  pub lengths : SameLengths after before
  pub accepted : a.refusal ≡ 0
      → Accepted (step_on bytes) (start_of bytes) a.p a.q a.n a.s a.m a.units a.cost a.reward
      after.nodes after.potentials after.steps
  -- demand 3, over all runs in nths
  pub no_loop_below : a.refusal ≡ 0 → NoLoopBelow (meaning bytes) a.p a.q
  -- and beside it, of all runs in nths, "repeating or not": they weigh no less than "the smallest potential reported", both sides told times n
  pub no_run_below : a.refusal ≡ 0 → NoRunBelow (meaning bytes) a.p a.q (smallest_potential a.n after.potentials)
