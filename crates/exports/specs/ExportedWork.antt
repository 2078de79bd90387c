-- What the exported work plan answers, and what it leaves in the two numbers.
use Rattle.std.specs.Prelude.{◌≡◌, List, ℕ, ℤ, pos}
use Rattle.work.specs.Work.{WorkAnswer, PairBuffers, Worked}

-- there is an answer that meets the contract of a work plan; the result is its refusal, and each number its own
pub data ExportedWork (bytes : List ℕ) (before after : PairBuffers) (refusal : ℕ) (stem cycle : ℤ) : Type 0 where
  exported : (a : WorkAnswer) → Worked bytes before after a → refusal ≡ a.refusal → stem ≡ pos a.stem → cycle ≡ pos a.cycle
      → ExportedWork bytes before after refusal stem cycle
