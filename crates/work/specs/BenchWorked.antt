-- "Bench gives stem (1, 0), cycle (1, 0)": a pair each, both of a unit and edge 0, and 0 after them. It is proved of whatever meets the contract
-- (proofs/BenchPairs.antt).
use Rattle.std.specs.Prelude.{◌≡◌, ◌∷◌, ◌-◌, length, replicate}
use Rattle.work.specs.Work.{WorkAnswer, PairBuffers}

pub record BenchWorked (before after : PairBuffers) (a : WorkAnswer) : Type 0 where
  pub refusal : a.refusal ≡ 0
  pub stem : a.stem ≡ 1
  pub cycle : a.cycle ≡ 1
  pub waits : after.waits ≡ 1 ∷ 1 ∷ replicate (length before.waits - 2) 0
  pub edges : after.edges ≡ 0 ∷ 0 ∷ replicate (length before.edges - 2) 0
