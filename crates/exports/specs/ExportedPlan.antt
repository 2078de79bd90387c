-- What the exported plan answers, and what it leaves in the eight numbers.
use Rattle.std.specs.Prelude.{◌≡◌, List, ℕ, ℤ, pos}
use Rattle.contract.specs.Plan.{Answer, Buffers, Planned}

-- there is an answer that meets the contract of a plan; the result is its refusal, and each number its own
pub data ExportedPlan (bytes : List ℕ) (before after : Buffers) (refusal : ℕ) (p q n s m units cost reward : ℤ) : Type 0 where
  exported : (a : Answer) → Planned bytes before after a → refusal ≡ a.refusal → p ≡ a.p → q ≡ pos a.q → n ≡ pos a.n → s ≡ pos a.s → m ≡ pos a.m
      → units ≡ pos a.units → cost ≡ a.cost → reward ≡ pos a.reward → ExportedPlan bytes before after refusal p q n s m units cost reward
