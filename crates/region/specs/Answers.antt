-- What a step answers.
use Rattle.std.proofs.Math.Option as math
use Rattle.std.specs.Prelude.{ℕ, ℤ, pos, Option, Some, None}
use Rattle.automaton.specs.Priced.{Priced}
use Rattle.automaton.specs.Times.{units_of}
use Rattle.region.specs.declared.Step.{Step}

-- The answer of a step: 0, or the number of the question answered no, and then nothing else. The units are those that elapse.
pub record Stepped : Type 0 where
  pub refusal : ℕ
  pub number : ℕ
  pub cost : ℤ
  pub reward : ℕ
  pub units : ℕ

-- "All numbers besides the refusal are 0."
abbrev pub refused_step : ℕ → Stepped
refused_step r = record { refusal = r; number = 0; cost = pos 0; reward = 0; units = 0 }

-- a step that is allowed
abbrev pub allowed_step : Step → Stepped
allowed_step s = record { refusal = 0; number = s.number; cost = s.cost; reward = s.reward; units = s.units }

-- one, or none, which is the refusal 16: the only one that is left where question 15 is answered
abbrev pub stepped_of : Option Step → Stepped
stepped_of None = refused_step 16
stepped_of (Some s) = allowed_step s

-- 16. "Is the code allowed there?"; "An allowed single step returns 0, the new node's number, the cost and the reward."
-- "A step's answer also carries the units elapsed": those of its code.
abbrev pub answered : ℕ → math.Option (Priced ℕ) → Stepped
answered code math.none = refused_step 16
answered code (math.some v) = record { refusal = 0; number = v.to; cost = v.cost; reward = v.reward; units = units_of code }
