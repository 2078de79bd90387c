-- A double-priced timed automaton (000, Definition 1): locations, clocks and edges by their numbers, for any number of clocks.
use Rattle.std.specs.Prelude.{Bool, ◌&&◌, List, ℕ, ℤ}
use Rattle.std.proofs.Math.Option.{Option}
use Rattle.automaton.specs.Tests.{every}
use Rattle.automaton.specs.Bounds.{if_present}

pub record Automaton : Type 0 where
  pub locations : ℕ
  pub clocks : ℕ
  pub edges : ℕ
  -- of a location: the upper byte of each of its clocks, and the rates
  pub bound : ℕ → ℕ → ℕ
  pub cost_rate : ℕ → ℤ
  pub reward_rate : ℕ → ℕ
  -- of an edge, and of each clock: an absent lower guard is the byte 0, clock ≥ 0
  pub source : ℕ → ℕ
  pub target : ℕ → ℕ
  pub lower : ℕ → ℕ → ℕ
  pub upper : ℕ → ℕ → Option ℕ
  pub reset : ℕ → ℕ → Bool
  pub cost : ℕ → ℤ
  pub reward : ℕ → ℕ

-- Does each clock keep its bound in location l? The clocks are numbers of intervals, or values in nths, and the test of a byte is the one for these.
unfoldable pub in_bounds : (ℕ → ℕ → Bool) → Automaton → ℕ → List ℕ → Bool
in_bounds upper_holds A l = every (λ j x. upper_holds (A.bound l j) x)

-- does each clock keep the guards of edge e?
unfoldable pub in_guards : (ℕ → ℕ → Bool) → (ℕ → ℕ → Bool) → Automaton → ℕ → List ℕ → Bool
in_guards lower_holds upper_holds A e = every (λ j x. lower_holds (A.lower e j) x && if_present upper_holds (A.upper e j) x)
