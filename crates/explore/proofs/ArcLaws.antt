-- The arc of a step, by the step's answer.
use mathlib.Core.Path.{◌≡◌, refl, sym, ap}
use mathlib.Core.Option.{Option, none, some}
use Prim.Native.Nat.{ℕ}
use native.Mathlib.Omega.{arith}
use lib.ListN.{set}
use Rattle.std.specs.Prelude.{Some, None}
use Rattle.automaton.specs.Priced.{Priced}
use Rattle.region.specs.Answers.{Stepped, stepped_of, answered}
use Rattle.region.specs.declared.Step.{Step}
use Rattle.explore.specs.Buffers.{GraphBuffers}

-- where a step leads, as it is answered
abbrev pub led : Step → Priced ℕ
led s = record { to = s.number; cost = s.cost; reward = s.reward }

pub allowed : (code : ℕ) (o : Option (Priced ℕ)) (s : Step) → stepped_of (Some s) ≡ answered code o → o ≡ some (led s)
allowed code none s p = absurd (let z : 0 ≡ 16 = ap (λ (s : Stepped). s.refusal) p in omega arith)
allowed code (some v) s p = ap (λ (s : Stepped). some (record { to = s.number; cost = s.cost; reward = s.reward })) (sym p)

pub refused : (code : ℕ) (o : Option (Priced ℕ)) → stepped_of None ≡ answered code o → o ≡ none
refused code none p = refl
refused code (some v) p = absurd (let z : 16 ≡ 0 = ap (λ (s : Stepped). s.refusal) p in omega arith)

-- the arc m is written, from node i to node j, for the step with code k
pub record Pushed (b b' : GraphBuffers) (m i j k : ℕ) (s : Step) : Type 0 where
  pub from : b'.from ≡ set b.from m i
  pub to : b'.to ≡ set b.to m j
  pub code : b'.code ≡ set b.code m k
  pub cost : b'.cost ≡ set b.cost m s.cost
  pub reward : b'.reward ≡ set b.reward m s.reward
