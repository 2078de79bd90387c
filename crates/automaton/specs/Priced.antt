-- Double-priced transition systems (000, section 2.1): steps with a cost and a reward, taken one after the other.
use Rattle.std.specs.Prelude.{List, [], ◌∷◌, ℕ, ◌+◌, ℤ, pos, ◌+ℤ◌}
use Rattle.std.proofs.Math.Option.{Option, none, some, map}

-- where a step leads, what it costs and what it earns
pub record Priced (S : Type 0) : Type 0 where
  pub to : S
  pub cost : ℤ
  pub reward : ℕ

-- free of charge
abbrev pub free : {S : Type 0} → S → Priced S
free s = record { to = s; cost = pos 0; reward = 0 }

-- a and then b
abbrev pub joined : {S T : Type 0} → Priced S → Priced T → Priced T
joined a b = record { to = b.to; cost = a.cost +ℤ b.cost; reward = a.reward + b.reward }

-- the first, and then what f gives where it leads; nothing where one of the two is not allowed
abbrev pub and_then : {S T : Type 0} → Option (Priced S) → (S → Option (Priced T)) → Option (Priced T)
and_then none f = none
and_then (some a) f = map (joined a) (f a.to)

-- a list of steps from s, each taken where the one before led
unfoldable pub chain : {S M : Type 0} → (S → M → Option (Priced S)) → S → List M → Option (Priced S)
chain step s [] = some (free s)
chain step s (m ∷ ms) = and_then (step s m) (λ t. chain step t ms)
