-- The common divisors of the two numbers stay as they are.
use Prim.Native.Nat.{ℕ, ◌∣◌}
use Rattle.ratio.proofs.fraction.gcd.Given as goal

abbrev pub invariant-loop-y : goal.invariant-loop-y
invariant-loop-y l = ((d : ℕ) → d ∣ l.a → d ∣ l.b → (d ∣ l.x) × (d ∣ l.y)) × ((d : ℕ) → d ∣ l.x → d ∣ l.y → (d ∣ l.a) × (d ∣ l.b))

abbrev pub decreases-loop-y : goal.decreases-loop-y
decreases-loop-y l = l.y
