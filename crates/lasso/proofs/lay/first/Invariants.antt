-- The least source so far, and where it stands.
use mathlib.Core.Path.{◌≡◌}
use Prim.Native.Nat.{ℕ, ◌≤◌, ◌<◌}
use Rattle.walks.specs.Walk.{at}
use Rattle.lasso.proofs.lay.first.Given as goal

abbrev pub invariant-loop-i : goal.invariant-loop-i
invariant-loop-i l = (l.t < l.i) × ((l.best ≡ at l.from (at l.cycle l.t)) × (((j : ℕ) → j < l.i → l.best ≤ at l.from (at l.cycle j)) × ((j : ℕ) → j < l.t → l.best < at l.from (at l.cycle j))))
