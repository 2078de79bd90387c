-- The round after some arcs, by the node that fell last.
use mathlib.Core.List.{List}
use Prim.Native.Nat.{ℕ, ◌<◌}
use Rattle.std.specs.Prelude.{Option, Some, None}
use Rattle.walks.proofs.Rounds.{Turn}

-- v fell, or nothing did
abbrev pub TurnAt : List ℕ → List ℕ → (ℕ → ℕ) → ℕ → List ℕ → List ℕ → List ℕ → ℕ → ℕ → ℕ → Option ℕ → Type 0
TurnAt F T W m D par st b i n None = Turn F T W m D par st b i n n
TurnAt F T W m D par st b i n (Some v) = (v < n) × Turn F T W m D par st b i n v
