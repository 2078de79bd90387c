-- The potentials that stand beside a list of all reachable nodes: each is least, so together they are feasible, and none is below the smallest.
use mathlib.Core.Path.{◌≡◌, subst}
use mathlib.Core.List.{List}
use mathlib.Core.Option.{Option}
use Prim.Native.Nat.{ℕ, ◌≤◌, ◌<◌}
use native.Mathlib.Omega.{arith}
use lib.IntN.{ℤ, pos}
use lib.ListN.{length}
use lib.Signed.{◌≤ℤ◌}
use Rattle.automaton.specs.Priced.{Priced}
use Rattle.automaton.specs.Walks.{Reachable}
use Rattle.automaton.specs.Weights.{Feasible, Potential}
use Rattle.automaton.proofs.LeastPotentials.{least_feasible, least_start}
use Rattle.walks.specs.Walk.{at, atℤ}
use Rattle.contract.specs.Accepted.{Listed, PotentialList}
use Rattle.contract.specs.Smallest.{smallest_potential}
use Rattle.contract.specs.Rules.{index_of}
use Rattle.contract.proofs.Indices.{First, first_at}
use Rattle.contract.proofs.Smallest.{smallest_entry_below}

-- the potential that stands beside a number
abbrev pub beside : List ℕ → List ℤ → ℕ → ℤ
beside nodes potentials x = atℤ potentials (index_of nodes x)

module _ {step : ℕ → ℕ → Option (Priced ℕ)} {start : ℕ} {p : ℤ} {q n : ℕ} {nodes : List ℕ} {potentials : List ℤ}
    (complete : (x : ℕ) → Reachable step start x → Listed nodes n x) (told : PotentialList step start p q n nodes potentials) where
  listed_first : (x : ℕ) → Reachable step start x → (index_of nodes x < n) × (at nodes (index_of nodes x) ≡ x)
  listed_first x r =
      let k = complete x r in
      let f : First nodes x k.index = first_at nodes x k.index k.is in
      (omega (arith, f.first, k.below), f.is)

  least : (x : ℕ) → Reachable step start x → Potential step start p q x (beside nodes potentials x)
  least x r = let f = listed_first x r in
      subst (λ (u : ℕ). Potential step start p q u (beside nodes potentials x)) f.1 (told.least (index_of nodes x) f.0)

  pub feasible : Feasible step start p q (beside nodes potentials)
  feasible = least_feasible step start p q (beside nodes potentials) least

  pub start_zero : beside nodes potentials start ≡ pos 0
  start_zero = least_start step start p q (beside nodes potentials) least

  pub smallest_below : n ≤ length potentials → (x : ℕ) → Reachable step start x → smallest_potential n potentials ≤ℤ beside nodes potentials x
  smallest_below room x r = smallest_entry_below n potentials room (index_of nodes x) (listed_first x r).0
