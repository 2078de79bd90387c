-- Places and loops of a run in nths, and demand 3.
use Rattle.std.specs.Prelude.{◌≡◌, List, ℕ, ◌≤◌, ◌<◌, ℤ, pos, ◌*ℤ◌, take, ◌≤ℤ◌}
use Rattle.std.proofs.Math.Option.{Option, some}
use Rattle.std.proofs.Math.Seq.{slice}
use Rattle.automaton.specs.Automaton.{Automaton}
use Rattle.automaton.specs.Priced.{Priced}
use Rattle.automaton.specs.Runs.{State, Member, run, start_state}

-- "The places of a run are the start and the state after each member": place i is the one after the first i members, with what they cost and earn.
-- There is none where these members are no run, and past the end of the list it is the last place again.
abbrev pub place : Automaton → ℕ → List Member → ℕ → Option (Priced State)
place A n members i = run A n (start_state A) (take i members)

-- "Where two places have equal location and clock values, the run comes back, and the members between them are a loop."
-- Its cost c and reward r, times n, are taken "over its own members". It is proved that a run has all its places, that where place j is there
-- so is each place i before it, that the members between are a run from the one to the other, and that they cost and earn what place j has more.
pub record Loop (A : Automaton) (n : ℕ) (members : List Member) (c : ℤ) (r : ℕ) : Type 0 where
  pub i : ℕ
  pub j : ℕ
  pub ordered : i ≤ j
  pub first : Priced State
  pub last : Priced State
  pub place_i : place A n members i ≡ some first
  pub place_j : place A n members j ≡ some last
  pub same : first.to ≡ last.to
  pub between : run A n first.to (slice i j members) ≡ some (record { to = last.to; cost = c; reward = r })

-- Demand 3: for every n ≥ 1, every list of delays and edges and each loop in it, the loop's cost times q is at least its reward times p.
unfoldable pub NoLoopBelow : Automaton → ℤ → ℕ → Type 0
NoLoopBelow A p q = (n : ℕ) → 0 < n → (members : List Member) (c : ℤ) (r : ℕ) → Loop A n members c r → (p *ℤ pos r) ≤ℤ (pos q *ℤ c)
