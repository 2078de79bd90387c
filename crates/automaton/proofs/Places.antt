-- The places of a run: where place j is there, so is each place i before it, the members between are a run from the one to the other,
-- and what they cost and earn is what place j has more. So a run that comes back has its loop, and `NoLoopBelow` speaks of it.
use mathlib.Core.Path.{◌≡◌, sym, ap, ◌∙◌}
use mathlib.Core.List.{List, ◌++◌}
use mathlib.Core.Option.{some}
use Prim.Native.Nat.{ℕ, ◌≤◌}
use lib.ListN.{length, take, take-append-drop}
use lib.Seq.{slice, take-take, take-length}
use Rattle.automaton.specs.Automaton.{Automaton}
use Rattle.automaton.specs.Priced.{Priced, free, joined}
use Rattle.automaton.specs.Runs.{State, Member, takes, run, start_state}
use Rattle.automaton.specs.Loops.{place, Loop}
use Rattle.automaton.proofs.Chains.{some_inj, Split, then_split, chain_append, chain_nil}

-- the start is a place of every list
pub place_zero : (A : Automaton) (n : ℕ) (members : List Member) → place A n members 0 ≡ some (free (start_state A))
place_zero A n members = chain_nil (takes A n) (start_state A)

-- of a place j: place i, and the members between as a run from it; together they are place j
pub places : (A : Automaton) (n : ℕ) (members : List Member) (i j : ℕ) → i ≤ j → (b : Priced State) → place A n members j ≡ some b
    → Split (place A n members i) (λ s. run A n s (slice i j members)) b
places A n members i j h b e = then_split (place A n members i) (λ s. run A n s (slice i j members)) b
    (sym (chain_append (takes A n) (start_state A) (take i members) (slice i j members)) ∙ ap (run A n (start_state A)) parts ∙ e)
  where
    parts : take i members ++ slice i j members ≡ take j members
    parts = ap (λ (l : List Member). l ++ slice i j members) (sym (take-take i j members h)) ∙ take-append-drop i (take j members)

-- where place j has the location and the clock values of place i, the members between are a loop
pub comes_back_lem : (A : Automaton) (n : ℕ) (members : List Member) (i j : ℕ) → i ≤ j → (a b : Priced State)
    → place A n members i ≡ some a → place A n members j ≡ some b → a.to ≡ b.to
    → (l : Priced State) × Loop A n members l.cost l.reward × (joined a l ≡ b)
comes_back_lem A n members i j h a b ea eb same = (
  split.second,
  record {
    i = i;
    j = j;
    ordered = h;
    first = a;
    last = b;
    place_i = ea;
    place_j = eb;
    same = same;
    between = ap (λ (x : Priced State). run A n x.to (slice i j members)) (sym first) ∙ split.went
        ∙ ap some (λ k. record { to = ap (λ (x : Priced State). x.to) split.total k; cost = split.second.cost; reward = split.second.reward });
  },
  ap (λ (x : Priced State). joined x split.second) (sym first) ∙ split.total,
)
  where
    split : Split (place A n members i) (λ s. run A n s (slice i j members)) b
    split = places A n members i j h b eb

    first : split.first ≡ a
    first = some_inj (sym split.took ∙ ea)

-- a run has all its places
pub run_places : (A : Automaton) (n : ℕ) (members : List Member) (x : Priced State) → run A n (start_state A) members ≡ some x
    → (i : ℕ) → i ≤ length members → (a : Priced State) × (place A n members i ≡ some a)
run_places A n members x e i h =
    let s = places A n members i (length members) h x (ap (run A n (start_state A)) (take-length members) ∙ e) in (s.first, s.took)
