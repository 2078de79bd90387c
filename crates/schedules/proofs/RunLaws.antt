-- Laws of runs in whole units: one member, one run after another, and a last delay of 0.
use mathlib.Core.Path.{◌≡◌, sym, ap, ap₂, ◌∙◌}
use mathlib.Core.List.{List, [], ◌∷◌, ◌++◌}
use mathlib.Core.Option.{Option, some}
use Prim.Native.Nat.{ℕ, ◌+◌, ◌*◌}
use native.Mathlib.Nat.{add-zero, zero-mul}
use lib.IntN.{ℤ, pos, ◌+ℤ◌, ◌*ℤ◌, +ℤ_idr, zero-*ℤ}
use Rattle.automaton.specs.Automaton.{Automaton}
use Rattle.automaton.specs.Priced.{Priced, free, joined, and_then, chain}
use Rattle.automaton.specs.Runs.{State, Member, delay, within_bounds, later, takes, run}
use Rattle.automaton.proofs.Tests.{only_value}
use Rattle.automaton.proofs.Chains.{some_inj, Split, then_split, chain_append, chain_one}
use Rattle.automaton.proofs.Times.{later_zero}
use Rattle.schedules.specs.WholeRuns.{WholeRun}

-- the same run, told otherwise
pub runs_as : {A : Automaton} {s t : State} {ms ns : List Member} {c d : ℤ} {r q : ℕ} → ms ≡ ns → c ≡ d → r ≡ q → WholeRun A s ms t c r → WholeRun A s ns t d q
runs_as {A} {s} {t} m c r h = record {
  is_run = ap (run A 1 s) (sym m) ∙ h.is_run ∙ ap some (λ i. record { to = t; cost = c i; reward = r i });
}

pub runs_one : {A : Automaton} {s : State} {m : Member} {x : Priced State} → takes A 1 s m ≡ some x → WholeRun A s (m ∷ []) x.to x.cost x.reward
runs_one {A} {s} {m} {x} e = record {
  is_run = chain_one (takes A 1) s m x e ∙ ap some (λ i. record { to = x.to; cost = +ℤ_idr x.cost i; reward = add-zero x.reward i });
}

pub runs_then : {A : Automaton} {s t x : State} {ms ns : List Member} {c d : ℤ} {r q : ℕ} → WholeRun A s ms t c r → WholeRun A t ns x d q
    → WholeRun A s (ms ++ ns) x (c +ℤ d) (r + q)
runs_then {A} {s} {t} {x} {ms} {ns} {c} {d} {r} {q} a b = record {
  is_run = chain_append (takes A 1) s ms ns ∙ ap (λ (o : Option (Priced State)). and_then o (λ y. run A 1 y ns)) a.is_run
      ∙ ap (λ (o : Option (Priced State)). and_then (some (record { to = t; cost = c; reward = r })) (λ y. o)) b.is_run;
}

-- a delay of 0 leaves all as it is
stays : (A : Automaton) (s : State) (x : Priced State) → run A 1 s (delay 0 ∷ []) ≡ some x → free s ≡ x
unfolding chain takes
stays A s x e = λ i. record { to = place i; cost = cost i; reward = reward i }
  where
    moved : Priced State
    moved = record { to = later 0 s; cost = pos 0 *ℤ A.cost_rate s.location; reward = 0 * A.reward_rate s.location }

    parts : Split (takes A 1 s (delay 0)) (λ t. run A 1 t []) x
    parts = then_split (takes A 1 s (delay 0)) (λ t. run A 1 t []) x e

    first : moved ≡ parts.first
    first = only_value (within_bounds A 1 (later 0 s)) moved parts.took

    whole : joined moved (free (later 0 s)) ≡ x
    whole = ap₂ joined first (ap free (ap (λ (y : Priced State). y.to) first) ∙ some_inj parts.went) ∙ parts.total

    place : s ≡ x.to
    place = sym (later_zero s) ∙ ap (λ (y : Priced State). y.to) whole

    cost : pos 0 ≡ x.cost
    cost = sym (+ℤ_idr (pos 0 *ℤ A.cost_rate s.location) ∙ zero-*ℤ (A.cost_rate s.location)) ∙ ap (λ (y : Priced State). y.cost) whole

    reward : 0 ≡ x.reward
    reward = sym (add-zero (0 * A.reward_rate s.location) ∙ zero-mul (A.reward_rate s.location)) ∙ ap (λ (y : Priced State). y.reward) whole

-- so it can be left out at the end
pub runs_before : {A : Automaton} {s t : State} {ms : List Member} {c : ℤ} {r : ℕ} → WholeRun A s (ms ++ (delay 0 ∷ [])) t c r → WholeRun A s ms t c r
runs_before {A} {s} {t} {ms} {c} {r} h = record { is_run = parts.took ∙ ap some (same parts.first ∙ ap (joined parts.first) last ∙ parts.total) }
  where
    parts : Split (run A 1 s ms) (λ y. run A 1 y (delay 0 ∷ [])) (record { to = t; cost = c; reward = r })
    parts = then_split (run A 1 s ms) (λ y. run A 1 y (delay 0 ∷ [])) (record { to = t; cost = c; reward = r })
        (sym (chain_append (takes A 1) s ms (delay 0 ∷ [])) ∙ h.is_run)

    last : free parts.first.to ≡ parts.second
    last = stays A parts.first.to parts.second parts.went

    same : (x : Priced State) → x ≡ joined x (free x.to)
    same x = λ i. record { to = x.to; cost = sym (+ℤ_idr x.cost) i; reward = sym (add-zero x.reward) i }
