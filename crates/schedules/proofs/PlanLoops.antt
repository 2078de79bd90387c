-- A work plan comes round: its pairs are a run with n = 1 that has a loop, the members of the cycle, at the cycle's price.
use mathlib.Core.Path.{◌≡◌, refl, ap, ◌∙◌}
use mathlib.Core.List.{List, ◌++◌}
use Prim.Native.Nat.{ℕ, ◌+◌}
use native.Mathlib.Omega.{arith}
use lib.IntN.{ℤ, ◌+ℤ◌}
use lib.ListN.{length, take, drop}
use lib.Seq.{take-length, take-append_seam, drop-append_seam, take-append-add}
use Rattle.automaton.specs.Automaton.{Automaton}
use Rattle.automaton.specs.Runs.{Member, run, start_state}
use Rattle.automaton.specs.Loops.{Loop}
use Rattle.schedules.specs.Pairs.{Pair, members}
use Rattle.schedules.specs.WorkPlan.{WorkPlan}
use Rattle.schedules.proofs.RunLaws.{runs_then}

pub plan_loop : {A : Automaton} {stem cycle : List Pair} {c : ℤ} {r : ℕ} → WorkPlan A stem cycle c r → Loop A 1 (members stem ++ members cycle) c r
plan_loop {A} {stem} {cycle} {c} {r} h = record {
  i = length S;
  j = length S + length C;
  ordered = omega arith;
  first = record { to = h.state; cost = h.stem_cost; reward = h.stem_reward };
  last = record { to = h.state; cost = h.stem_cost +ℤ c; reward = h.stem_reward + r };
  place_i = ap (run A 1 (start_state A)) (take-append_seam S C) ∙ h.comes.is_run;
  place_j = ap (run A 1 (start_state A)) all ∙ (runs_then h.comes h.round).is_run;
  same = refl;
  between = ap (run A 1 h.state) (ap (drop (length S)) all ∙ drop-append_seam S C) ∙ h.round.is_run;
}
  where
    S : List Member
    S = members stem

    C : List Member
    C = members cycle

    all : take (length S + length C) (S ++ C) ≡ S ++ C
    all = take-append-add S C (length C) ∙ ap (λ (l : List Member). S ++ l) (take-length C)
