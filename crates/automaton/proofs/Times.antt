-- Laws of the time that elapses. An edge takes none; what a delay takes it adds to every clock, of the corner point and of a run in nths.
use mathlib.Core.Path.{◌≡◌, sym, ap, ◌∙◌}
use mathlib.Core.Bool.{Bool, cond}
use mathlib.Core.List.{List, [], ◌∷◌, ◌++◌, map, map-map}
use mathlib.Core.Option.{some}
use Prim.Native.Nat.{ℕ, suc, ◌+◌, ◌≤◌, ◌<◌}
use native.Mathlib.Nat.{add-zero}
use native.Mathlib.Omega.{arith}
use borrow.Author.Tests.{ne_eqb}
use Rattle.automaton.specs.Automaton.{Automaton}
use Rattle.automaton.specs.Priced.{Priced, chain}
use Rattle.automaton.specs.Nodes.{Node, point}
use Rattle.automaton.specs.Steps.{step}
use Rattle.automaton.specs.Runs.{State, delay, within_bounds, later, takes, run}
use Rattle.automaton.specs.Times.{units_of, units_along, time}
use Rattle.automaton.proofs.Tests.{only_value}
use Rattle.automaton.proofs.Lists.{each_all, map_same, map_cong}
use Rattle.automaton.proofs.Chains.{some_inj, then_split}
use Rattle.automaton.proofs.Codes.{step_unit, step_move, step-cases}
use Rattle.automaton.proofs.Corners.{unit_moves_point, move_keeps_point}

pub edge_units : (e : ℕ) → e ≤ 31 → units_of e ≡ 0
edge_units e h = ap (λ (b : Bool). cond b 1 0) (ne_eqb e _ (λ q. omega arith))

pub units_append : (xs ys : List ℕ) → units_along (xs ++ ys) ≡ units_along xs + units_along ys
unfolding units_along
units_append [] ys = omega arith
units_append (code ∷ xs) ys = let ih = units_append xs ys in omega (arith, ih)

pub delay_units : (A : Automaton) (u : Node) (code : ℕ) (x : Priced Node) → 31 < code → step A u code ≡ some x
    → point x.to ≡ map (λ v. v + units_of code) (point u)
delay_units A u code x h s = step-cases A u code x s (λ l e. absurd (omega arith))
    (λ q e. unit_moves_point A u x (step_unit A u ∙ e) ∙ sym (map_cong (λ v. v + 1) suc (point u) (each_all (λ v. omega arith))) ∙ grown q)
    (λ q e. move_keeps_point A u x (step_move A u ∙ e) ∙ sym (map_same (λ v. v + 0) (point u) (each_all add-zero)) ∙ grown q)
  where
    grown : {c : ℕ} → code ≡ c → map (λ v. v + units_of c) (point u) ≡ map (λ v. v + units_of code) (point u)
    grown q = ap (λ (c : ℕ). map (λ v. v + units_of c) (point u)) (sym q)

-- ---- runs

pub later_zero : (s : State) → later 0 s ≡ s
later_zero s = λ i. record { location = s.location; values = map_same (λ v. v + 0) s.values (each_all add-zero) i }

pub later_more : (w d : ℕ) (s : State) → later (w + d) s ≡ later d (later w s)
later_more w d s = λ i. record { location = s.location; values = values i }
  where
    values : map (λ v. v + (w + d)) s.values ≡ map (λ v. v + d) (map (λ v. v + w) s.values)
    values = map_cong (λ v. v + (w + d)) (λ v. v + w + d) s.values (each_all (λ v. omega arith)) ∙ sym (map-map (λ v. v + d) (λ v. v + w) s.values)

-- a run of delays alone adds its time to every clock
pub delays_grow : (A : Automaton) (n : ℕ) (s : State) (ds : List ℕ) (x : Priced State) → run A n s (map delay ds) ≡ some x
    → x.to ≡ later (time (map delay ds)) s
unfolding chain takes time
delays_grow A n s [] x e = ap (λ (y : Priced State). y.to) (sym (some_inj e)) ∙ sym (later_zero s)
delays_grow A n s (d ∷ ds) x e =
    let t = then_split (takes A n s (delay d)) (λ y. run A n y (map delay ds)) x e in
    let first : later d s ≡ t.first.to = ap (λ (y : Priced State). y.to) (only_value (within_bounds A n (later d s)) _ t.took) in
    ap (λ (y : Priced State). y.to) (sym t.total) ∙ delays_grow A n t.first.to ds t.second t.went
    ∙ ap (later (time (map delay ds))) (sym first) ∙ sym (later_more d (time (map delay ds)) s)
