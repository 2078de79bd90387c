-- The nodes of a certificate, each passed by one of its walks, are the reachable ones.
use mathlib.Core.Path.{◌≡◌, refl, sym, subst}
use mathlib.Core.Bool.{true}
use mathlib.Core.List.{List, [], ◌∷◌}
use mathlib.Core.Option.{Option, none, some}
use Prim.Native.Nat.{ℕ, ◌<◌}
use native.Mathlib.Omega.{arith}
use lib.ListN.{length}
use Rattle.automaton.specs.Tests.{occurs, every}
use Rattle.automaton.specs.Priced.{Priced}
use Rattle.automaton.specs.Walks.{Reachable}
use Rattle.automaton.proofs.Tests.{clash}
use Rattle.automaton.proofs.Lists.{occurs-cases}
use Rattle.automaton.proofs.Walks.{reach_start, reach_step}
use Rattle.walks.specs.Walk.{at}
use Rattle.contract.specs.Accepted.{NodeList}
use Rattle.contract.specs.Rules.{holds_all}
use Rattle.contract.specs.Certificate.{thence, passed, is_passed}
use Rattle.contract.proofs.Rules.{or_cases, every_at, rising, listed}

module _ (step : ℕ → ℕ → Option (Priced ℕ)) (start : ℕ) where
  onward : (f : ℕ → List ℕ) (o : Option (Priced ℕ)) (y : ℕ) → occurs y (thence f o) ≡ true
      → ((v : Priced ℕ) → o ≡ some v → occurs y (f v.to) ≡ true → Reachable step start y) → Reachable step start y
  onward f none y h k = clash h refl
  onward f (some v) y h k = k v refl h

  -- what a walk passes is reachable
  passed_reachable : (l : List ℕ) (x y : ℕ) → Reachable step start x → occurs y (passed step start l x) ≡ true → Reachable step start y
  unfolding passed
  passed_reachable [] x y r h = occurs-cases y x [] h (λ e. subst (Reachable step start) (sym e) r) (λ t. clash t refl)
  passed_reachable (code ∷ l) x y r h = occurs-cases y x (thence (passed step start l) (step x code)) h
      (λ e. subst (Reachable step start) (sym e) r)
      (λ t. onward (passed step start l) (step x code) y t (λ v e k. passed_reachable l v.to y (reach_step step start x code v r e) k))

  passed_by : (walks : List (List ℕ)) (y : ℕ) → is_passed step start walks y ≡ true → Reachable step start y
  unfolding is_passed
  passed_by [] y h = clash h refl
  passed_by (l ∷ walks) y h = or_cases (occurs y (passed step start l start)) (is_passed step start walks y) h
      (passed_reachable l start y (reach_start step start)) (passed_by walks y)

  module _ (codes : (x code : ℕ) (v : Priced ℕ) → step x code ≡ some v → code < 34) (nodes : List ℕ) (all : holds_all step start nodes ≡ true) where
    pub node_list : (walks : List (List ℕ)) → every (λ i. is_passed step start walks) nodes ≡ true → NodeList step start (length nodes) nodes
    node_list walks h = record {
      rising = rising step start codes nodes all;
      reachable = λ i b. passed_by walks (at nodes i) (every_at (λ i. is_passed step start walks) nodes h i b);
      complete = listed step start codes nodes all;
      rest = λ i b l. absurd (omega arith);
    }
