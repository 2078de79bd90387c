-- What the answer of a search leaves no choice in: its kind, and each potential. Which negative cycle is given, if there are several, is open.
use mathlib.Core.Path.{◌≡◌, refl}
use mathlib.Core.List.{List}
use Prim.Native.Nat.{ℕ, ◌<◌}
use lib.IntN.{ℤ}
use Rattle.walks.specs.Walk.{atℤ}
use Rattle.walks.proofs.Apart.{negative_apart, one_potential}
use Rattle.graph.specs.Answer.{PotentialsFound, SearchAnswered}
use Rattle.std.specs.Prelude.{Option, Some, None, Result, Ok, Err}
use Rattle.walks.specs.declared.Malformed.{Malformed}

abbrev pub kind : Result (Option ℕ) Malformed → ℕ
kind (Err _) = 0
kind (Ok (Some k)) = 1
kind (Ok None) = 2

module _ (F T : List ℕ) (cost : List ℤ) (reward : List ℕ) (a b c : ℤ) (n : ℕ) (p p' p'' : List ℤ) (q q' q'' : List ℕ) where
  pub one_kind : (A B : Result (Option ℕ) Malformed) → SearchAnswered F T cost reward a b c n p p' q q' A → SearchAnswered F T cost reward a b c n p p'' q q'' B → kind A ≡ kind B
  one_kind (Err _) (Err _) x y = refl
  one_kind (Err _) (Ok (Some k)) x y = absurd (x.0 y.0)
  one_kind (Err _) (Ok None) x y = absurd (x.0 y.0)
  one_kind (Ok (Some k)) (Err _) x y = absurd (y.0 x.0)
  one_kind (Ok (Some k)) (Ok (Some j)) x y = refl
  one_kind (Ok (Some k)) (Ok None) x y = absurd (negative_apart x.1.negative y.1.none)
  one_kind (Ok None) (Err _) x y = absurd (y.0 x.0)
  one_kind (Ok None) (Ok (Some j)) x y = absurd (negative_apart y.1.negative x.1.none)
  one_kind (Ok None) (Ok None) x y = refl

pub one_potentials : {F T : List ℕ} {weight : ℕ → ℤ} {n : ℕ} {p p' p'' : List ℤ} {q q' q'' : List ℕ}
    → PotentialsFound F T weight n p p' q q' → PotentialsFound F T weight n p p'' q q'' → (v : ℕ) → v < n → atℤ p' v ≡ atℤ p'' v
one_potentials {p' = p'} {p''} x y v h = one_potential (atℤ p' v) (atℤ p'' v) (x.potentials v h) (y.potentials v h)
