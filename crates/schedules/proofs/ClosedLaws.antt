-- Automata with no strict bound and no strict guard: each bound and guard of them, and automata that agree.
use mathlib.Core.Path.{◌≡◌, refl, ap, ap₂, ◌∙◌}
use mathlib.Core.Bool.{Bool, true, ◌&&◌}
use Prim.Native.Nat.{ℕ, zero, suc, ◌<◌}
use native.Mathlib.Omega.{arith}
use Rattle.automaton.specs.Automaton.{Automaton}
use Rattle.automaton.proofs.Tests.{&&-left, &&-right}
use Rattle.sheet.specs.Questions.{each, where_there}
use Rattle.sheet.proofs.QuestionLaws.{each_at}
use Rattle.nodes.proofs.AgreeLaws.{Agree}
use Rattle.schedules.specs.Closed.{upper_closed, lower_closed, bounds_closed, guards_closed, is_closed}

module _ (A : Automaton) (closed : is_closed A ≡ true) where
  bounds : bounds_closed A ≡ true
  unfolding is_closed
  bounds = &&-left (bounds_closed A) (guards_closed A) closed

  guards : guards_closed A ≡ true
  unfolding is_closed
  guards = &&-right (bounds_closed A) (guards_closed A) closed

  pub closed_bound : (l j : ℕ) → l < A.locations → j < A.clocks → upper_closed (A.bound l j) ≡ true
  unfolding bounds_closed
  closed_bound l j h = each_at A.clocks (λ j. upper_closed (A.bound l j)) (each_at A.locations (λ l. each A.clocks (λ j. upper_closed (A.bound l j))) bounds l h) j

  -- both guards of an edge
  both : (e : ℕ) → e < A.edges → each A.clocks (λ j. lower_closed (A.lower e j)) && each A.clocks (λ j. where_there upper_closed (A.upper e j)) ≡ true
  unfolding guards_closed
  both = each_at A.edges (λ e. each A.clocks (λ j. lower_closed (A.lower e j)) && each A.clocks (λ j. where_there upper_closed (A.upper e j))) guards

  pub closed_lower : (e j : ℕ) → e < A.edges → j < A.clocks → lower_closed (A.lower e j) ≡ true
  closed_lower e j h = each_at A.clocks (λ j. lower_closed (A.lower e j)) (&&-left (each A.clocks (λ j. lower_closed (A.lower e j))) _ (both e h)) j

  pub closed_upper : (e j : ℕ) → e < A.edges → j < A.clocks → where_there upper_closed (A.upper e j) ≡ true
  closed_upper e j h = each_at A.clocks (λ j. where_there upper_closed (A.upper e j))
      (&&-right (each A.clocks (λ j. lower_closed (A.lower e j))) _ (both e h)) j

-- ---- automata that agree

each_cong : (n : ℕ) (p q : ℕ → Bool) → ((i : ℕ) → i < n → p i ≡ q i) → each n p ≡ each n q
unfolding each
each_cong zero p q h = refl
each_cong (suc n) p q h = ap₂ ◌&&◌ (each_cong n p q (λ i l. h i (omega arith))) (h n (omega arith))

pub each_same : (n m : ℕ) (p q : ℕ → Bool) → n ≡ m → ((i : ℕ) → i < n → p i ≡ q i) → each n p ≡ each m q
each_same n m p q e h = each_cong n p q h ∙ ap (λ (k : ℕ). each k q) e

module _ (A B : Automaton) (s : Agree A B) where
  pub closed_agrees : is_closed A ≡ is_closed B
  unfolding is_closed bounds_closed guards_closed
  closed_agrees = ap₂ ◌&&◌
      (each_same A.locations B.locations _ _ s.locations (λ l h.
      each_same A.clocks B.clocks _ _ s.clocks (λ j k. ap upper_closed (s.bound l j h k))))
      (each_same A.edges B.edges _ _ s.edges (λ e h. ap₂ ◌&&◌
      (each_same A.clocks B.clocks _ _ s.clocks (λ j k. ap lower_closed (s.lower e j h k)))
      (each_same A.clocks B.clocks _ _ s.clocks (λ j k. ap (where_there upper_closed) (s.upper e j h k)))))
