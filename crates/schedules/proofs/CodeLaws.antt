-- What no code, and one code before the others, mean: for the pairs, for what remains, and for the members.
use mathlib.Core.Path.{◌≡◌, refl, ap, ap₂}
use mathlib.Core.Bool.{Bool, cond}
use mathlib.Core.List.{List, [], ◌∷◌, ◌++◌}
use Prim.Native.Nat.{ℕ, ◌+◌, ◌≤◌, ◌<◌}
use borrow.Author.Tests.{le-leb, lt-leb}
use Rattle.automaton.specs.Runs.{delay, edge}
use Rattle.automaton.specs.Times.{units_of}
use Rattle.schedules.specs.Pairs.{Pair, members, pairs_from}
use Rattle.schedules.specs.WalkTerms.{rest_from, members_from}

pub pairs_none : (w : ℕ) → pairs_from w [] ≡ []
unfolding pairs_from
pairs_none w = refl

pub rest_none : (w : ℕ) → rest_from w [] ≡ w
unfolding rest_from
rest_none w = refl

pub members_none : (w : ℕ) → members_from w [] ≡ delay w ∷ []
unfolding members_from members pairs_from rest_from
members_none w = refl

module _ (w code : ℕ) (codes : List ℕ) where
  pub pairs_edge : code ≤ 31 → pairs_from w (code ∷ codes) ≡ record { wait = w; edge = code } ∷ pairs_from 0 codes
  unfolding pairs_from
  pairs_edge l = ap (λ (b : Bool). cond b (record { wait = w; edge = code } ∷ pairs_from 0 codes) (pairs_from (w + units_of code) codes)) (le-leb code 31 l)

  pub pairs_delay : 31 < code → pairs_from w (code ∷ codes) ≡ pairs_from (w + units_of code) codes
  unfolding pairs_from
  pairs_delay l = ap (λ (b : Bool). cond b (record { wait = w; edge = code } ∷ pairs_from 0 codes) (pairs_from (w + units_of code) codes)) (lt-leb code 31 l)

  pub rest_edge : code ≤ 31 → rest_from w (code ∷ codes) ≡ rest_from 0 codes
  unfolding rest_from
  rest_edge l = ap (λ (b : Bool). cond b (rest_from 0 codes) (rest_from (w + units_of code) codes)) (le-leb code 31 l)

  pub rest_delay : 31 < code → rest_from w (code ∷ codes) ≡ rest_from (w + units_of code) codes
  unfolding rest_from
  rest_delay l = ap (λ (b : Bool). cond b (rest_from 0 codes) (rest_from (w + units_of code) codes)) (lt-leb code 31 l)

  pub members_edge : code ≤ 31 → members_from w (code ∷ codes) ≡ delay w ∷ edge code ∷ members_from 0 codes
  unfolding members_from members
  members_edge l = ap₂ (λ (ps : List Pair) (r : ℕ). members ps ++ (delay r ∷ [])) (pairs_edge l) (rest_edge l)

  pub members_delay : 31 < code → members_from w (code ∷ codes) ≡ members_from (w + units_of code) codes
  unfolding members_from
  members_delay l = ap₂ (λ (ps : List Pair) (r : ℕ). members ps ++ (delay r ∷ [])) (pairs_delay l) (rest_delay l)
