-- Refusals, or none, and the numbers up to 18 stand for each other, so that no two have the same number.
use mathlib.Core.Path.{◌≡◌, refl, sym, ap, ◌∙◌}
use mathlib.Core.List.{List, [], ◌∷◌}
use Prim.Native.Nat.{ℕ, zero, suc, ◌+◌, ◌≤◌, ◌<◌}
use native.Mathlib.Omega.{arith}
use Rattle.std.proofs.Common.{rules}
use lib.ListN.{length}
use Rattle.std.specs.declared.option.Option.{Option}
use Rattle.std.specs.declared.option.Option.TheVariants.{None, Some}
use Rattle.std.specs.Prelude.{slice_get}
use Rattle.std.specs.declared.result.Result.{Result}
use Rattle.std.specs.Result.{IsErrAnd}
use Rattle.std.proofs.lemmas.Result.{err_from_is_err_and}
use Rattle.refusals.specs.Numbers.{number_of, number_in, refusals, refusal_of, refusal_at}
use Rattle.refusals.specs.declared.Refusal.{Refusal}
use Rattle.refusals.specs.declared.Refusal.TheVariants.{ShortBuffer, Length, Edition, Counts, MissingBytes, ForbiddenField, MissingBound, OutOfRange, NoSuchLocation}
use Rattle.refusals.specs.declared.Refusal.TheVariants.{UnusedBytes, StartOutside, TooManyNodes, NoneEarns, IdleGain, NoNode, NotAllowed, EqualEdges, Strict}

pub at_number : (r : Refusal) → refusal_at (number_of r) ≡ Some r
unfolding refusal_at
at_number = elim [
  | ShortBuffer ↦ refl
  | Length ↦ refl
  | Edition ↦ refl
  | Counts ↦ refl
  | MissingBytes ↦ refl
  | ForbiddenField ↦ refl
  | MissingBound ↦ refl
  | OutOfRange ↦ refl
  | NoSuchLocation ↦ refl
  | UnusedBytes ↦ refl
  | StartOutside ↦ refl
  | TooManyNodes ↦ refl
  | NoneEarns ↦ refl
  | IdleGain ↦ refl
  | NoNode ↦ refl
  | NotAllowed ↦ refl
  | EqualEdges ↦ refl
  | Strict ↦ refl
]

pub number_back : (o : Option Refusal) → refusal_at (number_in o) ≡ o
unfolding refusal_at
number_back None = refl
number_back (Some r) = at_number r

-- the refusals of a list have the numbers from k on
abbrev RisingFrom : ℕ → List Refusal → Type 0
RisingFrom k [] = Unit {0}
RisingFrom k (r ∷ rest) = (number_of r ≡ k) × RisingFrom (suc k) rest

number_at : (k : ℕ) (l : List Refusal) (n : ℕ) → RisingFrom k l → n < length l → number_in (slice_get l n) ≡ k + n
number_at k [] n h lt = absurd (omega arith)
number_at k (r ∷ rest) zero h lt = omega (arith, h.0)
number_at k (r ∷ rest) (suc n) h lt = number_at (suc k) rest n h.1 (omega arith) ∙ omega arith

pub refusal_back : (n : ℕ) → n ≤ 18 → number_in (refusal_at n) ≡ n
unfolding refusal_at
refusal_back zero h = refl
refusal_back (suc n) h = number_at 1 refusals n (search rules depth 30) (omega arith) ∙ omega arith

-- past the end of a list there is none
nothing_at : (l : List Refusal) (n : ℕ) → length l ≤ n → slice_get l n ≡ None
nothing_at [] n h = refl
nothing_at (r ∷ rest) zero h = absurd (omega (arith, h))
nothing_at (r ∷ rest) (suc n) h = nothing_at rest n (omega (arith, h))

pub none_at_0 : refusal_at 0 ≡ None
unfolding refusal_at
none_at_0 = refl

pub none_above : (n : ℕ) → 18 < n → refusal_at n ≡ None
unfolding refusal_at
none_above zero h = refl
none_above (suc n) h = nothing_at refusals n (omega (arith, h))

-- no refusal has the number of none
pub never_0 : (r : Refusal) → number_of r ≡ 0 → ⊥
unfolding refusal_at
never_0 r z = let q : None ≡ Some r = ap refusal_at (sym z) ∙ at_number r in cc

-- the exit of a `?` returns the refusal that was met
pub handed_on : {A : Type 0} (x : Result A Refusal) (r : Refusal) → IsErrAnd x (λ y. y ≡ r) → refusal_of x ≡ number_of r
handed_on x r h = let p = err_from_is_err_and x h in ap refusal_of p.1 ∙ ap number_of p.2
