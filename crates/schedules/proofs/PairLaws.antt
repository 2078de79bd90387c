-- The pairs of step codes: of one list after another, how many there are, and how many units can remain.
use mathlib.Core.Path.{◌≡◌, refl, ap, ◌∙◌}
use mathlib.Core.Bool.{Bool, true, false, cond}
use mathlib.Core.List.{List, [], ◌∷◌, ◌++◌}
use Prim.Native.Nat.{ℕ, ◌+◌, ◌≤◌, ◌<◌}
use native.Mathlib.Omega.{arith}
use borrow.Author.Tests.{leb-true, leb-false}
use lib.Dec.{eqb}
use lib.ListN.{length}
use Rattle.automaton.specs.Times.{units_of}
use Rattle.automaton.proofs.Tests.{by_bool}
use Rattle.schedules.specs.Pairs.{Pair, is_edge, pairs_from, pairs_of}
use Rattle.schedules.specs.WalkTerms.{rest_from, rest_of}
use Rattle.schedules.proofs.CodeLaws.{pairs_none, pairs_edge, pairs_delay, rest_none, rest_edge, rest_delay}

pub by_kind {ℓ} : {X : Type ℓ} (code : ℕ) → (code ≤ 31 → X) → (31 < code → X) → X
by_kind code f g = by_bool (is_edge code) (λ e. f (leb-true code 31 e)) (λ e. g (leb-false code 31 e))

-- ---- one list after another

pub pairs_append : (w : ℕ) (xs ys : List ℕ) → pairs_from w (xs ++ ys) ≡ pairs_from w xs ++ pairs_from (rest_from w xs) ys
unfolding pairs_from rest_from
pairs_append w [] ys = refl
pairs_append w (code ∷ xs) ys = let f = pairs_append 0 xs ys in let g = pairs_append (w + units_of code) xs ys in go (is_edge code) f g
  where
    go : (b : Bool) → pairs_from 0 (xs ++ ys) ≡ pairs_from 0 xs ++ pairs_from (rest_from 0 xs) ys
        → pairs_from (w + units_of code) (xs ++ ys) ≡ pairs_from (w + units_of code) xs ++ pairs_from (rest_from (w + units_of code) xs) ys
        → cond b (record { wait = w; edge = code } ∷ pairs_from 0 (xs ++ ys)) (pairs_from (w + units_of code) (xs ++ ys))
        ≡ cond b (record { wait = w; edge = code } ∷ pairs_from 0 xs) (pairs_from (w + units_of code) xs)
        ++ pairs_from (cond b (rest_from 0 xs) (rest_from (w + units_of code) xs)) ys
    go true f g = ap (λ (l : List Pair). record { wait = w; edge = code } ∷ l) f
    go false f g = g

rest_append : (w : ℕ) (xs ys : List ℕ) → rest_from w (xs ++ ys) ≡ rest_from (rest_from w xs) ys
unfolding rest_from
rest_append w [] ys = refl
rest_append w (code ∷ xs) ys = let f = rest_append 0 xs ys in let g = rest_append (w + units_of code) xs ys in go (is_edge code) f g
  where
    go : (b : Bool) → rest_from 0 (xs ++ ys) ≡ rest_from (rest_from 0 xs) ys → rest_from (w + units_of code) (xs ++ ys) ≡ rest_from (rest_from (w + units_of code) xs) ys
        → cond b (rest_from 0 (xs ++ ys)) (rest_from (w + units_of code) (xs ++ ys)) ≡ rest_from (cond b (rest_from 0 xs) (rest_from (w + units_of code) xs)) ys
    go true f g = f
    go false f g = g

-- an edge more at the end: it ends a pair with what remained
module _ (codes : List ℕ) (code : ℕ) where
  pub next_edge : code ≤ 31 → pairs_of (codes ++ (code ∷ [])) ≡ pairs_of codes ++ (record { wait = rest_of codes; edge = code } ∷ [])
  next_edge l = pairs_append 0 codes (code ∷ []) ∙ ap (λ (ps : List Pair). pairs_of codes ++ ps)
      (pairs_edge (rest_of codes) code [] l ∙ ap (λ (ps : List Pair). record { wait = rest_of codes; edge = code } ∷ ps) (pairs_none 0))

  pub next_none_left : code ≤ 31 → rest_of (codes ++ (code ∷ [])) ≡ 0
  next_none_left l = rest_append 0 codes (code ∷ []) ∙ rest_edge (rest_of codes) code [] l ∙ rest_none 0

-- ---- how many pairs there are, and how many units remain

pub units_small : (code : ℕ) → units_of code ≤ 1
units_small code = go (eqb code 32)
  where
    go : (b : Bool) → cond b 1 0 ≤ 1
    go true = omega arith
    go false = omega arith

pub pairs_few : (w : ℕ) (codes : List ℕ) → length (pairs_from w codes) ≤ length codes
unfolding pairs_from
pairs_few w [] = omega arith
pairs_few w (code ∷ codes) = let f = pairs_few 0 codes in let g = pairs_few (w + units_of code) codes in by_kind code
    (λ l. omega (arith, ap length (pairs_edge w code codes l)))
    (λ l. omega (arith, ap length (pairs_delay w code codes l)))

pub rest_short : (w : ℕ) (codes : List ℕ) → rest_from w codes ≤ w + length codes
unfolding rest_from
rest_short w [] = omega arith
rest_short w (code ∷ codes) = let f = rest_short 0 codes in let g = rest_short (w + units_of code) codes in by_kind code
    (λ l. omega (arith, rest_edge w code codes l))
    (λ l. omega (arith, rest_delay w code codes l, units_small code))
