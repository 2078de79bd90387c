-- Tests on numbers and lists that the definitions use.
use Rattle.std.specs.Prelude.{Bool, true, false, cond, ◌&&◌, ◌||◌, List, [], ◌∷◌, ℕ, suc, eqb}
use Rattle.std.proofs.Math.Option.{Option, none, some}

-- x where the test passes, and else nothing
abbrev pub only : {A : Type 0} → Bool → A → Option A
only true x = some x
only false x = none

-- one more where the test passes
abbrev pub one_more_if : Bool → ℕ → ℕ
one_more_if b k = cond b (suc k) k

-- does v occur in the list?
abbrev pub occurs : ℕ → List ℕ → Bool
occurs v [] = false
occurs v (x ∷ xs) = eqb v x || occurs v xs

-- does each entry pass the test, which is also told the entry's place?
unfoldable pub every : (ℕ → ℕ → Bool) → List ℕ → Bool
every p [] = true
every p (x ∷ xs) = p 0 x && every (λ j. p (suc j)) xs
