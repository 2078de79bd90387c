-- The place of a number in a rising list. That halving finds it is proved (proofs/PlaceLaws.antt: placed).
use Rattle.std.specs.Prelude.{cond, List, ℕ, zero, suc, ◌+◌, ◌-◌, ◌/◌, ◌≤◌, ◌<◌, min, ltb, length}
use Rattle.walks.specs.Walk.{at}

-- the first n of K rise
pub record Rising (K : List ℕ) (n : ℕ) : Type 0 where
  pub rises : (a b : ℕ) → a < b → b < n → at K a < at K b

-- x belongs at place p of the first n: what stands before is below x, and what stands from there on is not
pub record Place (K : List ℕ) (n x p : ℕ) : Type 0 where
  pub within : p ≤ n
  pub below : (a : ℕ) → a < p → at K a < x
  pub above : (a : ℕ) → p ≤ a → a < n → x ≤ at K a

-- d where v is below x, else 0
abbrev pub if_below : ℕ → ℕ → ℕ → ℕ
if_below v x d = cond (ltb v x) d 0

-- of the places from low to low + size, half are skipped where the number behind that half is below x
abbrev pub skipped : List ℕ → ℕ → ℕ → ℕ → ℕ
skipped K x low size = if_below (at K (low + size / 2)) x (size / 2)

-- Halving: a turn leaves half of the places, from the same one on or from behind those that are skipped. As many turns as places are enough. Of a list
-- that does not rise it comes to some place, and this is the one.
unfoldable pub halve : ℕ → List ℕ → ℕ → ℕ → ℕ → ℕ
halve zero K x low size = low
halve (suc turns) K x low size =
    cond (ltb 1 size) (halve turns K x (low + skipped K x low size) (size - size / 2)) (low + if_below (at K low) x size)

-- of the first n entries, or of all where there are fewer
unfoldable pub place_in : List ℕ → ℕ → ℕ → ℕ
place_in K n x = halve (min n (length K)) K x 0 (min n (length K))
