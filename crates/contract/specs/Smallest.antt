-- "the smallest potential reported for the sheet".
use Rattle.std.specs.Prelude.{cond, List, [], ◌∷◌, ℕ, ℤ, pos, take}
use Rattle.std.specs.Int.Signed.{le_z}

abbrev pub lesser : ℤ → ℤ → ℤ
lesser y z = cond (le_z y z) y z

-- the least number of a list. That of an empty list, of which nothing is asked, is 0.
unfoldable pub least_of : List ℤ → ℤ
least_of [] = pos 0
least_of (z ∷ []) = z
least_of (z ∷ y ∷ l) = lesser z (least_of (y ∷ l))

-- the least of the first n entries of the potentials buffer
abbrev pub smallest_potential : ℕ → List ℤ → ℤ
smallest_potential n potentials = least_of (take n potentials)
