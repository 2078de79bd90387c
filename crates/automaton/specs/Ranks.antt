-- The rank of a number among the values of a list, closing up, and what a reset does to a list.
use Rattle.std.specs.Prelude.{Bool, cond, List, [], ◌∷◌, map, ℕ, zero, suc, max}
use Rattle.automaton.specs.Tests.{one_more_if, occurs}

-- how many of the values 1 to t occur in the list
unfoldable pub rank : List ℕ → ℕ → ℕ
rank xs zero = 0
rank xs (suc t) = one_more_if (occurs (suc t) xs) (rank xs t)

-- "emptied ranks close up": each entry becomes its rank, so that 0 stays 0 and classes 1 and 3 become 1 and 2
unfoldable pub close_up : List ℕ → List ℕ
close_up xs = map (rank xs) xs

-- the masked entries at 0, the others as before
unfoldable pub mask : (ℕ → Bool) → List ℕ → List ℕ
mask r [] = []
mask r (x ∷ xs) = cond (r 0) 0 x ∷ mask (λ j. r (suc j)) xs

-- the largest entry; of the classes of a region it is g
unfoldable pub largest : List ℕ → ℕ
largest [] = 0
largest (x ∷ xs) = max x (largest xs)
