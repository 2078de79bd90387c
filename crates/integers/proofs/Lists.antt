-- Laws of lists.
use mathlib.Core.Path.{◌≡◌, refl}
use mathlib.Core.List.{List, [], ◌∷◌}
use Prim.Native.Nat.{ℕ, zero, suc, ◌<◌}
use native.Mathlib.Omega.{arith}
use lib.ListN.{length, get_or}

-- what stands below the length is there whatever stands past it
pub any_default : {X : Type 0} (xs : List X) (j : ℕ) (c d : X) → j < length xs → get_or xs j c ≡ get_or xs j d
any_default [] j c d h = absurd (omega arith)
any_default (x ∷ xs) zero c d h = refl
any_default (x ∷ xs) (suc j) c d h = any_default xs j c d (omega arith)
