-- Zeros to the end of a buffer.
use Rattle.std.specs.Prelude.{List, ◌++◌, ℕ, ◌-◌, length, take, replicate}

-- zeros from the place a on; where the list ends before that place, it stays as it is
unfoldable pub cleared : {A : Type 0} → A → List A → ℕ → List A
cleared z l a = take a l ++ replicate (length l - a) z
