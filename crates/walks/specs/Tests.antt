-- Answers of tests. Only private functions go by this file.
use Rattle.std.specs.Prelude.{◌≡◌, Bool, true, false}

-- t says whether P holds
pub record Test (P : Type 0) (t : Bool) : Type 0 where
  pub yes : t ≡ true → P
  pub no : t ≡ false → P → ⊥
