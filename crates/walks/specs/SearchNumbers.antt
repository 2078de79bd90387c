-- The numbers of the search: signed ones raised to natural ones, so that facts about them are linear, and what sums and comparisons of them
-- answer. Only private functions go by this file.
use Rattle.std.specs.Prelude.{◌≡◌, List, [], ◌∷◌, Bool, true, false, ℕ, ◌+◌, ◌-◌, ◌≤◌, ◌<◌, ℤ}
use Rattle.integers.specs.Parts.{up, dn}

-- the natural number that is c above z
abbrev pub raised : ℕ → ℤ → ℕ
raised c z = c + up z - dn z

unfoldable pub raised_all : ℕ → List ℤ → List ℕ
raised_all c [] = []
raised_all c (z ∷ l) = raised c z ∷ raised_all c l

-- by how much weights are raised: 2^40
abbrev pub bias : ℕ
bias = 1099511627776

-- by how much potentials are raised, 2^52: the raised potential 0, with which node 0 starts
abbrev pub start : ℕ
start = 4503599627370496

-- the raised mark of a node to which no walk is known: 2^60 above `start`
abbrev pub inf : ℕ
inf = 1157425104234217472

-- no arc weighs more, or less than its negative
abbrev pub most : ℕ
most = 409600010001

-- a potential of −10^15 or less stops the round
abbrev pub deep : ℕ
deep = 1000000000000000

-- how many stamps a round has; and all stamps are below `stamps`
abbrev pub per_round : ℕ
per_round = 131072

abbrev pub stamps : ℕ
stamps = 1073741824

-- r is the sum of a potential and a weight, which are d and w raised
pub record Sum (d w : ℕ) (r : ℤ) : Type 0 where
  pub is : raised start r + bias ≡ d + w

-- b says whether x is below y
pub record Less (x y : ℕ) (b : Bool) : Type 0 where
  pub yes : b ≡ true → x < y
  pub no : b ≡ false → y ≤ x

-- b says whether a potential, x raised, is −10^15 or less
pub record TooLow (x : ℕ) (b : Bool) : Type 0 where
  pub yes : b ≡ true → x + deep ≤ start
  pub no : b ≡ false → start < x + deep
