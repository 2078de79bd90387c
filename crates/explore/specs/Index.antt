-- A sorted index over a list of distinct numbers, and what a look-up does.
use Rattle.std.specs.Prelude.{◌≡◌, ◌⊎◌, List, ℕ, ◌+◌, ◌≤◌, ◌<◌, get_or, set, drop, Option, Some, None}
use Rattle.walks.specs.Walk.{at}
use Rattle.rising.specs.Place.{Rising}

-- L' is L with x put in at place p of the first n
pub record Inserted {A : Type 0} (L L' : List A) (n p : ℕ) (x : A) : Type 0 where
  pub low : (a : ℕ) (d : A) → a < p → get_or L' a d ≡ get_or L a d
  pub mid : (d : A) → get_or L' p d ≡ x
  pub high : (a : ℕ) (d : A) → p ≤ a → a < n → get_or L' (a + 1) d ≡ get_or L a d
  pub rest : drop (n + 1) L' ≡ drop (n + 1) L

-- v stands in the first n of I
pub record Stands (I : List ℕ) (n v : ℕ) : Type 0 where
  pub place : ℕ
  pub below : place < n
  pub is : at I place ≡ v

-- K has the first n of N in rising order, and I the place in N of each
pub record Index (N K I : List ℕ) (n : ℕ) : Type 0 where
  pub rising : Rising K n
  pub below : (k : ℕ) → k < n → at I k < n
  pub is : (k : ℕ) → k < n → at K k ≡ at N (at I k)
  pub onto : (v : ℕ) → v < n → Stands I n v

-- y stands at place j of the list already
pub record Known (N K I P N' K' I' P' : List ℕ) (n y j : ℕ) : Type 0 where
  pub below : j < n
  pub is : at N j ≡ y
  pub nodes : N' ≡ N
  pub sorted : K' ≡ K
  pub order : I' ≡ I
  pub tree : P' ≡ P

-- y is new, and is added at place n, with the arc m
pub record Added (N K I P N' K' I' P' : List ℕ) (n y m j : ℕ) : Type 0 where
  pub last : j ≡ n
  pub room : n < 2048
  pub fresh : (a : ℕ) → a < n → at N a ≡ y → ⊥
  pub nodes : N' ≡ set N n y
  pub tree : P' ≡ set P n m
  pub index : Index N' K' I' (n + 1)
  pub sorted_rest : drop (n + 1) K' ≡ drop (n + 1) K
  pub order_rest : drop (n + 1) I' ≡ drop (n + 1) I

-- y is new, and there is no room for it
pub record Full (N K I P N' K' I' P' : List ℕ) (n y : ℕ) : Type 0 where
  pub full : n ≡ 2048
  pub fresh : (a : ℕ) → a < n → at N a ≡ y → ⊥
  pub nodes : N' ≡ N
  pub sorted : K' ≡ K
  pub order : I' ≡ I
  pub tree : P' ≡ P

-- the place of y, or none where there is no room
abbrev pub Entered : (N K I P N' K' I' P' : List ℕ) (n y m : ℕ) → Option ℕ → Type 0
Entered N K I P N' K' I' P' n y m (Some j) = Known N K I P N' K' I' P' n y j ⊎ Added N K I P N' K' I' P' n y m j
Entered N K I P N' K' I' P' n y m None = Full N K I P N' K' I' P' n y
