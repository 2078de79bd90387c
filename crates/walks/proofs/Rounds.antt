-- The arcs and a round's turns, as the laws of the search have them: see specs/SearchTerms.
use mathlib.Core.Path.{◌≡◌}
use mathlib.Core.Logic.{◌⊎◌}
use mathlib.Core.List.{List}
use Prim.Native.Nat.{ℕ, ◌+◌, ◌≤◌, ◌<◌}
use lib.ListN.{length}
use Rattle.walks.specs.Walk.{at}
use Rattle.walks.specs.SearchNumbers.{bias, most}
use Rattle.walks.specs.SearchTerms.{RoundState, Fine}

-- the arcs lie between nodes below n, and their weights are in range
pub record Arcs (F T : List ℕ) (W : ℕ → ℕ) (m n : ℕ) : Type 0 where
  pub some : 0 < n
  pub small : n ≤ 2048
  pub few : m ≤ 69632
  pub froms : length F ≡ m
  pub tos : length T ≡ m
  pub source : (e : ℕ) → e < m → at F e < n
  pub target : (e : ℕ) → e < m → at T e < n
  pub light : (e : ℕ) → e < m → W e ≤ bias + most
  pub heavy : (e : ℕ) → e < m → bias ≤ W e + most

-- the round after i arcs; seen is a node that fell, or n
pub record Turn (F T : List ℕ) (W : ℕ → ℕ) (m : ℕ) (D par st : List ℕ) (b i n seen : ℕ) : Type 0 where
  pub state : RoundState F T W m D par st b i n
  pub fine : Fine D n
  pub fell : ((seen ≡ n) × ((v : ℕ) → v < n → at st v ≤ b)) ⊎ ((seen < n) × (b < at st seen))
