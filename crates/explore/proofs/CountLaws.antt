-- The numbers of a turn: what a bound on the nodes allows.
use mathlib.Core.Path.{◌≡◌}
use Prim.Native.Nat.{ℕ, ◌+◌, ◌*◌, ◌/◌, ◌%◌, ◌≤◌, ◌<◌}
use native.Mathlib.Omega.{arith}
use mir.Syntax.{w64}
use mir.Val.{Fits}

-- n nodes are found, and turn t is taken
pub record Counts (n t : ℕ) : Type 0 where
  pub node : t / 34 < n
  pub code : t % 34 < 34
  pub turn : t ≡ 34 * (t / 34) + t % 34

pub counts : (n t : ℕ) → t < 34 * n → Counts n t
counts n t taken = record { node = omega arith; code = omega arith; turn = omega arith }

pub edge_place : (t : ℕ) → t % 34 % 32 < 32
edge_place t = omega arith

-- ---- what fits a machine word: docs/PORT.md names these; no proof cites them

pub node_low : (n t : ℕ) → n ≤ 2048 → t < 34 * n → t / 34 < 65536
node_low n t few taken = omega arith

pub node_offset : (n t : ℕ) → n ≤ 2048 → t < 34 * n → Fits w64 (t / 34 * 8)
node_offset n t few taken = record { fits = omega arith }

pub next_node : (n : ℕ) → n ≤ 2048 → Fits w64 (n + 1)
next_node n few = record { fits = omega arith }

pub turns_fit : (n : ℕ) → n ≤ 2048 → Fits w64 (34 * n)
turns_fit n h = record { fits = omega arith }

pub edge_offset : (t : ℕ) → Fits w64 (t % 34 % 32 * 16)
edge_offset t = record { fits = omega arith }

pub location_offset : (l : ℕ) → l < 256 → Fits w64 (l * 8)
location_offset l h = record { fits = omega arith }

pub hint_offset : (s : ℕ) → s < 8192 → Fits w64 (s * 2)
hint_offset s h = record { fits = omega arith }
