-- The clocks and the layout of each edition, clocks at 0, and the number of the start.
use mathlib.Core.Path.{◌≡◌, refl, ap}
use mathlib.Core.Bool.{Bool, true, false, cond}
use Prim.Native.Nat.{ℕ, zero, suc, ◌+◌, ◌*◌, ◌^◌, ◌≤◌, ◌<◌}
use native.Mathlib.Nat.{zero-mod}
use native.Mathlib.Omega.{arith}
use lib.Dec.{eqb}
use lib.ListN.{replicate}
use Rattle.automaton.specs.Automaton.{Automaton}
use Rattle.automaton.specs.Nodes.{start_node}
use Rattle.sheet.specs.Fields.{first_edition, second_edition, edition_at}
use Rattle.sheet.proofs.FieldLaws.{edition_clocks}
use Rattle.nodes.specs.Numbers.{Layout, first_layout, second_layout, layout_at, class_at, whole_at, put, clocks_from, number, start_number}
use Rattle.nodes.specs.Decoded.{few_clocks}

pub few_le : (e k : ℕ) → few_clocks e k ≤ 4
few_le e k = omega (arith, edition_clocks e)

pub narrow : (e : ℕ) → (layout_at e).bits ≤ 3
narrow e = by (eqb e 1)
  where
    by : (first : Bool) → (cond first first_layout second_layout).bits ≤ 3
    by true = omega arith
    by false = omega arith

-- there is room for as many clocks as the edition has
pub room_for : (e k : ℕ) → k ≤ (edition_at e).clocks → (class_at (layout_at e) k ≤ (layout_at e).location) × (k < 2 ^ (layout_at e).bits)
room_for e = by (eqb e 1)
  where
    by : (first : Bool) (k : ℕ) → k ≤ (cond first first_edition second_edition).clocks
        → let y = cond first first_layout second_layout in (class_at y k ≤ y.location) × (k < 2 ^ y.bits)
    by true k h = (omega arith, omega arith)
    by false k h = (omega arith, omega arith)

-- a clock at 0 adds nothing to a number
pub clock_zero : (y : Layout) (j : ℕ) → put 0 y.bits (class_at y j) + put 0 4 (whole_at y j) ≡ 0
clock_zero y j = omega (arith, ap (λ (a : ℕ). a * 2 ^ class_at y j) (zero-mod (2 ^ y.bits)))

-- ---- the start
clocks_zero : (y : Layout) (j k : ℕ) → clocks_from y j (replicate k 0) (replicate k 0) ≡ 0
unfolding clocks_from
clocks_zero y j zero = refl
clocks_zero y j (suc k) = let ih = clocks_zero y (suc j) k in omega (arith, clock_zero y j, ih)

pub start_zero : (y : Layout) (A : Automaton) → start_number y A ≡ 0
unfolding number start_node
start_zero y A = omega (arith, zero-mod (2 ^ y.bits), clocks_zero y 0 A.clocks)
