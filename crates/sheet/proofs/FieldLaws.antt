-- Fields and their ranges.
use mathlib.Core.Path.{◌≡◌, refl}
use mathlib.Core.Bool.{Bool, true, false, cond, ◌&&◌}
use Prim.Native.Nat.{ℕ, suc, ◌+◌, ◌-◌, ◌≤◌, ◌<◌}
use native.Mathlib.Omega.{arith}
use borrow.Author.Tests.{lt-leb, le-leb, lt-ltb, le-ltb, leb-true, ne_eqb}
use lib.Dec.{leb, eqb}
use lib.IntN.{negsuc}
use Rattle.sheet.specs.Fields.{Edition, first_edition, second_edition, edition_at, is_within, cost_in_range, field_of}
use Rattle.sheet.specs.declared.fields.Kind.TheVariants.{LocationRecord, EdgeRecord}
use Rattle.sheet.specs.declared.fields.Field.TheVariants.{Lower, Upper, Unused}

-- ---- a number within bounds

-- docs/PORT.md names this; no proof cites it
pub not_too_low : (v low high : ℕ) → low ≤ v → leb v high ≡ is_within v low high
not_too_low v low high h = simp (le-leb _ _ h)

pub bounds : (v low high : ℕ) → is_within v low high ≡ true → (low ≤ v) × (v ≤ high)
bounds v low high = by (leb low v) refl
  where
    by : (t : Bool) → leb low v ≡ t → t && leb v high ≡ true → (low ≤ v) × (v ≤ high)
    by true e h = (leb-true low v e, leb-true v high h)
    by false e h = let z : ◌≡◌ {A = ℕ} 0 1 = cc in absurd (omega arith)

-- ---- a cost

pub low_cost : (n : ℕ) → 9999 < n → false ≡ cost_in_range (negsuc n)
unfolding cost_in_range
low_cost n h = simp (ne_eqb (suc n) 0 (λ e. omega arith), lt-leb (suc n) 10000 (omega arith))

-- ---- editions, and what a bit stands for

pub edition_clocks : (e : ℕ) → (edition_at e).clocks ≤ 4
edition_clocks e = by (eqb e 1)
  where
    by : (first : Bool) → (cond first first_edition second_edition).clocks ≤ 4
    by true = omega arith
    by false = omega arith

module _ (y : Edition) (b : ℕ) where
  pub location_upper : 2 ≤ b → b < 2 + y.clocks → field_of y LocationRecord b ≡ Upper (b - 2)
  unfolding field_of
  location_upper h k = simp (ne_eqb b 0 (λ e. omega arith), ne_eqb b 1 (λ e. omega arith), le-leb 2 b h, lt-ltb b (2 + y.clocks) k)

  pub location_unused : 2 + y.clocks ≤ b → field_of y LocationRecord b ≡ Unused
  unfolding field_of
  location_unused h = simp (ne_eqb b 0 (λ e. omega arith), ne_eqb b 1 (λ e. omega arith), le-leb 2 b (omega arith), le-ltb b (2 + y.clocks) h)

  pub edge_lower : 3 ≤ b → b < 3 + y.clocks → field_of y EdgeRecord b ≡ Lower (b - 3)
  unfolding field_of
  edge_lower h k =
      simp (ne_eqb b 0 (λ e. omega arith), ne_eqb b 1 (λ e. omega arith), ne_eqb b 2 (λ e. omega arith), le-leb 3 b h, lt-ltb b (3 + y.clocks) k)

  pub edge_upper : 3 + y.clocks ≤ b → b < 3 + y.clocks + y.clocks → field_of y EdgeRecord b ≡ Upper (b - (3 + y.clocks))
  unfolding field_of
  edge_upper h k = simp (
    ne_eqb b 0 (λ e. omega arith),
    ne_eqb b 1 (λ e. omega arith),
    ne_eqb b 2 (λ e. omega arith),
    le-leb 3 b (omega arith),
    le-ltb b (3 + y.clocks) h,
    le-leb (3 + y.clocks) b h,
    lt-ltb b (3 + y.clocks + y.clocks) k,
  )

  pub edge_unused : 3 + y.clocks + y.clocks ≤ b → field_of y EdgeRecord b ≡ Unused
  unfolding field_of
  edge_unused h = simp (
    ne_eqb b 0 (λ e. omega arith),
    ne_eqb b 1 (λ e. omega arith),
    ne_eqb b 2 (λ e. omega arith),
    le-leb 3 b (omega arith),
    le-ltb b (3 + y.clocks) (omega arith),
    le-leb (3 + y.clocks) b (omega arith),
    le-ltb b (3 + y.clocks + y.clocks) h,
  )
