-- Upper and lower bytes: when they hold in a whole interval of a region, and when of a clock value in nths.
use Rattle.std.specs.Prelude.{Bool, true, cond, not, ℕ, ◌*◌, ◌/◌, ◌%◌, leb, ltb, eqb}
use Rattle.std.proofs.Math.Option.{Option, none, some}
use Rattle.automaton.specs.Tests.{one_more_if}

-- A region has a clock at its whole part h, where its class k is 0, and else strictly between h and h + 1.
-- These intervals are numbered as they follow each other: 2h is h itself, 2h + 1 is what lies strictly between h and h + 1.
abbrev pub interval : ℕ → ℕ → ℕ
interval h k = one_more_if (not (eqb k 0)) (2 * h)

-- "An upper byte 2c means clock < c, 2c + 1 means clock ≤ c": it holds in the whole interval where that comes before number 2c, or 2c + 1.
abbrev pub upper_holds : ℕ → ℕ → Bool
upper_holds u i = ltb i u

-- "A lower byte 2c means clock ≥ c, 2c + 1 means clock > c": it holds in the whole interval from number 2c, or 2c + 1, on.
abbrev pub lower_holds : ℕ → ℕ → Bool
lower_holds l i = leb l i

-- The same bytes of a value v in nths: "a bound or guard with c is compared at c times n".
abbrev pub upper_holds_nths : ℕ → ℕ → ℕ → Bool
upper_holds_nths n u v = cond (eqb (u % 2) 0) (ltb v (u / 2 * n)) (leb v (u / 2 * n))

abbrev pub lower_holds_nths : ℕ → ℕ → ℕ → Bool
lower_holds_nths n l v = cond (eqb (l % 2) 0) (leb (l / 2 * n) v) (ltb (l / 2 * n) v)

-- "an absent guard allows all": an upper byte that may be absent, with the test of one that is there
abbrev pub if_present : (ℕ → ℕ → Bool) → Option ℕ → ℕ → Bool
if_present holds none x = true
if_present holds (some u) x = holds u x
