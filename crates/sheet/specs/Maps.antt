-- "A record starts with a bit map; only fields whose bit stands follow, in bit order, so counting the standing bits tells where each field
-- begins."
use Rattle.std.specs.Prelude.{Bool, not, ℕ, zero, suc, ◌+◌, ◌*◌, ◌/◌, ◌%◌, ◌^◌, eqb}

-- bit b of a map, 0 or 1
abbrev pub bit_of : ℕ → ℕ → ℕ
bit_of m b = m / 2 ^ b % 2

-- bit b of a map is set
abbrev pub stands : ℕ → ℕ → Bool
stands m b = not (eqb (bit_of m b) 0)

-- bytes of the field of bit b: two for the prices, bits 0 and 1
abbrev pub width_of : ℕ → ℕ
width_of zero = 2
width_of (suc zero) = 2
width_of (suc (suc b)) = 1

-- bytes of the fields below bit b
unfoldable pub place_of : ℕ → ℕ → ℕ
place_of m zero = 0
place_of m (suc b) = place_of m b + bit_of m b * width_of b
