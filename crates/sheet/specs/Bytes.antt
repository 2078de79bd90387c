-- Bytes and two-byte numbers. "Little-endian."
use Rattle.std.specs.Prelude.{cond, List, ℕ, ◌+◌, ◌-◌, ◌*◌, ltb, ℤ, pos, negsuc, get_or}

-- the byte at a place, 0 past the end
abbrev pub byte_at : List ℕ → ℕ → ℕ
byte_at s at = get_or s at 0

abbrev pub word_at : List ℕ → ℕ → ℕ
word_at s at = byte_at s at + 256 * byte_at s (at + 1)

-- "signed 16-bit"
unfoldable pub signed_of : ℕ → ℤ
signed_of u = cond (ltb u 32768) (pos u) (negsuc (65535 - u))
