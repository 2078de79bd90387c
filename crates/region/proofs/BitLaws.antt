-- Shifts and masks as powers and remainders.
use mathlib.Core.Path.{◌≡◌, ap, ◌∙◌}
use Prim.Native.Nat.{ℕ, ◌+◌, ◌-◌, ◌*◌, ◌%◌, ◌^◌, ◌≤◌, ◌<◌}
use native.Mathlib.Nat.{add_comm, mod-lt}
use native.Mathlib.Omega.{arith}
use lib.Bits.{bit_and, bit_or, and_mask, or_shifted_r}
use lib.Pow.{pow_pos, pow_mono, shl_exact}
use Rattle.sheet.proofs.MapLaws.{one_shl}
use Rattle.nodes.specs.Numbers.{put}

-- the low bits
pub low_bits : (x width : ℕ) → width < 64 → bit_and x (1 * 2 ^ width % 2 ^ 64 - 1) ≡ x % 2 ^ width
low_bits x width h = ap (λ (m : ℕ). bit_and x (m - 1)) (one_shl 64 width h) ∙ and_mask x width

pub low_below : (x width most : ℕ) → width ≤ most → x % 2 ^ width < 2 ^ most
low_below x width most h = omega (arith, mod-lt x (pow_pos width), pow_mono {i = width} {j = most} h)

-- a part above the bits that are there is a sum
pub part_above : (x v width at : ℕ) → x < 2 ^ at → width ≤ 4 → at ≤ 60
    → bit_or x (bit_and v (1 * 2 ^ width % 2 ^ 64 - 1) * 2 ^ at % 2 ^ 64) ≡ x + put v width at
part_above x v width at hx hw ha =
    ap (λ (m : ℕ). bit_or x (m * 2 ^ at % 2 ^ 64)) (low_bits v width (omega arith))
    ∙ ap (bit_or x) (shl_exact width at 64 (mod-lt v (pow_pos width)) (omega arith))
    ∙ or_shifted_r (v % 2 ^ width) at x hx ∙ add_comm (v % 2 ^ width * 2 ^ at) x
