-- Laws of weights.
use mathlib.Core.Path.{◌≡◌, sym, ap, ap₂, ◌∙◌}
use mathlib.Core.Logic.{◌↔◌}
use Prim.Native.Nat.{ℕ, zero, suc, ◌+◌, ◌*◌}
use native.Mathlib.Nat.{suc-mul, zero-mul}
use native.Mathlib.Omega.{arith}
use lib.IntN.{ℤ, pos, ◌+ℤ◌, ◌-ℤ◌, ◌*ℤ◌, zero-*ℤ, *ℤ-zero}
use lib.Signed.{◌≤ℤ◌}
use Rattle.integers.proofs.Parts.{add_parts, sub_parts, ext, le_of, le_parts}
use Rattle.integers.proofs.Products.{mul-sum, times_suc}
use Rattle.automaton.specs.Weights.{weight}

pub weight_zero : (p : ℤ) (q : ℕ) → weight p q (pos 0) 0 ≡ pos 0
unfolding weight
weight_zero p q = ap₂ ◌-ℤ◌ (*ℤ-zero (pos q)) (*ℤ-zero p)

pub weight-+ : (p : ℤ) (q : ℕ) (c d : ℤ) (r s : ℕ) → weight p q (c +ℤ d) (r + s) ≡ weight p q c r +ℤ weight p q d s
unfolding weight
weight-+ p q c d r s = ap₂ ◌-ℤ◌ (mul-sum (pos q) c d) (mul-sum p (pos r) (pos s)) ∙ apart (pos q *ℤ c) (pos q *ℤ d) (p *ℤ pos r) (p *ℤ pos s)
  where
    apart : (a b x y : ℤ) → (a +ℤ b) -ℤ (x +ℤ y) ≡ (a -ℤ x) +ℤ (b -ℤ y)
    apart a b x y = ext ((a +ℤ b) -ℤ (x +ℤ y)) ((a -ℤ x) +ℤ (b -ℤ y)) (omega (
      arith,
      add_parts a b,
      add_parts x y,
      sub_parts (a +ℤ b) (x +ℤ y),
      sub_parts a x,
      sub_parts b y,
      add_parts (a -ℤ x) (b -ℤ y),
    ))

pub weight_times : (p : ℤ) (q n : ℕ) (c : ℤ) (r : ℕ) → weight p q (pos n *ℤ c) (n * r) ≡ pos n *ℤ weight p q c r
weight_times p q zero c r = ap₂ (weight p q) (zero-*ℤ c) (zero-mul r) ∙ weight_zero p q ∙ sym (zero-*ℤ (weight p q c r))
weight_times p q (suc n) c r = ap₂ (weight p q) (times_suc n c) (suc-mul n r) ∙ weight-+ p q (pos n *ℤ c) c (n * r) r
    ∙ ap (λ (x : ℤ). x +ℤ weight p q c r) (weight_times p q n c r) ∙ sym (times_suc n (weight p q c r))

-- not below 0 is not below the ratio
pub weight_ratio : (p : ℤ) (q : ℕ) (c : ℤ) (r : ℕ) → (pos 0 ≤ℤ weight p q c r) ↔ ((p *ℤ pos r) ≤ℤ (pos q *ℤ c))
unfolding weight
weight_ratio p q c r = (
  λ h. le_of (p *ℤ pos r) (pos q *ℤ c) (omega (arith, le_parts (pos 0) (pos q *ℤ c -ℤ p *ℤ pos r) h, sub_parts (pos q *ℤ c) (p *ℤ pos r))),
  λ h. le_of (pos 0) (pos q *ℤ c -ℤ p *ℤ pos r) (omega (arith, le_parts (p *ℤ pos r) (pos q *ℤ c) h, sub_parts (pos q *ℤ c) (p *ℤ pos r))),
)
