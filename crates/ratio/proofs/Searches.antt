-- What the answers of the searches say of cycles.
use mathlib.Core.Path.{◌≡◌, ap}
use mathlib.Core.List.{List}
use Prim.Native.Nat.{ℕ, ◌+◌, ◌*◌, ◌<◌}
use native.Mathlib.Nat.{mul-zero, zero-mul, mul-le-mul, lt_of_mul-lt-mul_left, le_of_mul-le-mul_left}
use native.Mathlib.Omega.{arith}
use lib.ListN.{length}
use lib.IntN.{ℤ, pos}
use Rattle.integers.proofs.Parts.{up, dn, le_of, lt_of, le_parts, lt_parts}
use Rattle.walks.specs.Walk.{at, atℤ}
use Rattle.walks.specs.Weight.{weight_of, sum, total, NoneNegative, NegativeCycle}
use Rattle.walks.specs.Cycles.{SimpleCycle, NoneEarns, NoIdleGain, IdleGainArcs}
use Rattle.walks.proofs.Weights.{weight_sum_0}
use Rattle.ratio.proofs.Heights.{combined}

-- the cycle that a search found
pub simple_of : (F T : List ℕ) (m : ℕ) (weight : ℕ → ℤ) (c : List ℕ) → NegativeCycle F T m weight c → SimpleCycle F T m c
simple_of F T m weight c g = record { hub = g.hub; reached = g.reached; cycle = g.cycle; simple = g.simple }

positive : (n : ℕ) → (n ≡ 0 → ⊥) → 0 < n
positive n h = omega arith

is_zero : (n : ℕ) → (0 < n → ⊥) → n ≡ 0
is_zero n h = omega arith

module _ (q : ℕ) (b : ℤ) (cost : List ℤ) (reward : List ℕ) where
  -- q times the cost and b times the reward
  abbrev pub weight_by : ℕ → ℤ
  weight_by = weight_of (pos q) b (pos 0) cost reward

  parts : (c : List ℕ) → let C = sum (atℤ cost) c in let R = total (at reward) c in let z = sum weight_by c in
      up z + (q * dn C + dn b * R) ≡ dn z + (q * up C + up b * R)
  parts c = combined (sum (atℤ cost) c) b (total (at reward) c) q (sum weight_by c) (weight_sum_0 (pos q) b cost reward c)

  -- without reward: q times the cost
  idle_parts : (c : List ℕ) → total (at reward) c ≡ 0 → let C = sum (atℤ cost) c in let z = sum weight_by c in up z + q * dn C ≡ dn z + q * up C
  idle_parts c e = omega (
    arith,
    parts c,
    ap (λ (r : ℕ). up b * r) e,
    ap (λ (r : ℕ). dn b * r) e,
    mul-zero (up b),
    mul-zero (dn b),
  )

  module _ (F T : List ℕ) where
    -- a negative cycle without reward costs less than 0
    pub idle_gain : (c : List ℕ) → NegativeCycle F T (length F) weight_by c → total (at reward) c ≡ 0 → IdleGainArcs F T (length F) cost reward
    idle_gain c g e = let C = sum (atℤ cost) c in record {
      arcs = c;
      cycle = simple_of F T (length F) weight_by c g;
      no_reward = e;
      gains = lt_of C (pos 0) (omega (
        arith,
        lt_of_mul-lt-mul_left q {m = up C} {n = dn C} (omega (arith, idle_parts c e, lt_parts (sum weight_by c) (pos 0) g.negative)),
      ));
    }

    -- and where no cycle is negative, there is none
    pub no_idle_gain : 0 < q → NoneNegative F T (length F) weight_by → NoIdleGain F T (length F) cost reward
    no_idle_gain some none x c r o e = let C = sum (atℤ cost) c in
        le_of (pos 0) C (omega (
          arith,
          le_of_mul-le-mul_left {m = dn C} {n = up C} {k = q} (omega (arith, idle_parts c e, le_parts (pos 0) (sum weight_by c) (none x c r o))) some,
        ))

-- by rewards alone, each unit below 0, just the cycles that earn are negative
module _ (F T : List ℕ) (cost : List ℤ) (reward : List ℕ) (b : ℤ) (negative : up b ≡ 0) (some : 0 < dn b) where
  abbrev W : ℕ → ℤ
  W = weight_by 0 b cost reward

  reward_parts : (c : List ℕ) → up (sum W c) + dn b * total (at reward) c ≡ dn (sum W c)
  reward_parts c = let R = total (at reward) c in let C = sum (atℤ cost) c in
      omega (arith, parts 0 b cost reward c, zero-mul (up C), zero-mul (dn C), ap (λ (k : ℕ). k * R) negative, zero-mul R)

  pub earns : (c : List ℕ) → NegativeCycle F T (length F) W c → 0 < total (at reward) c
  earns c g = positive (total (at reward) c) (λ e. omega (
    arith,
    reward_parts c,
    ap (λ (r : ℕ). dn b * r) e,
    mul-zero (dn b),
    lt_parts (sum W c) (pos 0) g.negative,
  ))

  pub none_earns : NoneNegative F T (length F) W → NoneEarns F T (length F) reward
  none_earns none x c r o = is_zero (total (at reward) c) (λ h. omega (arith, reward_parts c, mul-le-mul some h, le_parts (pos 0) (sum W c) (none x c r o)))
