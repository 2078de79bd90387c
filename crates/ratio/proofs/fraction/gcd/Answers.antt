-- The common divisors of the two numbers stay as they are.
use mathlib.Core.Path.{subst⁻¹}
use Prim.Native.Nat.{ℕ, ◌∣◌}
use native.Mathlib.Nat.{dvd-zero, dvd_refl, dvd-mod_iff}
use Rattle.ratio.proofs.fraction.gcd.Goals as goal

pub loop-y-preserved : goal.loop-y-preserved
loop-y-preserved c = (
  (λ d h k. ((c.loop-y.invariant.0 d h k).1, (dvd-mod_iff d {m = c.loop-y.x} (c.loop-y.invariant.0 d h k).1).1 (c.loop-y.invariant.0 d h k).0)),
  (λ d h k. c.loop-y.invariant.1 d ((dvd-mod_iff d {m = c.loop-y.x} h).0 k) h),
)

pub returns : goal.returns
returns c =
    let z : c.loop-y.x ∣ c.loop-y.y = subst⁻¹ (λ (n : ℕ). c.loop-y.x ∣ n) c.loop-y-test.false (dvd-zero c.loop-y.x) in
    record {
      left = (c.loop-y.invariant.1 c.loop-y.x (dvd_refl c.loop-y.x) z).0;
      right = (c.loop-y.invariant.1 c.loop-y.x (dvd_refl c.loop-y.x) z).1;
      greatest = λ d h k. (c.loop-y.invariant.0 d h k).0;
    }
