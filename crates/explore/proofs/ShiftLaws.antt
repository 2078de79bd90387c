-- An insertion: what stands from a place on moves up by one. docs/PORT.md names these; no proof cites them.
use mathlib.Core.Path.{◌≡◌, refl, ap, ◌∙◌}
use mathlib.Core.List.{List}
use Prim.Native.Nat.{ℕ, ◌+◌, ◌-◌, ◌≤◌, ◌<◌}
use native.Mathlib.Omega.{arith}
use native.Mathlib.Decide.{dec_lt}
use lib.ListN.{length, set, length-set, drop}
use lib.Seq.{get_or-set_same, get_or-set_other, drop-set-lt}
use Rattle.integers.proofs.Lists.{any_default}
use Rattle.walks.specs.Walk.{at}
use Rattle.explore.specs.Index.{Inserted}

-- from i on, all has moved up
pub record Shifted (L₀ L : List ℕ) (n p i : ℕ) : Type 0 where
  pub long : length L ≡ length L₀
  pub down : p ≤ i
  pub upper : i ≤ n
  pub low : (a : ℕ) → a < i → at L a ≡ at L₀ a
  pub high : (a : ℕ) → i ≤ a → a < n → at L (a + 1) ≡ at L₀ a
  pub rest : drop (n + 1) L ≡ drop (n + 1) L₀

pub shift_start : (L : List ℕ) (n p : ℕ) → p ≤ n → Shifted L L n p n
shift_start L n p h = record {
  long = refl;
  down = h;
  upper = omega arith;
  low = λ a l. refl;
  high = λ a k l. absurd (omega arith);
  rest = refl;
}

pub shift_one : (L₀ L : List ℕ) (n p i : ℕ) → n < length L₀ → p < i → Shifted L₀ L n p i → Shifted L₀ (set L i (at L (i - 1))) n p (i - 1)
shift_one L₀ L n p i f h g = record {
  long = length-set L i (at L (i - 1)) ∙ g.long;
  down = omega arith;
  upper = omega (arith, g.upper);
  low = λ a l. get_or-set_other L i a (at L (i - 1)) 0 (λ e. omega arith) ∙ g.low a (omega arith);
  high = λ a k l. elim (dec_lt a i) [
    | yes q ↦
        let e : a + 1 ≡ i = omega arith in
        let e' : i - 1 ≡ a = omega arith in
        ap (λ (z : ℕ). at (set L i (at L (i - 1))) z) e ∙ get_or-set_same L i (at L (i - 1)) 0 (omega (arith, g.long, g.upper))
        ∙ ap (at L) e' ∙ g.low a q
    | no q ↦ get_or-set_other L i (a + 1) (at L (i - 1)) 0 (λ e. omega arith) ∙ g.high a (omega arith) l
  ];
  rest = drop-set-lt (n + 1) L i (at L (i - 1)) (omega (arith, g.upper)) ∙ g.rest;
}

pub shift_end : (L₀ L : List ℕ) (n p i x : ℕ) → n < length L₀ → i ≤ p → Shifted L₀ L n p i → Inserted L₀ (set L p x) n p x
shift_end L₀ L n p i x f h g = record {
  low = λ a d l. get_or-set_other L p a x d (λ e. omega arith)
      ∙ any_default L a d 0 (omega (arith, g.long, g.upper, g.down)) ∙ g.low a (omega (arith, g.down)) ∙ any_default L₀ a 0 d (omega (arith, g.upper, g.down));
  mid = λ d. get_or-set_same L p x d (omega (arith, g.long, g.upper, g.down));
  high = λ a d k l. get_or-set_other L p (a + 1) x d (λ e. omega arith)
      ∙ any_default L (a + 1) d 0 (omega (arith, g.long)) ∙ g.high a (omega arith) l ∙ any_default L₀ a 0 d (omega arith);
  rest = drop-set-lt (n + 1) L p x (omega (arith, g.down, g.upper)) ∙ g.rest;
}
