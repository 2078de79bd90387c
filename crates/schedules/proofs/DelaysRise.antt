-- Along a step that is no edge the region comes further, or the corner falls: twice the interval numbers, summed over the clocks, less the corner, rises.
use mathlib.Core.Path.{◌≡◌, refl, sym, ap, ap₂, ◌∙◌, subst}
use mathlib.Core.Bool.{Bool, true, false, not}
use mathlib.Core.List.{List, [], ◌∷◌, map, zip_with}
use mathlib.Core.Option.{some}
use Prim.Native.Nat.{ℕ, suc, ◌+◌, ◌*◌, ◌≤◌, ◌<◌}
use native.Mathlib.Nat.{suc_inj}
use native.Mathlib.Omega.{arith}
use borrow.Author.Tests.{eqb-true, eqb-false, ne_eqb, eq-eqb}
use lib.Dec.{eqb}
use lib.ListN.{length}
use Rattle.automaton.specs.Tests.{one_more_if, occurs}
use Rattle.automaton.specs.Bounds.{interval}
use Rattle.automaton.specs.Ranks.{largest}
use Rattle.automaton.specs.Automaton.{Automaton}
use Rattle.automaton.specs.Priced.{Priced}
use Rattle.automaton.specs.Nodes.{Node, largest_class}
use Rattle.automaton.specs.Steps.{some_whole, carry_whole, carry_class, step}
use Rattle.automaton.proofs.Tests.{by_bool, by_order, clash}
use Rattle.automaton.proofs.Lists.{occurs_here, occurs-cases}
use Rattle.automaton.proofs.Largest.{occurs_le, largest_occurs, carry_at, carry_off}
use Rattle.automaton.proofs.Codes.{step-cases, unit_needs, move-cases}
use Rattle.automaton.proofs.Nodes.{Proper}

-- the interval numbers, summed over the clocks
interval_sum : List ℕ → List ℕ → ℕ
interval_sum [] ks = 0
interval_sum (h ∷ hs) [] = 0
interval_sum (h ∷ hs) (k ∷ ks) = interval h k + interval_sum hs ks

-- ---- whole parts and classes changed clock by clock

module _ (c : ℕ → ℕ → ℕ) (d : ℕ → ℕ) (up : (h k : ℕ) → interval h k ≤ interval (c h k) (d k)) where
  sum_grows : (hs ks : List ℕ) → interval_sum hs ks ≤ interval_sum (zip_with c hs ks) (map d ks)
  unfolding interval_sum zip_with
  sum_grows [] ks = omega arith
  sum_grows (h ∷ hs) [] = omega arith
  sum_grows (h ∷ hs) (k ∷ ks) = let ih = sum_grows hs ks in omega (arith, up h k)

  -- with a class v whose clocks come further
  sum_rises : (v : ℕ) → ((h : ℕ) → interval h v < interval (c h v) (d v)) → (hs ks : List ℕ) → length hs ≡ length ks → occurs v ks ≡ true
      → interval_sum hs ks < interval_sum (zip_with c hs ks) (map d ks)
  unfolding interval_sum zip_with
  sum_rises v more [] [] l m = absurd (let z : false ≡ true = m in let y : ◌≡◌ {A = ℕ} 0 1 = cc in omega arith)
  sum_rises v more [] (k ∷ ks) l m = absurd (omega arith)
  sum_rises v more (h ∷ hs) [] l m = absurd (omega arith)
  sum_rises v more (h ∷ hs) (k ∷ ks) l m = let ih = sum_rises v more hs ks (suc_inj l) in occurs-cases v k ks m
      (λ e. let f : interval h k < interval (c h k) (d k) = subst (λ (x : ℕ). interval h x < interval (c h x) (d x)) e (more h) in
      omega (arith, sum_grows hs ks))
      (λ n. let f = ih n in omega (arith, up h k))

zip_first : (hs ks : List ℕ) → length hs ≡ length ks → zip_with (λ h k. h) hs ks ≡ hs
unfolding zip_with
zip_first [] ks l = refl
zip_first (h ∷ hs) [] l = absurd (omega arith)
zip_first (h ∷ hs) (k ∷ ks) l = ap (λ (r : List ℕ). h ∷ r) (zip_first hs ks (suc_inj l))

-- ---- an interval by its class

at_whole : (h k : ℕ) → k ≡ 0 → interval h k ≡ 2 * h
at_whole h k e = ap (λ (b : Bool). one_more_if (not b) (2 * h)) (eq-eqb k 0 e)

between : (h k : ℕ) → 0 < k → interval h k ≡ suc (2 * h)
between h k l = ap (λ (b : Bool). one_more_if (not b) (2 * h)) (ne_eqb k 0 (λ e. omega arith))

rise_up : (h k : ℕ) → interval h k ≤ interval h (suc k)
rise_up h k = by_order 0 k (λ l. omega (arith, between h k l, between h (suc k) (omega arith)))
    (λ e. omega (arith, at_whole h k (sym e), between h (suc k) (omega arith))) (λ l. absurd (omega arith))

carry_more : (g h : ℕ) → 0 < g → interval h g < interval (carry_whole g h g) (carry_class g g)
carry_more g h l = subst (λ (n : ℕ). interval h g < n)
    (sym (ap₂ interval (ap (λ (b : Bool). one_more_if b h) (eq-eqb g g refl)) (carry_at g g refl))) (omega (arith, between h g l, at_whole (suc h) 0 refl))

carry_up : (g h k : ℕ) → 0 < g → interval h k ≤ interval (carry_whole g h k) (carry_class g k)
carry_up g h k l = by_bool (eqb k g)
    (λ e. let f = carry_more g h l in
    subst (λ (x : ℕ). interval h x ≤ interval (carry_whole g h x) (carry_class g x)) (sym (eqb-true k g e)) (omega arith))
    (λ e. subst (λ (n : ℕ). interval h k ≤ n) (sym (ap₂ interval (ap (λ (b : Bool). one_more_if b h) e) (carry_off g k (eqb-false k g e)))) (omega arith))

some_class : (ks : List ℕ) → 0 < length ks → occurs 0 ks ≡ false → 0 < largest ks
some_class [] l m = absurd (omega arith)
some_class (k ∷ ks) l m = by_order 0 k (λ p. omega (arith, occurs_le k (k ∷ ks) (occurs_here k k ks refl)))
    (λ e. clash (occurs_here 0 k ks e) m) (λ p. absurd (omega arith))

-- ---- the steps

pub height : Node → ℕ
height u = interval_sum u.region.whole u.region.class

-- v comes further than u by one at least
pub record Further (u : Node) (v : Node) : Type 0 where
  pub rises : 2 * height u + v.corner < 2 * height v + u.corner

pub delay_rises : (A : Automaton) (u : Node) (code : ℕ) (x : Priced Node) → Proper A u → 0 < A.clocks → 31 < code → step A u code ≡ some x → Further u x.to
unfolding height
delay_rises A u code x h clock l s = step-cases A u code x s
    (λ low e. absurd (omega arith))
    (λ q e. let n = unit_needs A u x e in leads n.2
    (record { rises = omega (arith, n.1, some_class u.region.class (omega (arith, h.classes)) n.0) }))
    (λ q e. move-cases A u x e
    (λ m i p. leads p (record { rises = omega (arith, rise m) }))
    (λ m k i p. leads p (record { rises = omega (arith, carry (omega arith)) })))
  where
    g : ℕ
    g = largest_class u

    same : length u.region.whole ≡ length u.region.class
    same = h.wholes ∙ sym h.classes

    leads : {y : Priced Node} → x ≡ y → Further u y.to → Further u x.to
    leads q = subst (λ (z : Priced Node). Further u z.to) (sym q)

    rise : some_whole u ≡ true → interval_sum u.region.whole u.region.class < interval_sum u.region.whole (map suc u.region.class)
    rise m = subst (λ (hs : List ℕ). interval_sum u.region.whole u.region.class < interval_sum hs (map suc u.region.class))
        (zip_first u.region.whole u.region.class same)
        (sum_rises (λ h k. h) suc rise_up 0 (λ h. omega (arith, at_whole h 0 refl, between h 1 (omega arith))) u.region.whole u.region.class same m)

    carry : 0 < g → interval_sum u.region.whole u.region.class
        < interval_sum (zip_with (carry_whole g) u.region.whole u.region.class) (map (carry_class g) u.region.class)
    carry p = sum_rises (carry_whole g) (carry_class g) (λ h k. carry_up g h k p) g (λ h. carry_more g h p) u.region.whole u.region.class same
        (largest_occurs u.region.class p)
