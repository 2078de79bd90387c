-- Laws of the largest entry: its rank, and the carry of the clocks that have it.
use mathlib.Core.Path.{◌≡◌, refl, sym, ap, ap₂, subst, ◌∙◌}
use mathlib.Core.Bool.{Bool, true, cond, ◌||◌, false≢true}
use mathlib.Core.List.{List, [], ◌∷◌, map, map-map}
use Prim.Native.Nat.{ℕ, zero, suc, ◌≤◌, ◌<◌, max}
use native.Mathlib.Omega.{arith}
use borrow.Author.Tests.{eq-eqb, ne_eqb, eqb-true, eqb-false, leb-true, leb-false}
use lib.Dec.{leb, eqb}
use lib.ListN.{length}
use Rattle.automaton.specs.Tests.{one_more_if, occurs}
use Rattle.automaton.specs.Ranks.{rank, close_up, largest}
use Rattle.automaton.specs.Steps.{carry_class}
use Rattle.automaton.proofs.Tests.{by_bool, by_order}
use Rattle.automaton.proofs.Lists.{occurs_here, occurs_tail, occurs-cases, occurs_not, Each, each_head, each_tail, map_cong}
use Rattle.automaton.proofs.Ranks.{rank_zero, rank_in, rank_out, rank_mono, rank_lt}

pub occurs_le : (v : ℕ) (xs : List ℕ) → occurs v xs ≡ true → v ≤ largest xs
unfolding largest
occurs_le v [] m = absurd (false≢true m)
occurs_le v (x ∷ xs) m = occurs-cases v x xs m (λ e. omega arith) (λ k. omega (arith, occurs_le v xs k))

pub largest_le : (n : ℕ) (xs : List ℕ) → Each (λ x. x ≤ n) xs → largest xs ≤ n
unfolding largest
largest_le n [] h = omega arith
largest_le n (x ∷ xs) h = omega (arith, each_head h, largest_le n xs (each_tail h))

pub le_largest : (xs : List ℕ) → Each (λ x. x ≤ largest xs) xs
le_largest xs = record { at = λ v m. occurs_le v xs m }

pub largest_occurs : (xs : List ℕ) → 0 < largest xs → occurs (largest xs) xs ≡ true
unfolding largest
largest_occurs [] h = absurd (omega arith)
largest_occurs (x ∷ xs) h = by_bool (leb (largest xs) x)
    (λ e. let k = leb-true (largest xs) x e in occurs_here (max x (largest xs)) x xs (omega arith))
    (λ e. let k = leb-false (largest xs) x e in let q : max x (largest xs) ≡ largest xs = omega arith in
    subst (λ (m : ℕ). occurs m (x ∷ xs) ≡ true) (sym q) (occurs_tail (largest xs) x xs (largest_occurs xs (omega arith))))

largest_map : (g : ℕ → ℕ) → g 0 ≡ 0 → ((a b : ℕ) → a ≤ b → g a ≤ g b) → (xs : List ℕ) → largest (map g xs) ≡ g (largest xs)
unfolding largest
largest_map g z mono [] = sym z
largest_map g z mono (x ∷ xs) = ap (max (g x)) (largest_map g z mono xs) ∙ by_bool (leb x (largest xs))
    (λ e. let h = leb-true x (largest xs) e in let k : max x (largest xs) ≡ largest xs = omega arith in let l = mono x (largest xs) h in rw k (omega arith))
    (λ e. let h = leb-false x (largest xs) e in let k : max x (largest xs) ≡ x = omega arith in let l = mono (largest xs) x (omega arith) in rw k (omega arith))

-- above the largest entry the rank does not rise
rank_above : (xs : List ℕ) (n : ℕ) → largest xs ≤ n → rank xs n ≡ rank xs (largest xs)
rank_above xs zero h = ap (rank xs) (omega arith)
rank_above xs (suc n) h = by_order (largest xs) (suc n)
    (λ l. rank_out xs n (occurs_not (suc n) xs (λ m. let k = occurs_le (suc n) xs m in omega arith)) ∙ rank_above xs n (omega arith))
    (λ e. ap (rank xs) (sym e))
    (λ l. absurd (omega arith))

-- the largest class, of entries up to n
pub largest_close : (f : List ℕ) (n : ℕ) → Each (λ x. x ≤ n) f → largest (close_up f) ≡ rank f n
unfolding close_up
largest_close f n h = largest_map (rank f) (rank_zero f) (rank_mono f) f ∙ sym (rank_above f n (largest_le n f h))

-- a rank is at most the largest class
pub rank_le_largest : (f : List ℕ) (t : ℕ) → rank f t ≤ largest (close_up f)
rank_le_largest f t = rw (largest_close f (max t (largest f)) (record { at = λ x m. omega (arith, occurs_le x f m) }))
    (rank_mono f t (max t (largest f)) (omega arith))

-- ---- no rank is above the number of entries

rank_cons : (x : ℕ) (xs : List ℕ) (t : ℕ) → (rank (x ∷ xs) t ≤ suc (rank xs t)) × (t < x → rank (x ∷ xs) t ≤ rank xs t)
rank_cons x xs zero = (omega (arith, rank_zero (x ∷ xs)), λ h. omega (arith, rank_zero (x ∷ xs)))
rank_cons x xs (suc t) = let ih = rank_cons x xs t in by_bool (occurs (suc t) xs)
    (λ m. let k = rank_in xs t m in let l = rank_in (x ∷ xs) t (occurs_tail (suc t) x xs m) in
    (omega (arith, ih.0), λ h. let j = ih.1 (omega arith) in omega arith))
    (λ m. let k = rank_out xs t m in by_bool (eqb (suc t) x)
    (λ e. let q = eqb-true (suc t) x e in let l = rank_in (x ∷ xs) t (occurs_here (suc t) x xs q) in let j = ih.1 (omega arith) in
    (omega arith, λ h. absurd (omega arith)))
    (λ e. let l = rank_out (x ∷ xs) t (ap₂ ◌||◌ e m) in
    (omega (arith, ih.0), λ h. let j = ih.1 (omega arith) in omega arith)))

pub rank_length : (xs : List ℕ) (t : ℕ) → rank xs t ≤ length xs
rank_length [] zero = omega (arith, rank_zero [])
rank_length [] (suc t) = omega (arith, rank_out [] t refl, rank_length [] t)
rank_length (x ∷ xs) t = omega (arith, (rank_cons x xs t).0, rank_length xs t)

-- ---- the carry

pub carry_at : (n x : ℕ) → x ≡ n → carry_class n x ≡ 0
carry_at n x e = ap (λ (b : Bool). cond b 0 x) (eq-eqb x n e)

pub carry_off : (n x : ℕ) → (x ≡ n → ⊥) → carry_class n x ≡ x
carry_off n x e = ap (λ (b : Bool). cond b 0 x) (ne_eqb x n e)

occurs_carry : (n v : ℕ) → 0 < v → v < n → (xs : List ℕ) → occurs v (map (carry_class n) xs) ≡ occurs v xs
occurs_carry n v p h [] = refl
occurs_carry n v p h (x ∷ xs) = ap₂ ◌||◌ head (occurs_carry n v p h xs)
  where
    head : eqb v (carry_class n x) ≡ eqb v x
    head = by_bool (eqb x n)
        (λ e. let q = eqb-true x n e in ap (eqb v) (carry_at n x q) ∙ ne_eqb v 0 (λ z. omega arith) ∙ sym (ne_eqb v x (λ z. omega arith)))
        (λ e. ap (eqb v) (carry_off n x (eqb-false x n e)))

pub rank_carry : (n : ℕ) (xs : List ℕ) (t : ℕ) → t < n → rank (map (carry_class n) xs) t ≡ rank xs t
unfolding rank
rank_carry n xs zero h = refl
rank_carry n xs (suc t) h = ap₂ one_more_if (occurs_carry n (suc t) (omega arith) h xs) (rank_carry n xs t (omega arith))

-- the entries that come to n are those of the largest class
pub close_carry : (n : ℕ) (f : List ℕ) → Each (λ x. x ≤ n) f → occurs n f ≡ true → 0 < n
    → close_up (map (carry_class n) f) ≡ map (carry_class (rank f n)) (close_up f)
unfolding close_up
close_carry n f h m p = map-map (rank (map (carry_class n) f)) (carry_class n) f
    ∙ map_cong (λ x. rank (map (carry_class n) f) (carry_class n x)) (λ x. carry_class (rank f n) (rank f x)) f (record { at = one })
    ∙ sym (map-map (carry_class (rank f n)) (rank f) f)
  where
    one : (x : ℕ) → occurs x f ≡ true → rank (map (carry_class n) f) (carry_class n x) ≡ carry_class (rank f n) (rank f x)
    one x k = by_bool (eqb x n)
        (λ e. let q = eqb-true x n e in ap (rank (map (carry_class n) f)) (carry_at n x q) ∙ rank_zero (map (carry_class n) f)
        ∙ sym (carry_at (rank f n) (rank f x) (ap (rank f) q)))
        (λ e. let q : (x ≡ n → ⊥) = eqb-false x n e in let l = h.at x k in let s : x < n = omega arith in
        let b = rank_lt f x n s (occurs_tail n 0 f m) in
        ap (rank (map (carry_class n) f)) (carry_off n x q) ∙ rank_carry n f x s ∙ sym (carry_off (rank f n) (rank f x) (λ z. omega arith)))
