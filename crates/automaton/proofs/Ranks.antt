-- Laws of ranks and of closing up, also after a reset.
use mathlib.Core.Path.{◌≡◌, refl, sym, ap, ap₂, ◌∙◌}
use mathlib.Core.Bool.{Bool, true, false, cond, false≢true}
use mathlib.Core.List.{List, [], ◌∷◌, map, map-map}
use Prim.Native.Nat.{ℕ, zero, suc, ◌+◌, ◌≤◌, ◌<◌}
use native.Mathlib.Omega.{arith}
use borrow.Author.Tests.{eq-eqb, ne_eqb, ltb-true, ltb-false, lt-ltb, le-ltb}
use lib.Dec.{ltb, eqb, eqb-suc-suc}
use lib.ListN.{length, length-map}
use Rattle.automaton.specs.Tests.{one_more_if, occurs}
use Rattle.automaton.specs.Ranks.{rank, close_up, mask}
use Rattle.automaton.proofs.Tests.{by_bool, by_order, clash}
use Rattle.automaton.proofs.Lists.{occurs_here, occurs_tail, occurs-cases, occurs_not, occurs_inj, each_all, map_cong}

pub rank_zero : (xs : List ℕ) → rank xs 0 ≡ 0
unfolding rank
rank_zero xs = refl

pub rank_in : (xs : List ℕ) (t : ℕ) → occurs (suc t) xs ≡ true → rank xs (suc t) ≡ suc (rank xs t)
unfolding rank
rank_in xs t e = ap (λ (b : Bool). one_more_if b (rank xs t)) e

pub rank_out : (xs : List ℕ) (t : ℕ) → occurs (suc t) xs ≡ false → rank xs (suc t) ≡ rank xs t
unfolding rank
rank_out xs t e = ap (λ (b : Bool). one_more_if b (rank xs t)) e

-- a rank rises with its number, and no faster
pub rank_grows : (xs : List ℕ) (s t : ℕ) → s ≤ t → (rank xs s ≤ rank xs t) × (rank xs t + s ≤ rank xs s + t)
rank_grows xs s zero h = let z : s ≡ 0 = omega arith in rw z (omega arith)
rank_grows xs s (suc t) h = by_order s (suc t)
    (λ l. let ih = rank_grows xs s t (omega arith) in by_bool (occurs (suc t) xs) (λ m. omega (arith, rank_in xs t m)) (λ m. omega (arith, rank_out xs t m)))
    (λ e. rw e (omega arith))
    (λ l. absurd (omega arith))

pub rank_mono : (xs : List ℕ) (s t : ℕ) → s ≤ t → rank xs s ≤ rank xs t
rank_mono xs s t h = (rank_grows xs s t h).0

-- 0 and the entries have ranks of their own
pub rank_lt : (xs : List ℕ) (s t : ℕ) → s < t → occurs t (0 ∷ xs) ≡ true → rank xs s < rank xs t
rank_lt xs s zero h m = absurd (omega arith)
rank_lt xs s (suc t) h m = occurs-cases (suc t) 0 xs m (λ e. absurd (omega arith))
    (λ k. omega (arith, rank_in xs t k, rank_mono xs s t (omega arith)))

pub rank_eqb : (xs : List ℕ) (a b : ℕ) → occurs a (0 ∷ xs) ≡ true → occurs b (0 ∷ xs) ≡ true → eqb (rank xs a) (rank xs b) ≡ eqb a b
rank_eqb xs a b ma mb = by_order a b
    (λ h. let l = rank_lt xs a b h mb in ne_eqb (rank xs a) (rank xs b) (λ e. omega arith) ∙ sym (ne_eqb a b (λ e. omega arith)))
    (λ e. eq-eqb (rank xs a) (rank xs b) (ap (rank xs) e) ∙ sym (eq-eqb a b e))
    (λ h. let l = rank_lt xs b a h ma in ne_eqb (rank xs a) (rank xs b) (λ e. omega arith) ∙ sym (ne_eqb a b (λ e. omega arith)))

-- ranks keep the order: a number is below an entry if and only if its rank is below the entry's
pub rank_ltb : (xs : List ℕ) (i k : ℕ) → occurs k xs ≡ true → ltb (rank xs i) (rank xs k) ≡ ltb i k
rank_ltb xs i k m = by_bool (ltb i k)
    (λ e. lt-ltb (rank xs i) (rank xs k) (rank_lt xs i k (ltb-true i k e) (occurs_tail k 0 xs m)) ∙ sym e)
    (λ e. le-ltb (rank xs i) (rank xs k) (rank_mono xs k i (ltb-false i k e)) ∙ sym e)

-- the class of an entry is 0 if and only if the entry is
pub rank_whole : (xs : List ℕ) (x : ℕ) → occurs x xs ≡ true → eqb (rank xs x) 0 ≡ eqb x 0
rank_whole xs x m = ap (eqb (rank xs x)) (sym (rank_zero xs)) ∙ rank_eqb xs x 0 (occurs_tail x 0 xs m) (occurs_here 0 0 xs refl)

pub length_close : (xs : List ℕ) → length (close_up xs) ≡ length xs
unfolding close_up
length_close xs = length-map xs (rank xs)

-- ---- after a reset

pub map_mask : (g : ℕ → ℕ) → g 0 ≡ 0 → (r : ℕ → Bool) (xs : List ℕ) → map g (mask r xs) ≡ mask r (map g xs)
unfolding mask
map_mask g z r [] = refl
map_mask g z r (x ∷ xs) = ap₂ ◌∷◌ (go (r 0)) (map_mask g z (λ j. r (suc j)) xs)
  where
    go : (b : Bool) → g (cond b 0 x) ≡ cond b 0 (g x)
    go true = z
    go false = refl

pub length_mask : (r : ℕ → Bool) (xs : List ℕ) → length (mask r xs) ≡ length xs
unfolding mask
length_mask r [] = refl
length_mask r (x ∷ xs) = ap suc (length_mask (λ j. r (suc j)) xs)

occurs_mask : (r : ℕ → Bool) (xs : List ℕ) (v : ℕ) → occurs v (mask r xs) ≡ true → occurs v (0 ∷ xs) ≡ true
unfolding mask
occurs_mask r [] v m = absurd (false≢true m)
occurs_mask r (x ∷ xs) v m = occurs-cases v (cond (r 0) 0 x) (mask (λ j. r (suc j)) xs) m (go (r 0))
    (λ k. occurs-cases v 0 xs (occurs_mask (λ j. r (suc j)) xs v k) (occurs_here v 0 (x ∷ xs)) (λ l. occurs_tail v 0 (x ∷ xs) (occurs_tail v x xs l)))
  where
    go : (b : Bool) → v ≡ cond b 0 x → occurs v (0 ∷ x ∷ xs) ≡ true
    go true e = occurs_here v 0 (x ∷ xs) e
    go false e = occurs_tail v 0 (x ∷ xs) (occurs_here v x xs e)

-- a rank among the masked ranks is a rank among the masked values
pub rank_mask : (r : ℕ → Bool) (f : List ℕ) (t : ℕ) → rank (mask r (close_up f)) (rank f t) ≡ rank (mask r f) t
unfolding rank close_up
rank_mask r f zero = refl
rank_mask r f (suc t) = by_bool (occurs (suc t) f)
    (λ e. ap (rank (mask r (map (rank f) f))) (rank_in f t e)
    ∙ ap₂ one_more_if (ap (λ k. occurs k (mask r (map (rank f) f))) (sym (rank_in f t e)) ∙ same e) (rank_mask r f t))
    (λ e. ap (rank (mask r (map (rank f) f))) (rank_out f t e) ∙ rank_mask r f t ∙ sym (rank_out (mask r f) t (gone e)))
  where
    same : occurs (suc t) f ≡ true → occurs (rank f (suc t)) (mask r (map (rank f) f)) ≡ occurs (suc t) (mask r f)
    same e = ap (occurs (rank f (suc t))) (sym (map_mask (rank f) (rank_zero f) r f))
        ∙ occurs_inj (rank f) (suc t) (mask r f) (record { at = λ x m. rank_eqb f (suc t) x (occurs_tail (suc t) 0 f e) (occurs_mask r f x m) })

    gone : occurs (suc t) f ≡ false → occurs (suc t) (mask r f) ≡ false
    gone e = occurs_not (suc t) (mask r f) (λ m. occurs-cases (suc t) 0 f (occurs_mask r f (suc t) m) (λ q. omega arith) (λ k. clash k e))

pub close_mask : (r : ℕ → Bool) (f : List ℕ) → close_up (mask r (close_up f)) ≡ close_up (mask r f)
unfolding close_up
close_mask r f =
    map_mask (rank M) (rank_zero M) r (map (rank f) f)
    ∙ ap (mask r) (map-map (rank M) (rank f) f ∙ map_cong (λ x. rank M (rank f x)) (rank (mask r f)) f (each_all (unfold close_up in rank_mask r f)))
    ∙ sym (map_mask (rank (mask r f)) (rank_zero (mask r f)) r f)
  where
    M : List ℕ
    M = mask r (map (rank f) f)

mask_none : (xs : List ℕ) → mask (λ j. false) xs ≡ xs
unfolding mask
mask_none [] = refl
mask_none (x ∷ xs) = ap (λ (r : List ℕ). x ∷ r) (mask_none xs)

pub close_close : (f : List ℕ) → close_up (close_up f) ≡ close_up f
close_close f = ap close_up (sym (mask_none (close_up f))) ∙ close_mask (λ j. false) f ∙ ap close_up (mask_none f)

-- ---- one nth more

occurs_suc : (v : ℕ) (f : List ℕ) → occurs (suc v) (map suc f) ≡ occurs v f
occurs_suc v f = occurs_inj suc v f (each_all (λ x. eqb-suc-suc v x))

swap : (a b : Bool) (k : ℕ) → one_more_if a (one_more_if b k) ≡ one_more_if b (one_more_if a k)
swap true true k = refl
swap true false k = refl
swap false true k = refl
swap false false k = refl

-- the ranks rise by one where 0 was an entry
pub rank_suc : (f : List ℕ) (t : ℕ) → rank (map suc f) (suc t) ≡ one_more_if (occurs 0 f) (rank f t)
unfolding rank
rank_suc f zero = ap (λ (b : Bool). one_more_if b 0) (occurs_suc 0 f)
rank_suc f (suc t) = ap₂ one_more_if (occurs_suc (suc t) f) (rank_suc f t) ∙ swap (occurs (suc t) f) (occurs 0 f) (rank f t)

pub close_suc : (f : List ℕ) → close_up (map suc f) ≡ map (one_more_if (occurs 0 f)) (close_up f)
unfolding close_up
close_suc f = map-map (rank (map suc f)) suc f
    ∙ map_cong (λ x. rank (map suc f) (suc x)) (λ x. one_more_if (occurs 0 f) (rank f x)) f (each_all (rank_suc f))
    ∙ sym (map-map (one_more_if (occurs 0 f)) (rank f) f)
