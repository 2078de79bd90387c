-- Tests of the first clocks.
use mathlib.Core.Path.{◌≡◌, refl, sym, ap, ap₂, ◌∙◌}
use mathlib.Core.Bool.{Bool, true, false, cond, ◌&&◌, ◌||◌}
use mathlib.Core.List.{List, [], ◌∷◌, zip_with}
use Prim.Native.Nat.{ℕ, zero, suc, ◌+◌, ◌≤◌, ◌<◌, min}
use native.Mathlib.Numerals.{add-one}
use native.Mathlib.Omega.{arith}
use lib.Dec.{eqb, ltb}
use lib.Seq.{take_all}
use borrow.Author.Tests.{ltb-true, ltb-false, ne_eqb}
use lib.ListN.{length, get_or, take}
use Rattle.std.specs.List.{list_any, list_all, range_with_len}
use Rattle.automaton.specs.Tests.{occurs, every}
use Rattle.automaton.specs.Bounds.{interval}
use Rattle.automaton.specs.Ranks.{mask}
use Rattle.automaton.proofs.Lists.{length-zip}
use Rattle.automaton.proofs.Tests.{by_bool}

pub no_more : (b : Bool) → b && false ≡ false
no_more true = refl
no_more false = refl

-- ---- a value that occurs

pub occurs_any : (v : ℕ) (xs : List ℕ) → list_any (eqb v) xs ≡ occurs v xs
occurs_any v [] = refl
occurs_any v (x ∷ xs) = ap (λ (b : Bool). eqb v x || b) (occurs_any v xs)

either_first : (a b c : Bool) → a || (b || c) ≡ b || (a || c)
either_first true true c = refl
either_first true false c = refl
either_first false b c = refl

pub occurs_next : (v : ℕ) (xs : List ℕ) (j : ℕ) → j < length xs → eqb v (get_or xs j 0) || occurs v (take j xs) ≡ occurs v (take (suc j) xs)
occurs_next v [] j h = absurd (omega arith)
occurs_next v (x ∷ xs) zero h = refl
occurs_next v (x ∷ xs) (suc j) h =
    either_first (eqb v (get_or xs j 0)) (eqb v x) (occurs v (take j xs)) ∙ ap (λ (b : Bool). eqb v x || b) (occurs_next v xs j (omega arith))

occurs_suc : (v : ℕ) (xs : List ℕ) (j : ℕ) → j < length xs → occurs v (take j xs) ≡ false → (v ≡ get_or xs j 0 → ⊥) → occurs v (take (suc j) xs) ≡ false
occurs_suc v xs j h e n = sym (occurs_next v xs j h) ∙ ap₂ ◌||◌ (ne_eqb v (get_or xs j 0) n) e

-- docs/PORT.md names these; no proof cites them
pub occurs_more : (v : ℕ) (xs : List ℕ) (j : ℕ) → j < length xs → occurs v (take j xs) ≡ false → (v ≡ get_or xs j 0 → ⊥)
    → occurs v (take (j + 1) xs) ≡ false
occurs_more v xs j h e n = ap (λ (m : ℕ). occurs v (take m xs)) (add-one j) ∙ occurs_suc v xs j h e n

pub occurs_all : (v : ℕ) (xs : List ℕ) (k j : ℕ) → j ≤ k → k ≤ j → occurs v (take j xs) ≡ false → occurs v (take k xs) ≡ false
occurs_all v xs k j h l e = let q : k ≡ j = omega arith in ap (λ (n : ℕ). occurs v (take n xs)) q ∙ e

-- ---- a test of each clock's interval

zip_at : (f : ℕ → ℕ → ℕ) (xs ys : List ℕ) (j : ℕ) → j < length xs → j < length ys → get_or (zip_with f xs ys) j 0 ≡ f (get_or xs j 0) (get_or ys j 0)
unfolding zip_with
zip_at f [] ys j h l = absurd (omega arith)
zip_at f (x ∷ xs) [] j h l = absurd (omega arith)
zip_at f (x ∷ xs) (y ∷ ys) zero h l = refl
zip_at f (x ∷ xs) (y ∷ ys) (suc j) h l = zip_at f xs ys j (omega arith) (omega arith)

every_from : (q : ℕ → Bool) (p : ℕ → ℕ → Bool) (n i : ℕ) (xs : List ℕ) → n ≤ length xs → ((j : ℕ) → j < n → q (i + j) ≡ p j (get_or xs j 0))
    → list_all q (range_with_len i n) ≡ every p (take n xs)
unfolding every
every_from q p zero i xs h e = refl
every_from q p (suc n) i [] h e = absurd (omega arith)
every_from q p (suc n) i (x ∷ xs) h e =
    let here : i ≡ i + 0 = omega arith in
    ap₂ ◌&&◌ (ap q here ∙ e 0 (omega arith))
    (every_from q (λ j. p (suc j)) n (i + 1) xs (omega arith) (λ j l. let next : i + 1 + j ≡ i + suc j = omega arith in ap q next ∙ e (suc j) (omega arith)))

take_min : (n k : ℕ) (xs : List ℕ) → length xs ≡ k → take (min n k) xs ≡ take n xs
take_min n k xs h = by_bool (ltb k n)
    (λ t. let m : min n k ≡ k = omega (arith, ltb-true k n t) in
    ap (λ (l : ℕ). take l xs) m ∙ take_all k xs (omega arith) ∙ sym (take_all n xs (omega (arith, ltb-true k n t))))
    (λ t. let m : min n k ≡ n = omega (arith, ltb-false k n t) in ap (λ (l : ℕ). take l xs) m)

pub all_clocks : (p : ℕ → ℕ → Bool) (hs ks : List ℕ) → length hs ≡ 4 → length ks ≡ 4 → (n m : ℕ) → m ≡ min n 4
    → list_all (λ j. p j (interval (get_or hs j 0) (get_or ks j 0))) (range_with_len 0 m) ≡ every p (take n (zip_with interval hs ks))
all_clocks p hs ks h k n m e =
    let long : length (zip_with interval hs ks) ≡ 4 = omega (arith, length-zip interval hs ks (h ∙ sym k)) in
    every_from (λ j. p j (interval (get_or hs j 0) (get_or ks j 0))) p m 0 (zip_with interval hs ks) (omega arith)
    (λ j l. let here : 0 + j ≡ j = omega arith in
    ap (λ (i : ℕ). p i (interval (get_or hs i 0) (get_or ks i 0))) here ∙ ap (p j) (sym (zip_at interval hs ks j (omega arith) (omega arith))))
    ∙ ap (λ (l : ℕ). every p (take l (zip_with interval hs ks))) e ∙ ap (every p) (take_min n 4 (zip_with interval hs ks) long)

-- a reset raises nothing
pub mask_below : (b : ℕ) (r : ℕ → Bool) (xs : List ℕ) → ((j : ℕ) → get_or xs j 0 < b) → (j : ℕ) → get_or (mask r xs) j 0 < b
unfolding mask
mask_below b r [] h j = h j
mask_below b r (x ∷ xs) h zero = at (r 0)
  where
    at : (t : Bool) → cond t 0 x < b
    at true = omega (arith, h 0)
    at false = h 0
mask_below b r (x ∷ xs) h (suc j) = mask_below b (λ i. r (suc i)) xs (λ i. h (suc i)) j
