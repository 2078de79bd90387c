-- Lists in arrays that may be longer: what is done to the array is done to the list, for any number of entries.
use mathlib.Core.Path.{◌≡◌, refl, ap, ap₂, ◌∙◌}
use mathlib.Core.Bool.{Bool, true, false, cond, ◌||◌}
use mathlib.Core.List.{List, [], ◌∷◌, map, zip_with}
use Prim.Native.Nat.{ℕ, zero, suc, ◌+◌, ◌≤◌, ◌<◌, max}
use native.Mathlib.Omega.{arith}
use borrow.Author.Tests.{ne_eqb}
use lib.Dec.{eqb}
use lib.ListN.{length, get_or, take}
use Rattle.automaton.specs.Tests.{one_more_if, occurs}
use Rattle.automaton.specs.Ranks.{rank, close_up, mask, largest}
use Rattle.automaton.proofs.Lists.{each_all, map_cong}
use Rattle.nodes.specs.Numbers.{Layout, class_at, whole_at, put, clocks_from}
use Rattle.nodes.proofs.LayoutLaws.{clock_zero}
use Rattle.region.specs.Arrays.{pad_to}

-- the list, where there are as many entries as it has or more
pub take_pad : (n : ℕ) (xs : List ℕ) → length xs ≤ n → take (length xs) (pad_to n xs) ≡ xs
unfolding pad_to
take_pad zero [] h = refl
take_pad zero (x ∷ xs) h = absurd (omega arith)
take_pad (suc n) [] h = refl
take_pad (suc n) (x ∷ xs) h = ap (λ (l : List ℕ). x ∷ l) (take_pad n xs (omega arith))

-- fewer entries
pub take_fewer : (m n : ℕ) (xs : List ℕ) → m ≤ n → take m (pad_to n xs) ≡ pad_to m xs
unfolding pad_to
take_fewer zero n xs h = refl
take_fewer (suc m) zero xs h = absurd (omega arith)
take_fewer (suc m) (suc n) [] h = ap (λ (l : List ℕ). 0 ∷ l) (take_fewer m n [] (omega arith))
take_fewer (suc m) (suc n) (x ∷ xs) h = ap (λ (l : List ℕ). x ∷ l) (take_fewer m n xs (omega arith))

pub pad_below : (b n : ℕ) (xs : List ℕ) → 0 < b → ((j : ℕ) → get_or xs j 0 < b) → (j : ℕ) → get_or (pad_to n xs) j 0 < b
unfolding pad_to
pad_below b zero xs z h j = z
pad_below b (suc n) [] z h zero = z
pad_below b (suc n) [] z h (suc j) = pad_below b n [] z h j
pad_below b (suc n) (x ∷ xs) z h zero = h 0
pad_below b (suc n) (x ∷ xs) z h (suc j) = pad_below b n xs z (λ i. h (suc i)) j

-- a function that keeps 0
pub map_pad : (f : ℕ → ℕ) → f 0 ≡ 0 → (n : ℕ) (xs : List ℕ) → map f (pad_to n xs) ≡ pad_to n (map f xs)
unfolding pad_to
map_pad f z zero xs = refl
map_pad f z (suc n) [] = ap₂ ◌∷◌ z (map_pad f z n [])
map_pad f z (suc n) (x ∷ xs) = ap (λ (l : List ℕ). f x ∷ l) (map_pad f z n xs)

no_value : (b : Bool) → ◌≡◌ {A = ℕ} (cond b 0 0) 0
no_value true = refl
no_value false = refl

pub mask_pad : (r : ℕ → Bool) (n : ℕ) (xs : List ℕ) → mask r (pad_to n xs) ≡ pad_to n (mask r xs)
unfolding pad_to mask
mask_pad r zero xs = refl
mask_pad r (suc n) [] = ap₂ ◌∷◌ (no_value (r 0)) (mask_pad (λ j. r (suc j)) n [])
mask_pad r (suc n) (x ∷ xs) = ap (λ (l : List ℕ). cond (r 0) 0 x ∷ l) (mask_pad (λ j. r (suc j)) n xs)

-- ---- ranks

occurs_pad : (v n : ℕ) (xs : List ℕ) → length xs ≤ n → occurs (suc v) (pad_to n xs) ≡ occurs (suc v) xs
unfolding pad_to
occurs_pad v zero [] h = refl
occurs_pad v zero (x ∷ xs) h = absurd (omega arith)
occurs_pad v (suc n) [] h =
    ap (λ (b : Bool). b || occurs (suc v) (pad_to n [])) (ne_eqb (suc v) 0 (λ e. omega arith)) ∙ occurs_pad v n [] (omega arith)
occurs_pad v (suc n) (x ∷ xs) h = ap (λ (b : Bool). eqb (suc v) x || b) (occurs_pad v n xs (omega arith))

pub rank_pad : (n : ℕ) (xs : List ℕ) → length xs ≤ n → (t : ℕ) → rank (pad_to n xs) t ≡ rank xs t
unfolding rank
rank_pad n xs h zero = refl
rank_pad n xs h (suc t) = ap₂ one_more_if (occurs_pad t n xs h) (rank_pad n xs h t)

pub close_pad : (n : ℕ) (xs : List ℕ) → length xs ≤ n → close_up (pad_to n xs) ≡ pad_to n (close_up xs)
unfolding close_up rank
close_pad n xs h = map_cong (rank (pad_to n xs)) (rank xs) (pad_to n xs) (each_all (rank_pad n xs h)) ∙ map_pad (rank xs) refl n xs

pub largest_pad : (n : ℕ) (xs : List ℕ) → length xs ≤ n → largest (pad_to n xs) ≡ largest xs
unfolding pad_to largest
largest_pad zero [] h = refl
largest_pad zero (x ∷ xs) h = absurd (omega arith)
largest_pad (suc n) [] h = omega (arith, largest_pad n [] (omega arith))
largest_pad (suc n) (x ∷ xs) h = ap (max x) (largest_pad n xs (omega arith))

-- ---- two lists as long as each other

pub zip_pad : (f : ℕ → ℕ → ℕ) → f 0 0 ≡ 0 → (n : ℕ) (hs ks : List ℕ) → length hs ≡ length ks
    → zip_with f (pad_to n hs) (pad_to n ks) ≡ pad_to n (zip_with f hs ks)
unfolding pad_to zip_with
zip_pad f z zero hs ks e = refl
zip_pad f z (suc n) [] [] e = ap₂ ◌∷◌ z (zip_pad f z n [] [] e)
zip_pad f z (suc n) [] (k ∷ ks) e = absurd (omega arith)
zip_pad f z (suc n) (h ∷ hs) [] e = absurd (omega arith)
zip_pad f z (suc n) (h ∷ hs) (k ∷ ks) e = ap (λ (l : List ℕ). f h k ∷ l) (zip_pad f z n hs ks (omega arith))

-- the first entries, whatever f does to those behind them
pub zip_front : (f : ℕ → ℕ → ℕ) (n : ℕ) (hs ks : List ℕ) → length hs ≡ length ks → length ks ≤ n
    → take (length ks) (zip_with f (pad_to n hs) (pad_to n ks)) ≡ zip_with f hs ks
unfolding pad_to zip_with
zip_front f zero [] [] e l = refl
zip_front f zero [] (k ∷ ks) e l = absurd (omega arith)
zip_front f zero (h ∷ hs) ks e l = absurd (omega arith)
zip_front f (suc n) [] [] e l = refl
zip_front f (suc n) [] (k ∷ ks) e l = absurd (omega arith)
zip_front f (suc n) (h ∷ hs) [] e l = absurd (omega arith)
zip_front f (suc n) (h ∷ hs) (k ∷ ks) e l = ap (λ (z : List ℕ). f h k ∷ z) (zip_front f n hs ks (omega arith) (omega arith))

-- clocks at 0 add nothing to a number
pub clocks_pad : (y : Layout) (n j : ℕ) (hs ks : List ℕ) → length hs ≡ length ks → length ks ≤ n
    → clocks_from y j (pad_to n hs) (pad_to n ks) ≡ clocks_from y j hs ks
unfolding pad_to clocks_from
clocks_pad y zero j [] [] e l = refl
clocks_pad y zero j [] (k ∷ ks) e l = absurd (omega arith)
clocks_pad y zero j (h ∷ hs) ks e l = absurd (omega arith)
clocks_pad y (suc n) j [] [] e l = let ih = clocks_pad y n (suc j) [] [] e (omega arith) in omega (arith, clock_zero y j, ih)
clocks_pad y (suc n) j [] (k ∷ ks) e l = absurd (omega arith)
clocks_pad y (suc n) j (h ∷ hs) [] e l = absurd (omega arith)
clocks_pad y (suc n) j (h ∷ hs) (k ∷ ks) e l =
    ap (λ (b : ℕ). put k y.bits (class_at y j) + put h 4 (whole_at y j) + b) (clocks_pad y n (suc j) hs ks (omega arith) (omega arith))
