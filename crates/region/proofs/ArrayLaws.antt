-- Arrays that the code builds entry by entry.
use mathlib.Core.Path.{◌≡◌, refl, sym, ap, ap₂, ◌∙◌}
use mathlib.Core.Bool.{Bool, cond}
use mathlib.Core.List.{List, [], ◌∷◌, map}
use Prim.Native.Nat.{ℕ, zero, suc, ◌-◌, ◌≤◌, ◌<◌, max}
use native.Mathlib.Omega.{arith}
use borrow.Author.Tests.{ltb-true, ltb-false}
use lib.Dec.{ltb}
use lib.ListN.{length, get_or, take}
use lib.Seq.{take_all}
use Rattle.automaton.specs.Ranks.{largest}
use Rattle.automaton.proofs.Tests.{by_bool}
use Rattle.nodes.specs.Numbers.{list_from}
use Rattle.region.specs.Arrays.{pad_to, if_clock}

map_list : (g f : ℕ → ℕ) (i n : ℕ) → map g (list_from f i n) ≡ list_from (λ j. g (f j)) i n
unfolding list_from
map_list g f i zero = refl
map_list g f i (suc n) = ap (λ (l : List ℕ). g (f i) ∷ l) (map_list g f (suc i) n)

list_later : (f : ℕ → ℕ) (i n : ℕ) → list_from f (suc i) n ≡ list_from (λ j. f (suc j)) i n
unfolding list_from
list_later f i zero = refl
list_later f i (suc n) = ap (λ (l : List ℕ). f (suc i) ∷ l) (list_later f (suc i) n)

-- the first entries of a list, one by one
entries : (n : ℕ) (xs : List ℕ) → n ≤ length xs → list_from (λ j. get_or xs j 0) 0 n ≡ take n xs
unfolding list_from
entries zero xs h = refl
entries (suc n) [] h = absurd (omega arith)
entries (suc n) (x ∷ xs) h = ap (λ (l : List ℕ). x ∷ l) (list_later (λ j. get_or (x ∷ xs) j 0) 0 n ∙ entries n xs (omega arith))

clocks_from_lem : (f : ℕ → ℕ) (k n i : ℕ) → list_from (λ j. if_clock k j (f j)) i n ≡ pad_to n (list_from f i (k - i))
unfolding list_from pad_to
clocks_from_lem f k zero i = refl
clocks_from_lem f k (suc n) i =
    let ih = clocks_from_lem f k n (suc i) in
    by_bool (ltb i k)
    (λ t. let m : k - i ≡ suc (k - suc i) = omega (arith, ltb-true i k t) in
    ap₂ ◌∷◌ (ap (λ (b : Bool). cond b (f i) 0) t) ih ∙ sym (ap (λ (z : ℕ). pad_to (suc n) (list_from f i z)) m))
    (λ t. let m : k - i ≡ 0 = omega (arith, ltb-false i k t) in
    let l : k - suc i ≡ 0 = omega (arith, ltb-false i k t) in
    ap₂ ◌∷◌ (ap (λ (b : Bool). cond b (f i) 0) t) (ih ∙ ap (λ (z : ℕ). pad_to n (list_from f (suc i) z)) l)
    ∙ sym (ap (λ (z : ℕ). pad_to (suc n) (list_from f i z)) m))

-- a part of each of the first k clocks, 0 for the others
pub clock_parts : (f : ℕ → ℕ) (k n : ℕ) → list_from (λ j. if_clock k j (f j)) 0 n ≡ pad_to n (list_from f 0 k)
clock_parts f k n = clocks_from_lem f k n 0 ∙ ap (λ (z : ℕ). pad_to n (list_from f 0 z)) (omega arith)

beyond : (f : ℕ → ℕ) (k n i : ℕ) → n ≤ k → pad_to n (list_from f i k) ≡ pad_to n (list_from f i n)
unfolding list_from pad_to
beyond f k zero i h = refl
beyond f zero (suc n) i h = absurd (omega arith)
beyond f (suc k) (suc n) i h = ap (λ (l : List ℕ). f i ∷ l) (beyond f k n (suc i) (omega arith))

mapped : (g : ℕ → ℕ) (k : ℕ) (xs : List ℕ) → k ≤ length xs → list_from (λ j. g (get_or xs j 0)) 0 k ≡ map g (take k xs)
mapped g k xs h = sym (map_list g (λ j. get_or xs j 0) 0 k) ∙ ap (map g) (entries k xs h)

-- the same, of an array
pub clock_map : (g : ℕ → ℕ) (k n : ℕ) (xs : List ℕ) → length xs ≡ n → list_from (λ j. if_clock k j (g (get_or xs j 0))) 0 n ≡ pad_to n (map g (take k xs))
clock_map g k n xs h = clock_parts (λ j. g (get_or xs j 0)) k n ∙ by_bool (ltb n k)
    (λ t. beyond (λ j. g (get_or xs j 0)) k n 0 (omega (arith, ltb-true n k t))
    ∙ ap (pad_to n) (mapped g n xs (omega arith) ∙ ap (map g) (take_all n xs (omega arith) ∙ sym (take_all k xs (omega (arith, ltb-true n k t))))))
    (λ t. ap (pad_to n) (mapped g k xs (omega (arith, ltb-false n k t))))

-- ---- arrays of four

pub each_four : {a b c d x y z w : ℕ} → a ≡ x → b ≡ y → c ≡ z → d ≡ w → ◌≡◌ {A = List ℕ} (a ∷ b ∷ c ∷ d ∷ []) (x ∷ y ∷ z ∷ w ∷ [])
each_four p q r s = ap₂ ◌∷◌ p (ap₂ ◌∷◌ q (ap₂ ◌∷◌ r (ap₂ ◌∷◌ s refl)))

pub four : (xs : List ℕ) → length xs ≡ 4 → ◌≡◌ {A = List ℕ} (get_or xs 0 0 ∷ get_or xs 1 0 ∷ get_or xs 2 0 ∷ get_or xs 3 0 ∷ []) xs
unfolding list_from
four xs h = entries 4 xs (omega arith) ∙ take_all 4 xs (omega arith)

-- an array of four that a function of the clock fills
pub filled_four : (f : ℕ → ℕ) (xs : List ℕ) → length xs ≡ 4 → get_or xs 0 0 ≡ f 0 → get_or xs 1 0 ≡ f 1 → get_or xs 2 0 ≡ f 2 → get_or xs 3 0 ≡ f 3
    → xs ≡ list_from f 0 4
unfolding list_from
filled_four f xs h p q r s = sym (four xs h) ∙ each_four p q r s

pub largest_four : (xs : List ℕ) → length xs ≡ 4 → max (get_or xs 0 0) (max (get_or xs 1 0) (max (get_or xs 2 0) (get_or xs 3 0))) ≡ largest xs
unfolding largest
largest_four xs h = ap (λ (m : ℕ). max (get_or xs 0 0) (max (get_or xs 1 0) (max (get_or xs 2 0) m))) (omega arith) ∙ ap largest (four xs h)

pub largest_below : (b : ℕ) (xs : List ℕ) → 0 < b → ((j : ℕ) → get_or xs j 0 < b) → largest xs < b
unfolding largest
largest_below b [] z h = z
largest_below b (x ∷ xs) z h = omega (arith, h 0, largest_below b xs z (λ j. h (suc j)))
