-- Laws of lists: what occurs in them, tests of every entry, maps, and two lists side by side.
use mathlib.Core.Path.{◌≡◌, refl, sym, ap, ap₂, ◌∙◌, subst}
use mathlib.Core.Bool.{Bool, true, false, ◌&&◌, ◌||◌, false≢true}
use mathlib.Core.List.{List, [], ◌∷◌, map, zip_with}
use Prim.Native.Nat.{ℕ, zero, suc}
use native.Mathlib.Nat.{suc_inj}
use native.Mathlib.Omega.{arith}
use borrow.Author.Tests.{eq-eqb, eqb-true}
use lib.Dec.{eqb}
use lib.ListN.{length, replicate}
use Rattle.automaton.specs.Tests.{occurs, every}
use Rattle.automaton.proofs.Tests.{by_bool, fails, &&-left, &&-right, &&-intro}

-- ---- what occurs

pub occurs_here : (v x : ℕ) (xs : List ℕ) → v ≡ x → occurs v (x ∷ xs) ≡ true
occurs_here v x xs e = ap (λ (b : Bool). b || occurs v xs) (eq-eqb v x e)

pub occurs_tail : (v x : ℕ) (xs : List ℕ) → occurs v xs ≡ true → occurs v (x ∷ xs) ≡ true
occurs_tail v x xs h = go (eqb v x) h
  where
    go : (b : Bool) → occurs v xs ≡ true → b || occurs v xs ≡ true
    go true h = refl
    go false h = h

pub occurs-cases {ℓ} : {X : Type ℓ} (v x : ℕ) (xs : List ℕ) → occurs v (x ∷ xs) ≡ true → (v ≡ x → X) → (occurs v xs ≡ true → X) → X
occurs-cases v x xs h f g = by_bool (eqb v x) (λ e. f (eqb-true v x e)) (λ e. g (sym (ap (λ (b : Bool). b || occurs v xs) e) ∙ h))

pub occurs_not : (v : ℕ) (xs : List ℕ) → (occurs v xs ≡ true → ⊥) → occurs v xs ≡ false
occurs_not v xs = fails (occurs v xs)

pub occurs_map : (g : ℕ → ℕ) (x : ℕ) (xs : List ℕ) → occurs x xs ≡ true → occurs (g x) (map g xs) ≡ true
occurs_map g x [] h = h
occurs_map g x (y ∷ xs) h = occurs-cases x y xs h (λ e. occurs_here (g x) (g y) (map g xs) (ap g e))
    (λ k. occurs_tail (g x) (g y) (map g xs) (occurs_map g x xs k))

-- ---- a fact of each entry

pub record Each (P : ℕ → Type 0) (xs : List ℕ) : Type 0 where
  pub at : (v : ℕ) → occurs v xs ≡ true → P v

pub each_head : {P : ℕ → Type 0} {x : ℕ} {xs : List ℕ} → Each P (x ∷ xs) → P x
each_head {x = x} {xs = xs} h = h.at x (occurs_here x x xs refl)

pub each_tail : {P : ℕ → Type 0} {x : ℕ} {xs : List ℕ} → Each P (x ∷ xs) → Each P xs
each_tail {x = x} {xs = xs} h = record { at = λ v m. h.at v (occurs_tail v x xs m) }

pub each_cons : {P : ℕ → Type 0} {x : ℕ} {xs : List ℕ} → P x → Each P xs → Each P (x ∷ xs)
each_cons {P = P} {x = x} {xs = xs} p h = record { at = λ v m. occurs-cases v x xs m (λ e. subst P (sym e) p) (h.at v) }

pub each_nil : {P : ℕ → Type 0} → Each P []
each_nil = record { at = λ v m. absurd (false≢true m) }

pub each_all : {P : ℕ → Type 0} {xs : List ℕ} → ((x : ℕ) → P x) → Each P xs
each_all f = record { at = λ v m. f v }

pub each_map : {P : ℕ → Type 0} (g : ℕ → ℕ) (xs : List ℕ) → Each (λ x. P (g x)) xs → Each P (map g xs)
each_map g [] h = each_nil
each_map g (x ∷ xs) h = each_cons (each_head h) (each_map g xs (each_tail h))

-- where g tells v from each entry, v occurs as before
pub occurs_inj : (g : ℕ → ℕ) (v : ℕ) (xs : List ℕ) → Each (λ x. eqb (g v) (g x) ≡ eqb v x) xs → occurs (g v) (map g xs) ≡ occurs v xs
occurs_inj g v [] h = refl
occurs_inj g v (x ∷ xs) h = ap₂ ◌||◌ (each_head h) (occurs_inj g v xs (each_tail h))

-- ---- maps

pub map_cong : {B : Type 0} (f g : ℕ → B) (xs : List ℕ) → Each (λ x. f x ≡ g x) xs → map f xs ≡ map g xs
map_cong f g [] h = refl
map_cong f g (x ∷ xs) h = ap₂ ◌∷◌ (each_head h) (map_cong f g xs (each_tail h))

pub map_same : (g : ℕ → ℕ) (xs : List ℕ) → Each (λ x. g x ≡ x) xs → map g xs ≡ xs
map_same g [] h = refl
map_same g (x ∷ xs) h = ap₂ ◌∷◌ (each_head h) (map_same g xs (each_tail h))

pub map_zeros : (g : ℕ → ℕ) → g 0 ≡ 0 → (k : ℕ) → map g (replicate k 0) ≡ replicate k 0
map_zeros g z zero = refl
map_zeros g z (suc k) = ap₂ ◌∷◌ z (map_zeros g z k)

-- ---- tests of every entry

pub every_cong : (p q : ℕ → ℕ → Bool) (w : ℕ → ℕ) (xs : List ℕ) → Each (λ x. (j : ℕ) → p j (w x) ≡ q j x) xs → every p (map w xs) ≡ every q xs
unfolding every
every_cong p q w [] h = refl
every_cong p q w (x ∷ xs) h = ap₂ ◌&&◌ (each_head h 0)
    (every_cong (λ j. p (suc j)) (λ j. q (suc j)) w xs (record { at = λ y m j. (each_tail h).at y m (suc j) }))

pub every_imp : (p q : ℕ → ℕ → Bool) (w g : ℕ → ℕ) (xs : List ℕ) → ((x j : ℕ) → q j (g x) ≡ true → p j (w x) ≡ true)
    → every q (map g xs) ≡ true → every p (map w xs) ≡ true
unfolding every
every_imp p q w g [] h e = refl
every_imp p q w g (x ∷ xs) h e = &&-intro (h x 0 (&&-left (q 0 (g x)) (every (λ j. q (suc j)) (map g xs)) e))
    (every_imp (λ j. p (suc j)) (λ j. q (suc j)) w g xs (λ y j. h y (suc j)) (&&-right (q 0 (g x)) (every (λ j. q (suc j)) (map g xs)) e))

-- ---- two lists side by side

pub zip-map : (f : ℕ → ℕ → ℕ) (a b : ℕ → ℕ) (xs : List ℕ) → zip_with f (map a xs) (map b xs) ≡ map (λ x. f (a x) (b x)) xs
unfolding zip_with
zip-map f a b [] = refl
zip-map f a b (x ∷ xs) = ap (λ r. f (a x) (b x) ∷ r) (zip-map f a b xs)

pub length-zip : (f : ℕ → ℕ → ℕ) (xs ys : List ℕ) → length xs ≡ length ys → length (zip_with f xs ys) ≡ length xs
unfolding zip_with
length-zip f [] ys e = refl
length-zip f (x ∷ xs) [] e = absurd (omega arith)
length-zip f (x ∷ xs) (y ∷ ys) e = ap suc (length-zip f xs ys (suc_inj e))
