-- Laws of lists of steps taken one after the other: walks and runs alike.
use mathlib.Core.Path.{◌≡◌, refl, sym, ap, ◌∙◌, subst}
use mathlib.Core.List.{List, [], ◌∷◌, ◌++◌}
use mathlib.Core.Option.{Option, none, some, map}
use Prim.Native.Nat.{ℕ, ◌+◌}
use native.Mathlib.Nat.{zero-add, add_assoc}
use native.Mathlib.Omega.{arith}
use lib.IntN.{ℤ, pos, ◌+ℤ◌, +ℤ_idl, +ℤ_assoc}
use Rattle.automaton.specs.Priced.{Priced, free, joined, and_then, chain}

pub some_inj : {X : Type 0} {x y : X} → some x ≡ some y → x ≡ y
some_inj e = cc

-- what is done in two parts
pub record Split {S T : Type 0} (o : Option (Priced S)) (f : S → Option (Priced T)) (x : Priced T) : Type 0 where
  pub first : Priced S
  pub took : o ≡ some first
  pub second : Priced T
  pub went : f first.to ≡ some second
  pub total : joined first second ≡ x

pub then_split : {S T : Type 0} (o : Option (Priced S)) (f : S → Option (Priced T)) (x : Priced T) → and_then o f ≡ some x → Split o f x
then_split none f x e = absurd (let z : ◌≡◌ {A = ℕ} 0 1 = cc in omega arith)
then_split {T = T} (some a) f x e = go (f a.to) refl e
  where
    go : (r : Option (Priced T)) → f a.to ≡ r → map (joined a) r ≡ some x → Split (some a) f x
    go none q e = absurd (let z : ◌≡◌ {A = ℕ} 0 1 = cc in omega arith)
    go (some b) q e = record { first = a; took = refl; second = b; went = q; total = some_inj e }

-- what holds of nothing, of one step, and of two parts together, holds of a list
pub chain_holds : {S M : Type 0} (f : S → M → Option (Priced S)) (P : ℤ → ℕ → S → S → Type 0)
    → ((s : S) → P (pos 0) 0 s s)
    → ((c d : ℤ) (r t : ℕ) (s x y : S) → P c r s x → P d t x y → P (c +ℤ d) (r + t) s y)
    → ((s : S) (m : M) (x : Priced S) → f s m ≡ some x → P x.cost x.reward s x.to)
    → (s : S) (ms : List M) (x : Priced S) → chain f s ms ≡ some x → P x.cost x.reward s x.to
unfolding chain
chain_holds {S} f P nothing two one s [] x e = subst (λ (y : Priced S). P y.cost y.reward s y.to) (some_inj e) (nothing s)
chain_holds {S} f P nothing two one s (m ∷ ms) x e =
    let t = then_split (f s m) (λ y. chain f y ms) x e in
    subst (λ (y : Priced S). P y.cost y.reward s y.to) t.total
    (two t.first.cost t.second.cost t.first.reward t.second.reward s t.first.to t.second.to
    (one s m t.first t.took) (chain_holds f P nothing two one t.first.to ms t.second t.went))

joined_free : {S : Type 0} (s : S) (z : Priced S) → joined (free s) z ≡ z
joined_free s z = λ i. record { to = z.to; cost = +ℤ_idl z.cost i; reward = zero-add z.reward i }

joined_assoc : {S : Type 0} (a b c : Priced S) → joined (joined a b) c ≡ joined a (joined b c)
joined_assoc a b c = λ i. record {
  to = c.to;
  cost = +ℤ_assoc a.cost b.cost c.cost i;
  reward = add_assoc a.reward b.reward c.reward i;
}

module _ {S M : Type 0} (f : S → M → Option (Priced S)) where
  pub chain_append : (s : S) (xs ys : List M) → chain f s (xs ++ ys) ≡ and_then (chain f s xs) (λ t. chain f t ys)
  unfolding chain
  chain_append s [] ys = from_start (chain f s ys)
    where
      from_start : (r : Option (Priced S)) → r ≡ map (joined (free s)) r
      from_start none = refl
      from_start (some z) = ap some (sym (joined_free s z))
  chain_append s (m ∷ xs) ys = after_step (f s m) (λ a. chain_append a.to xs ys)
    where
      again : (a b : Priced S) (r : Option (Priced S)) → map (joined a) (map (joined b) r) ≡ map (joined (joined a b)) r
      again a b none = refl
      again a b (some c) = ap some (sym (joined_assoc a b c))

      shift : (a : Priced S) (r : Option (Priced S))
          → map (joined a) (and_then r (λ t. chain f t ys)) ≡ and_then (map (joined a) r) (λ t. chain f t ys)
      shift a none = refl
      shift a (some b) = again a b (chain f b.to ys)

      after_step : (r : Option (Priced S)) → ((a : Priced S) → chain f a.to (xs ++ ys) ≡ and_then (chain f a.to xs) (λ t. chain f t ys))
          → and_then r (λ t. chain f t (xs ++ ys)) ≡ and_then (and_then r (λ t. chain f t xs)) (λ t. chain f t ys)
      after_step none h = refl
      after_step (some a) h = ap (map (joined a)) (h a) ∙ shift a (chain f a.to xs)

  -- one step as a list
  pub chain_one : (s : S) (m : M) (x : Priced S) → f s m ≡ some x → chain f s (m ∷ []) ≡ some (joined x (free x.to))
  unfolding chain
  chain_one s m x e = ap (λ (o : Option (Priced S)). and_then o (λ t. chain f t [])) e

  pub chain_nil : (s : S) → chain f s [] ≡ some (free s)
  unfolding chain
  chain_nil s = refl
