-- Zeros from a place on, whatever the entries are: what is written, and what then stands in the list.
use mathlib.Core.Path.{◌≡◌, refl, sym, ap, ap₂, ◌∙◌}
use mathlib.Core.List.{List, [], ◌∷◌, ◌++◌, append-nil}
use Prim.Native.Nat.{ℕ, zero, suc, ◌-◌, ◌≤◌, ◌<◌}
use native.Mathlib.Omega.{arith}
use borrow.Rule.Slice.PartMut.{put_mid}
use lib.ListN.{length, get_or, take, drop, replicate, length-append, length-take, length-drop, length-replicate}
use lib.Seq.{take_all}
use Rattle.std.proofs.lemmas.List.{drop_all}
use Rattle.buffers.specs.Cleared.{cleared}

-- ---- what is written

module _ {A : Type 0} (z : A) (l : List A) where
  -- behind the end nothing is to be written
  pub clear_none : (i : ℕ) → length l ≤ i → l ≡ cleared z l i
  unfolding cleared
  clear_none i h =
      let e : length l - i ≡ 0 = omega arith in
      sym (ap₂ (λ (x : List A) (n : ℕ). x ++ replicate n z) (take_all i l h) e ∙ append-nil l)

  -- a part to the end, all of it zeros
  pub cleared_part : (a n : ℕ) (part : List A) → length part ≡ length (take (length l - a) (drop a l)) → n ≡ length part → take n part ≡ replicate n z
      → put_mid a (length l - a) l part ≡ cleared z l a
  unfolding cleared
  cleared_part a n part long all e =
      let behind : length (drop a l) ≤ length l - a = omega (arith, length-drop a l) in
      let whole : length part ≡ length l - a = omega (arith, length-take (length l - a) (drop a l), length-drop a l) in
      let zeros : part ≡ replicate (length l - a) z =
      sym (take_all n part (omega arith)) ∙ e ∙ ap (λ (k : ℕ). replicate k z) (all ∙ whole) in
      ap₂ (λ (x y : List A). take a l ++ (x ++ y)) zeros (drop_all (length l - a) (drop a l) behind)
      ∙ ap (λ (x : List A). take a l ++ x) (append-nil (replicate (length l - a) z))

-- ---- zeros behind the front of a list

zero_at : {A : Type 0} (z : A) (n i : ℕ) → get_or (replicate n z) i z ≡ z
zero_at z zero i = refl
zero_at z (suc n) zero = refl
zero_at z (suc n) (suc i) = zero_at z n i

module _ {A : Type 0} (z : A) (n : ℕ) where
  front_at : (l : List A) (a i : ℕ) → i < a → get_or (take a l ++ replicate n z) i z ≡ get_or l i z
  front_at l zero i h = absurd (omega arith)
  front_at [] (suc a) i h = zero_at z n i
  front_at (x ∷ l) (suc a) zero h = refl
  front_at (x ∷ l) (suc a) (suc i) h = front_at l a i (omega arith)

  rest_at : (l : List A) (a i : ℕ) → a ≤ i → get_or (take a l ++ replicate n z) i z ≡ z
  rest_at l zero i h = zero_at z n i
  rest_at [] (suc a) i h = zero_at z n i
  rest_at (x ∷ l) (suc a) zero h = absurd (omega arith)
  rest_at (x ∷ l) (suc a) (suc i) h = rest_at l a i (omega arith)

-- a list cleared from a place on: its front, its rest and its length
module _ {A : Type 0} (z : A) (l : List A) (a : ℕ) {l' : List A} (c : l' ≡ cleared z l a) where
  pub front_stays : (i : ℕ) → i < a → get_or l' i z ≡ get_or l i z
  unfolding cleared
  front_stays i h = ap (λ (x : List A). get_or x i z) c ∙ front_at z (length l - a) l a i h

  pub zeros_behind : (i : ℕ) → a ≤ i → get_or l' i z ≡ z
  unfolding cleared
  zeros_behind i h = ap (λ (x : List A). get_or x i z) c ∙ rest_at z (length l - a) l a i h

  pub length_stays : length l' ≡ length l
  unfolding cleared
  length_stays = ap length c ∙ length-append (take a l) (replicate (length l - a) z)
      ∙ omega (arith, length-take a l, length-replicate (length l - a) z)

-- everything is cleared
pub cleared_whole : {A : Type 0} (z : A) (l : List A) → cleared z l 0 ≡ replicate (length l) z
unfolding cleared
cleared_whole z l = let e : length l - 0 ≡ length l = omega arith in ap (λ (n : ℕ). replicate n z) e
