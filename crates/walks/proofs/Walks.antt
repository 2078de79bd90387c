-- Laws on walks: joined, cut, and what their arcs and nodes are.
use mathlib.Core.Path.{◌≡◌, refl, sym, subst, ◌∙◌}
use mathlib.Core.List.{List, [], ◌∷◌, ◌++◌}
use Prim.Native.Nat.{ℕ, zero, suc, ◌-◌, ◌<◌}
use native.Mathlib.Omega.{arith}
use native.Mathlib.Nat.{le_of_suc-le-suc, not-suc-le-zero}
use lib.ListN.{length}
use Rattle.walks.specs.Walk.{at, ArcWalk, Distinct}

-- where the second part of a walk begins
pub record Cut (F T : List ℕ) (m x : ℕ) (c d : List ℕ) (y : ℕ) : Type 0 where
  pub place : ℕ
  pub left : ArcWalk F T m x c place
  pub right : ArcWalk F T m place d y

module _ (F T : List ℕ) (m : ℕ) where
  pub walk_append : (x : ℕ) (c : List ℕ) (y : ℕ) (d : List ℕ) (z : ℕ) → ArcWalk F T m x c y → ArcWalk F T m y d z → ArcWalk F T m x (c ++ d) z
  walk_append x [] y d z w v = subst (λ (k : ℕ). ArcWalk F T m k d z) (sym w) v
  walk_append x (e ∷ c) y d z w v = (w.0, w.1, walk_append (at T e) c y d z w.2 v)

  pub walk_snoc : (x : ℕ) (c : List ℕ) (y e : ℕ) → ArcWalk F T m x c y → e < m → at F e ≡ y → ArcWalk F T m x (c ++ (e ∷ [])) (at T e)
  walk_snoc x c y e w h s = walk_append x c y (e ∷ []) (at T e) w (h, s, refl)

  pub cut : (x : ℕ) (c d : List ℕ) (y : ℕ) → ArcWalk F T m x (c ++ d) y → Cut F T m x c d y
  cut x [] d y w = record { place = x; left = refl; right = w }
  cut x (e ∷ c) d y w = let k : Cut F T m (at T e) c d y = cut (at T e) c d y w.2 in
      record { place = k.place; left = (w.0, w.1, k.left); right = k.right }

  pub walk_arc : (x : ℕ) (c : List ℕ) (y : ℕ) → ArcWalk F T m x c y → (i : ℕ) → i < length c → at c i < m
  walk_arc x [] y w i h = absurd (not-suc-le-zero h)
  walk_arc x (e ∷ c) y w zero h = w.0
  walk_arc x (e ∷ c) y w (suc i) h = walk_arc (at T e) c y w.2 i (le_of_suc-le-suc h)

  pub walk_end : (n : ℕ) → ((e : ℕ) → e < m → at T e < n) → (x : ℕ) (c : List ℕ) (y : ℕ) → x < n → ArcWalk F T m x c y → y < n
  walk_end n t x [] y h w = omega arith
  walk_end n t x (e ∷ c) y h w = walk_end n t (at T e) c y (t e w.0) w.2

  -- ---- the nodes along a walk
  pub walk_first : (x : ℕ) (c : List ℕ) (y : ℕ) → ArcWalk F T m x c y → 0 < length c → at F (at c 0) ≡ x
  walk_first x [] y w h = absurd (not-suc-le-zero h)
  walk_first x (e ∷ c) y w h = w.1

  pub walk_next : (x : ℕ) (c : List ℕ) (y : ℕ) → ArcWalk F T m x c y → (i : ℕ) → suc i < length c → at F (at c (suc i)) ≡ at T (at c i)
  walk_next x [] y w i h = absurd (not-suc-le-zero h)
  walk_next x (e ∷ c) y w zero h = walk_first (at T e) c y w.2 (le_of_suc-le-suc h)
  walk_next x (e ∷ c) y w (suc i) h = walk_next (at T e) c y w.2 i (le_of_suc-le-suc h)

  pub walk_last : (x : ℕ) (c : List ℕ) (y k : ℕ) → ArcWalk F T m x c y → length c ≡ suc k → at T (at c k) ≡ y
  walk_last x [] y k w h = absurd (omega arith)
  walk_last x (e ∷ []) y zero w h = w.2
  walk_last x (e ∷ []) y (suc k) w h = absurd (omega arith)
  walk_last x (e ∷ a ∷ c) y zero w h = absurd (omega arith)
  walk_last x (e ∷ a ∷ c) y (suc k) w h = walk_last (at T e) (a ∷ c) y k w.2 (omega arith)

  -- ---- the arcs of a cycle leave distinct nodes, where they lead to distinct nodes
  module _ (x : ℕ) (c : List ℕ) (w : ArcWalk F T m x c x) (d : Distinct T c) where
    closing : (j : ℕ) → suc j < length c → at F (at c (suc j)) ≡ x → ⊥
    closing j h e = let k : length c ≡ suc (length c - 1) = omega arith in
        let q : j ≡ length c - 1 = d j (length c - 1) (omega arith) (omega arith)
        (sym (walk_next x c x w j h) ∙ e ∙ sym (walk_last x c x (length c - 1) w k)) in omega arith

    pub sources : Distinct F c
    sources zero zero hi hj e = refl
    sources zero (suc j) hi hj e = absurd (closing j hj (sym e ∙ walk_first x c x w hi))
    sources (suc i) zero hi hj e = absurd (closing i hi (e ∙ walk_first x c x w hj))
    sources (suc i) (suc j) hi hj e =
        let k : i ≡ j = d i j (omega arith) (omega arith) (sym (walk_next x c x w i hi) ∙ e ∙ walk_next x c x w j hj) in omega arith
