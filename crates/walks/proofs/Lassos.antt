-- Lassos: a stem from node 0 and a cycle at its end, which meet no node twice but where the cycle closes.
use mathlib.Core.Path.{◌≡◌, refl, sym, ap, ◌∙◌}
use mathlib.Core.Logic.{◌⊎◌, inl, inr, ⊎_elim}
use mathlib.Core.List.{List, [], ◌∷◌, ◌++◌}
use Prim.Native.Nat.{ℕ, zero, suc, ◌+◌, ◌-◌, ◌≤◌, ◌<◌}
use native.Mathlib.Omega.{arith}
use native.Mathlib.Decide.{dec_lt}
use native.Mathlib.Nat.{le_of_suc-le-suc, not-suc-le-zero}
use lib.ListN.{length, length-append, get_or-append}
use lib.Seq.{get_or-append-add}
use Rattle.walks.specs.Walk.{at, ArcWalk, Distinct}
pub use Rattle.walks.specs.Lasso.{ArcLasso, Forward}
use Rattle.integers.proofs.Pigeonhole.{pigeon}
use Rattle.walks.proofs.Walks.{walk_append, walk_arc}

-- ---- lists of arcs that leave distinct nodes

-- an index into a join
pub join_at : (c d : List ℕ) (i : ℕ) → i < length (c ++ d)
    → ((i < length c) × (at (c ++ d) i ≡ at c i)) ⊎ ((length c ≤ i) × (i - length c < length d) × (at (c ++ d) i ≡ at d (i - length c)))
join_at c d i h = let l : length (c ++ d) ≡ length c + length d = length-append c d in elim (dec_lt i (length c)) [
  | yes k ↦ inl (k, get_or-append c d 0 i k)
  | no q ↦ let e : length c + (i - length c) ≡ i = omega arith in
      inr (omega arith, omega arith, sym (ap (λ (n : ℕ). at (c ++ d) n) e) ∙ get_or-append-add c d (i - length c) 0)
]

module _ (F c d : List ℕ) where
  -- where no arc of d leaves a node that one of c leaves
  distinct_append : Distinct F c → Distinct F d
      → ((i j : ℕ) → i < length c → j < length d → at F (at c i) ≡ at F (at d j) → ⊥) → Distinct F (c ++ d)
  distinct_append dc dd apart i j hi hj e = ⊎_elim
      (λ a. ⊎_elim
      (λ b. dc i j a.0 b.0 (rw (a.1, b.1) at e))
      (λ b. absurd (apart i (j - length c) a.0 b.1 (rw (a.1, b.2) at e)))
      (join_at c d j hj))
      (λ a. ⊎_elim
      (λ b. absurd (apart j (i - length c) b.0 a.1 (sym (rw (a.2, b.1) at e))))
      (λ b. let k : i - length c ≡ j - length c = dd (i - length c) (j - length c) a.1 b.1 (rw (a.2, b.2) at e) in
      omega (arith, a.0, b.0))
      (join_at c d j hj))
      (join_at c d i hi)

  left_part : Distinct F (c ++ d) → Distinct F c
  left_part s i j hi hj e = s i j (omega (arith, length-append c d)) (omega (arith, length-append c d))
      (rw (get_or-append c d 0 i hi, get_or-append c d 0 j hj) e)

  right_part : Distinct F (c ++ d) → Distinct F d
  right_part s i j hi hj e =
      let k : length c + i ≡ length c + j = s (length c + i) (length c + j) (omega (arith, length-append c d)) (omega (arith, length-append c d))
      (rw (get_or-append-add c d i 0, get_or-append-add c d j 0) e) in omega arith

-- a cycle turned
pub distinct_turn : (F c d : List ℕ) → Distinct F (c ++ d) → Distinct F (d ++ c)
distinct_turn F c d s = distinct_append F d c (right_part F c d s) (left_part F c d s)
    (λ i j hi hj e. let k : length c + i ≡ j = s (length c + i) j (omega (arith, length-append c d)) (omega (arith, length-append c d))
    (rw (get_or-append-add c d i 0, get_or-append c d 0 j hj) e) in omega arith)

-- ---- a rising walk
module _ (F T : List ℕ) (m : ℕ) where
  rise_end : (x : ℕ) (s : List ℕ) (y : ℕ) → ArcWalk F T m x s y → Forward F T s → x ≤ y
  rise_end x [] y w r = omega arith
  rise_end x (e ∷ s) y w r = omega (arith, rise_end (at T e) s y w.2 r.1, w.1, r.0)

  rise_in : (x : ℕ) (s : List ℕ) (y : ℕ) → ArcWalk F T m x s y → Forward F T s → (i : ℕ) → i < length s → (x ≤ at F (at s i)) × (at F (at s i) < y)
  rise_in x [] y w r i h = absurd (not-suc-le-zero h)
  rise_in x (e ∷ s) y w r zero h = omega (arith, w.1, r.0, rise_end (at T e) s y w.2 r.1)
  rise_in x (e ∷ s) y w r (suc i) h = omega (arith, w.1, r.0, rise_in (at T e) s y w.2 r.1 i (le_of_suc-le-suc h))

  rise_distinct : (x : ℕ) (s : List ℕ) (y : ℕ) → ArcWalk F T m x s y → Forward F T s → Distinct F s
  rise_distinct x [] y w r i j hi hj e = absurd (not-suc-le-zero hi)
  rise_distinct x (a ∷ s) y w r zero zero hi hj e = refl
  rise_distinct x (a ∷ s) y w r zero (suc j) hi hj e =
      absurd (omega (arith, r.0, rise_in (at T a) s y w.2 r.1 j (le_of_suc-le-suc hj)))
  rise_distinct x (a ∷ s) y w r (suc i) zero hi hj e =
      absurd (omega (arith, r.0, rise_in (at T a) s y w.2 r.1 i (le_of_suc-le-suc hi)))
  rise_distinct x (a ∷ s) y w r (suc i) (suc j) hi hj e =
      ap suc (rise_distinct (at T a) s y w.2 r.1 i j (le_of_suc-le-suc hi) (le_of_suc-le-suc hj) e)

  -- a rising stem to the first of a cycle's nodes, and the cycle, turned so that it begins there: p and q are its parts
  pub lasso : (s p q : List ℕ) (x h : ℕ) → ArcWalk F T m 0 s h → Forward F T s → ArcWalk F T m x p h → ArcWalk F T m h q x → 0 < length q
      → Distinct F (p ++ q) → ((i : ℕ) → i < length (q ++ p) → h ≤ at F (at (q ++ p) i)) → ArcLasso F T m s (q ++ p)
  lasso s p q x h stem rise wp wq some dis first = record {
    hub = h;
    stem = stem;
    some = omega (arith, length-append q p);
    cycle = walk_append F T m h q x p h wq wp;
    simple = distinct_append F s (q ++ p) (rise_distinct 0 s h stem rise) (distinct_turn F p q dis)
        (λ i j hi hj e. omega (arith, rise_in 0 s h stem rise i hi, first j hj));
  }

-- ---- stem and cycle together
module _ (F T : List ℕ) (m : ℕ) (s c : List ℕ) (o : ArcLasso F T m s c) where
  pub lasso_walk : ArcWalk F T m 0 (s ++ c) o.hub
  lasso_walk = walk_append F T m 0 s o.hub c o.hub o.stem o.cycle

  pub lasso_arc : (i : ℕ) → i < length s + length c → at (s ++ c) i < m
  lasso_arc i h = walk_arc F T m 0 (s ++ c) o.hub lasso_walk i (omega (arith, length-append s c))

  -- the arcs leave distinct nodes, so there are no more of them than nodes
  pub lasso_short : (n : ℕ) → ((e : ℕ) → e < m → at F e < n) → length s + length c ≤ n
  lasso_short n sources = pigeon (length s + length c) n (λ i. at F (at (s ++ c) i)) (λ i h. sources (at (s ++ c) i) (lasso_arc i h))
      (λ i j hi hj. o.simple i j (omega (arith, length-append s c)) (omega (arith, length-append s c)))
