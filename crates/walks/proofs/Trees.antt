-- Stems along a search tree, and parts of lists of arcs.
use mathlib.Core.Path.{◌≡◌, refl, sym, ap, subst, ◌∙◌}
use mathlib.Core.List.{List, [], ◌∷◌, ◌++◌}
use Prim.Native.Nat.{ℕ, zero, suc, ◌+◌, ◌-◌, ◌≤◌, ◌<◌}
use native.Mathlib.Omega.{arith}
use lib.ListN.{length, take, drop, take-append-drop, set, length-set}
use lib.Seq.{take-take, drop-drop, take-nil, slice, slice_empty, slice-cons, get_or-set_same, take-set-lt, drop-set-lt}
use Rattle.walks.specs.Walk.{at, ArcWalk}
pub use Rattle.walks.specs.Lasso.{Tree, Stem}

pub stem_none : (F T : List ℕ) (m h : ℕ) (l : List ℕ) → Stem F T m h (slice (length l) (length l) l) h
stem_none F T m h l = rw (slice_empty (length l) l) record { walk = refl; rising = tt }

-- an entry stored just before a part that goes to the end
pub stored_before : (l : List ℕ) (a e : ℕ) → a < length l → slice a (length (set l a e)) (set l a e) ≡ e ∷ slice (suc a) (length l) l
stored_before l a e h =
    let z : length (set l a e) ≡ length l = length-set l a e in
    rw (
      z,
      slice-cons a (length l) (set l a e) 0 h (omega arith),
      get_or-set_same l a e 0 h,
      take-set-lt (length l) l a e h,
      drop-set-lt (suc a) (take (length l) l) a e (omega arith),
    ) refl

-- one arc more, in front
pub stem_more : (F tree : List ℕ) (n x a h : ℕ) (l : List ℕ) (g : Tree F tree n) → x < n → 0 < x → a < length l
    → Stem F g.T g.m x (slice (suc a) (length l) l) h
    → Stem F g.T g.m (at F (at tree x)) (slice a (length (set l a (at tree x))) (set l a (at tree x))) h
stem_more F tree n x a h l g hn hx ha s = rw (stored_before l a (at tree x) ha) record {
  walk = (
    g.arc x hn hx,
    refl,
    subst (λ (k : ℕ). ArcWalk F g.T g.m k (slice (suc a) (length l) l) h) (sym (g.ends x hn hx)) s.walk,
  );
  rising = (omega (arith, g.ends x hn hx, g.earlier x hn hx), s.rising);
}

-- ---- parts of lists
add' : (a n : ℕ) → suc a + n ≡ suc (a + n)
add' a n = omega arith

-- the first n entries from a on
pub take_part : (a n b : ℕ) (l : List ℕ) → a + n ≤ b → take n (drop a (take b l)) ≡ slice a (a + n) l
take_part zero n b l h = let e : n ≡ 0 + n = omega arith in take-take n b l (omega arith) ∙ ap (λ (i : ℕ). take i l) e
take_part (suc a) n zero l h = absurd (omega arith)
take_part (suc a) n (suc b) [] h = take-nil n ∙ rw (add' a n) refl
take_part (suc a) n (suc b) (x ∷ l) h = take_part a n b l (omega arith) ∙ rw (add' a n) refl

pub slice_join : (a k b : ℕ) (l : List ℕ) → a ≤ k → k ≤ b → slice a b l ≡ slice a k l ++ slice k b l
slice_join a k b l h g =
    let p : a + (k - a) ≡ k = omega arith in
    sym (take-append-drop (k - a) (slice a b l))
    ∙ ap (λ (s : List ℕ). s ++ drop (k - a) (slice a b l)) (take_part a (k - a) b l (omega arith) ∙ ap (λ (n : ℕ). slice a n l) p)
    ∙ ap (λ (s : List ℕ). slice a k l ++ s) (drop-drop (k - a) a (take b l) ∙ ap (λ (n : ℕ). drop n (take b l)) p)
