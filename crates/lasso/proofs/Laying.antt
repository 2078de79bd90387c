-- Three parts copied one after the other to the front of a list, and the lasso that they are.
use mathlib.Core.Path.{◌≡◌, refl, sym, ap, ap₂, subst, ◌∙◌}
use mathlib.Core.Logic.{⊎_elim}
use mathlib.Core.List.{List, ◌++◌, append_assoc}
use Prim.Native.Nat.{ℕ, ◌+◌, ◌-◌, ◌≤◌, ◌<◌}
use native.Mathlib.Omega.{arith}
use lib.ListN.{length, take, drop}
use lib.Seq.{slice, paste, take_all, take-length, take-take, drop-drop, take_at, drop_at, take-paste, drop-paste, length-paste, length-take-le, length-slice, get_or-take, get_or-drop}
use Rattle.walks.specs.Walk.{at, ArcWalk, Distinct}
use Rattle.walks.specs.Lasso.{ArcLasso, Tree, Stem}
use Rattle.walks.proofs.Walks.{Cut, cut, walk_first}
use Rattle.walks.proofs.Lassos.{lasso, join_at}
use Rattle.walks.proofs.Trees.{slice_join}
use Rattle.lasso.specs.Answer.{LassoArguments, AlongTree, LaidOut}

-- what is behind a copy stays
behind : (d : List ℕ) (start : ℕ) (s : List ℕ) (n j : ℕ) → start ≤ length d → n ≤ length s → start + n ≤ j → drop j (paste d start s n) ≡ drop j d
behind d start s n j hd hs h =
    let e : start + n + (j - (start + n)) ≡ j = omega arith in
    ap (λ (i : ℕ). drop i (paste d start s n)) (sym e) ∙ sym (drop-drop (j - (start + n)) (start + n) (paste d start s n))
    ∙ ap (drop (j - (start + n))) (drop-paste d start s n hd hs) ∙ drop-drop (j - (start + n)) (start + n) d ∙ ap (λ (i : ℕ). drop i d) e

module _ (d x y z : List ℕ) (a b c : ℕ) (hx : length x ≡ a) (hy : length y ≡ b) (hz : c ≤ length z) (room : a + b + c ≤ length d) where
  abbrev d1 : List ℕ
  d1 = paste d 0 x a

  abbrev d2 : List ℕ
  d2 = paste d1 a y b

  abbrev d3 : List ℕ
  d3 = paste d2 (a + b) z c

  length1 : length d1 ≡ length d
  length1 = length-paste d 0 x a (omega arith) (omega arith)

  length2 : length d2 ≡ length d
  length2 = length-paste d1 a y b (omega (arith, length1)) (omega arith) ∙ length1

  front : take (a + b + c) d3 ≡ x ++ (y ++ take c z)
  front = take-paste d2 (a + b) z c (omega (arith, length2)) hz
      ∙ ap (λ (l : List ℕ). l ++ take c z) (take-paste d1 a y b (omega (arith, length1)) (omega arith)
      ∙ ap (λ (l : List ℕ). l ++ take b y) first ∙ ap (λ (l : List ℕ). x ++ l) (take_all b y (omega arith)))
      ∙ append_assoc x y (take c z)
    where
      first : take a d1 ≡ x
      first = let e : 0 + a ≡ a = omega arith in
          ap (λ (i : ℕ). take i d1) (sym e) ∙ take-paste d 0 x a (omega arith) (omega arith) ∙ take_all a x (omega arith)

  pub laid_first : take a d3 ≡ x
  laid_first = sym (take-take a (a + b + c) d3 (omega arith)) ∙ ap (take a) front ∙ take_at x (y ++ take c z) a hx

  pub laid_rest : (k : ℕ) → b + c ≡ k → slice a (a + k) d3 ≡ y ++ take c z
  laid_rest k e = let p : a + k ≡ a + b + c = omega arith in
      ap (λ (i : ℕ). slice a i d3) p ∙ ap (drop a) front ∙ drop_at x (y ++ take c z) a hx

  pub laid_behind : (k : ℕ) → b + c ≡ k → drop (a + k) d3 ≡ drop (a + k) d
  laid_behind k e = behind d2 (a + b) z c (a + k) (omega (arith, length2)) hz (omega arith)
      ∙ behind d1 a y b (a + k) (omega (arith, length1)) (omega arith) (omega arith)
      ∙ behind d 0 x a (a + k) (omega arith) (omega arith) (omega arith)

-- a simple cycle laid out so is a lasso
pub lasso_laid : (F T tree cycle : List ℕ) (n k s : ℕ) (arcs arcs' : List ℕ) (x : ℕ) → k ≤ length cycle → LaidOut F T tree cycle n k s arcs arcs'
    → ArcWalk F T (length F) x (take k cycle) x → Distinct F (take k cycle) → ArcLasso F T (length F) (take s arcs') (slice s (s + k) arcs')
lasso_laid F T tree cycle n k s arcs arcs' x hk l w d =
    subst (ArcLasso F T (length F) (take s arcs')) (sym l.turned)
    (lasso F T (length F) (take s arcs') p q x (at F (at cycle t)) l.stem.walk l.stem.rising (subst (ArcWalk F T (length F) x p) (sym here) parts.left)
    (subst (λ (y : ℕ). ArcWalk F T (length F) y q x) (sym here) parts.right) (omega (arith, long_q, l.below)) (subst (Distinct F) split d) first)
  where
    t : ℕ
    t = l.turn

    p : List ℕ
    p = take t cycle

    q : List ℕ
    q = slice t k cycle

    split : take k cycle ≡ p ++ q
    split = slice_join 0 t k cycle (omega arith) (omega (arith, l.below))

    parts : Cut F T (length F) x p q x
    parts = cut F T (length F) x p q x (subst (λ (c : List ℕ). ArcWalk F T (length F) x c x) split w)

    long_q : length q ≡ k - t
    long_q = length-slice t k cycle hk

    long_p : length p ≡ t
    long_p = length-take-le t cycle (omega (arith, l.below))

    q_at : (i : ℕ) → t + i < k → at q i ≡ at cycle (t + i)
    q_at i h = get_or-drop t (take k cycle) i 0 ∙ get_or-take k cycle (t + i) 0 h

    here : at F (at cycle t) ≡ parts.place
    here = let e : t + 0 ≡ t = omega arith in
        sym (ap (at F) (q_at 0 (omega (arith, l.below)) ∙ ap (at cycle) e)) ∙ walk_first F T (length F) parts.place q x parts.right (omega (arith, long_q, l.below))

    first : (i : ℕ) → i < length (q ++ p) → at F (at cycle t) ≤ at F (at (q ++ p) i)
    first i h = ⊎_elim
        (λ a. rw (a.1 ∙ q_at i (omega (arith, a.0, long_q))) (l.first (t + i) (omega (arith, a.0, long_q))))
        (λ a. rw (a.2 ∙ get_or-take t cycle (i - length q) 0 (omega (arith, a.1, long_p))) (l.first (i - length q) (omega (arith, a.1, long_p, l.below))))
        (join_at q p i h)

-- the tree of well formed arguments
abbrev pub tree_of : (F T tree cycle : List ℕ) (n k room : ℕ) → LassoArguments F T tree cycle n k room → Tree F tree n
tree_of F T tree cycle n k room w = record {
  T = T;
  m = length F;
  froms = refl;
  arc = λ v h p. (w.tree_arcs v p h).arc;
  ends = λ v h p. (w.tree_arcs v p h).ends;
  earlier = λ v h p. (w.tree_arcs v p h).earlier;
}

-- a part written over
written : (d : List ℕ) (a n m : ℕ) (s y : List ℕ) → m ≡ n → y ≡ take n s → take a d ++ (y ++ drop m (drop a d)) ≡ paste d a s n
written d a n m s y p q = rw (p, q) (ap (λ (r : List ℕ). take a d ++ (take n s ++ r)) (drop-drop n a d)
    ∙ sym (append_assoc (take a d) (take n s) (drop (a + n) d)))

-- what the three copies come to
module _ (F T tree cycle path arcs x1 x2 x3 : List ℕ) (n top turn s : ℕ) where
  abbrev k : ℕ
  k = length cycle

  -- where the second part of the cycle begins
  abbrev b : ℕ
  b = s + (k - turn)

  abbrev first_laid : List ℕ
  first_laid = x1 ++ drop s arcs

  abbrev two_laid : List ℕ
  two_laid = take s first_laid ++ (x2 ++ drop (b - s) (drop s first_laid))

  abbrev all_laid : List ℕ
  all_laid = take b two_laid ++ (x3 ++ drop (b + turn - b) (drop b two_laid))

  pub laid_out : length path ≡ 2048 → top ≤ 2048 → 2048 ≤ top + n → s ≡ 2048 - top
      → turn < length cycle → n + length cycle ≤ length arcs → ((i : ℕ) → i < length cycle → at F (at cycle turn) ≤ at F (at cycle i))
      → ((i : ℕ) → i < turn → at F (at cycle turn) < at F (at cycle i))
      → Stem F T (length F) 0 (slice top (length path) path) (at F (at cycle turn)) → AlongTree T tree (slice top (length path) path)
      → x1 ≡ take (2048 - top) (drop top path) → x2 ≡ take (k - turn) (drop turn cycle) → x3 ≡ take turn cycle
      → LaidOut F T tree cycle n k s arcs all_laid
  laid_out lo ht hn es hk room least before stem along e1 e2 e3 = record {
    turn = turn;
    below = hk;
    first = least;
    earliest = before;
    short = omega arith;
    stem = subst (λ (l : List ℕ). Stem F T (length F) 0 l (at F (at cycle turn))) (sym front) stem;
    along = subst (AlongTree T tree) (sym front) along;
    turned = ap (slice s (s + k)) all ∙ laid_rest arcs x y cycle s (k - turn) turn long_x long_y fits enough k (omega arith);
    rest = ap (drop (s + k)) all ∙ laid_behind arcs x y cycle s (k - turn) turn long_x long_y fits enough k (omega arith);
  }
    where
      x : List ℕ
      x = slice top (length path) path

      y : List ℕ
      y = slice turn k cycle

      is_x : drop top path ≡ x
      is_x = ap (drop top) (sym (take-length path))

      is_y : drop turn cycle ≡ y
      is_y = ap (drop turn) (sym (take-length cycle))

      long_x : length x ≡ s
      long_x = length-slice top (length path) path (omega arith) ∙ omega arith

      long_y : length y ≡ k - turn
      long_y = length-slice turn k cycle (omega arith)

      fits : turn ≤ length cycle
      fits = omega arith

      enough : s + (k - turn) + turn ≤ length arcs
      enough = omega arith

      d1 : first_laid ≡ paste arcs 0 x s
      d1 = let z : 0 + s ≡ s = omega arith in
          ap (λ (l : List ℕ). l ++ drop s arcs) (e1 ∙ ap₂ take (sym es) is_x) ∙ ap (λ (i : ℕ). take s x ++ drop i arcs) (sym z)

      d2 : two_laid ≡ paste (paste arcs 0 x s) s y (k - turn)
      d2 = written first_laid s (k - turn) (b - s) y x2 (omega arith) (e2 ∙ ap (take (k - turn)) is_y)
          ∙ ap (λ (l : List ℕ). paste l s y (k - turn)) d1

      all : all_laid ≡ paste (paste (paste arcs 0 x s) s y (k - turn)) b cycle turn
      all = written two_laid b turn (b + turn - b) cycle x3 (omega arith) e3 ∙ ap (λ (l : List ℕ). paste l b cycle turn) d2

      front : take s all_laid ≡ x
      front = ap (take s) all ∙ laid_first arcs x y cycle s (k - turn) turn long_x long_y fits enough
