-- The contract of `lasso_of` fixes its answer and every entry of the buffer: two answers that meet it are one.
use mathlib.Core.Path.{◌≡◌, refl, sym, ap, ap₂, subst, ◌∙◌}
use mathlib.Core.List.{List, [], ◌∷◌, ◌++◌}
use Prim.Native.Nat.{ℕ, zero, suc, ◌+◌, ◌≤◌, ◌<◌}
use native.Mathlib.Omega.{arith}
use lib.ListN.{length, take, drop, length-append, length-take, length-drop, take-append-drop}
use lib.Seq.{slice, length-slice, length-take-le}
use Rattle.walks.specs.Walk.{at, ArcWalk}
use Rattle.walks.specs.Lasso.{Forward}
use Rattle.walks.proofs.Trees.{slice_join}
use Rattle.lasso.specs.Answer.{AlongTree, LaidOut, LassoAnswered}
use Rattle.std.specs.Prelude.{Result, Ok, Err}
use Rattle.walks.specs.declared.Malformed.{Malformed}

-- a list is empty, or has a last entry
data EmptyOrLast (l : List ℕ) : Type 0 where
  is_empty : l ≡ [] → EmptyOrLast l
  has_last : (p : List ℕ) (e : ℕ) → l ≡ p ++ (e ∷ []) → EmptyOrLast l

last_more : (x : ℕ) (l : List ℕ) → EmptyOrLast l → EmptyOrLast (x ∷ l)
last_more x l (is_empty q) = has_last [] x (ap (λ (r : List ℕ). x ∷ r) q)
last_more x l (has_last p e q) = has_last (x ∷ p) e (ap (λ (r : List ℕ). x ∷ r) q)

empty_or_last : (l : List ℕ) → EmptyOrLast l
empty_or_last [] = is_empty refl
empty_or_last (x ∷ l) = last_more x l (empty_or_last l)

module _ (F T tree : List ℕ) (m : ℕ) where
  -- a walk along the tree
  record Branch (x : ℕ) (l : List ℕ) (h : ℕ) : Type 0 where
    walk : ArcWalk F T m x l h
    rising : Forward F T l
    along : AlongTree T tree l

  -- one with a last arc e
  record LastArc (x : ℕ) (p : List ℕ) (e h : ℕ) : Type 0 where
    before : Branch x p (at F e)
    leads : at T e ≡ h
    rises : at F e < at T e
    in_tree : at tree (at T e) ≡ e

  last_arc : (x : ℕ) (p : List ℕ) (e h : ℕ) → Branch x (p ++ (e ∷ [])) h → LastArc x p e h
  last_arc x [] e h b = record {
    before = record { walk = sym b.walk.1; rising = tt; along = tt };
    leads = b.walk.2;
    rises = b.rising.0;
    in_tree = b.along.0;
  }
  last_arc x (a ∷ p) e h b =
      let i = last_arc (at T a) p e h (record { walk = b.walk.2; rising = b.rising.1; along = b.along.1 }) in
      record {
        before = record { walk = (b.walk.0, b.walk.1, i.before.walk); rising = (b.rising.0, i.before.rising); along = (b.along.0, i.before.along) };
        leads = i.leads;
        rises = i.rises;
        in_tree = i.in_tree;
      }

  -- none comes back to node 0
  not_back : (l p : List ℕ) (e h : ℕ) → l ≡ [] → Branch 0 l h → Branch 0 (p ++ (e ∷ [])) h → ⊥
  not_back l p e h q b c =
      let t = last_arc 0 p e h c in
      let z : 0 ≡ h = subst (λ (r : List ℕ). ArcWalk F T m 0 r h) q b.walk in
      omega (arith, t.rises, t.leads, z)

  -- the last arcs of two are the tree's arc of one node, and so on back to node 0
  same_branch : (h : ℕ) → ((g : ℕ) → g < h → (l r : List ℕ) → Branch 0 l g → Branch 0 r g → l ≡ r)
      → (l r : List ℕ) → EmptyOrLast l → EmptyOrLast r → Branch 0 l h → Branch 0 r h → l ≡ r
  same_branch h before l r (is_empty q) (is_empty s) b c = q ∙ sym s
  same_branch h before l r (is_empty q) (has_last p e s) b c = absurd (not_back l p e h q b (subst (λ (x : List ℕ). Branch 0 x h) s c))
  same_branch h before l r (has_last p e q) (is_empty s) b c = absurd (not_back r p e h s c (subst (λ (x : List ℕ). Branch 0 x h) q b))
  same_branch h before l r (has_last p e q) (has_last o f s) b c =
      let t = last_arc 0 p e h (subst (λ (x : List ℕ). Branch 0 x h) q b) in
      let u = last_arc 0 o f h (subst (λ (x : List ℕ). Branch 0 x h) s c) in
      let same : e ≡ f = sym t.in_tree ∙ ap (at tree) (t.leads ∙ sym u.leads) ∙ u.in_tree in
      let rest : p ≡ o = before (at F e) (omega (arith, t.rises, t.leads)) p o t.before (subst (λ (x : ℕ). Branch 0 o (at F x)) (sym same) u.before) in
      q ∙ ap₂ (λ (x : List ℕ) (y : ℕ). x ++ (y ∷ [])) rest same ∙ sym s

  one_branch : (turns h : ℕ) → h < turns → (l r : List ℕ) → Branch 0 l h → Branch 0 r h → l ≡ r
  one_branch zero h k l r b c = absurd (omega arith)
  one_branch (suc turns) h k l r b c = same_branch h (λ g j. one_branch turns g (omega arith)) l r (empty_or_last l) (empty_or_last r) b c

module _ {F T tree cycle : List ℕ} {n k s : ℕ} {arcs arcs' : List ℕ} (hk : k ≤ length cycle) (l : LaidOut F T tree cycle n k s arcs arcs') where
  branch : Branch F T tree (length F) 0 (take s arcs') (at F (at cycle l.turn))
  branch = record { walk = l.stem.walk; rising = l.stem.rising; along = l.along }

  turned_sized : length (slice s (s + k) arcs') ≡ k
  turned_sized = ap length l.turned ∙ length-append (slice l.turn k cycle) (take l.turn cycle)
      ∙ omega (arith, length-slice l.turn k cycle hk, length-take-le l.turn cycle (omega (arith, l.below)), l.below)

  stem_sized : length (take s arcs') ≡ s
  stem_sized = length-take-le s arcs' (omega (arith, turned_sized, length-drop s (take (s + k) arcs'), length-take (s + k) arcs', l.below))

  -- stem, turned cycle, and what stood behind them
  in_parts : arcs' ≡ (take s arcs' ++ (slice l.turn k cycle ++ take l.turn cycle)) ++ drop (s + k) arcs
  in_parts = sym (take-append-drop (s + k) arcs')
      ∙ ap₂ ◌++◌ (slice_join 0 s (s + k) arcs' (omega arith) (omega arith) ∙ ap (λ (r : List ℕ). take s arcs' ++ r) l.turned) l.rest

module _ {F T tree cycle : List ℕ} {n k : ℕ} {arcs : List ℕ} (hk : k ≤ length cycle) where
  no_later : {s t : ℕ} {x y : List ℕ} (l : LaidOut F T tree cycle n k s arcs x) (o : LaidOut F T tree cycle n k t arcs y) → l.turn < o.turn → ⊥
  no_later l o h = omega (arith, o.earliest l.turn h, l.first o.turn o.below)

  pub one_lasso : {s t : ℕ} {x y : List ℕ} → LaidOut F T tree cycle n k s arcs x → LaidOut F T tree cycle n k t arcs y → (s ≡ t) × (x ≡ y)
  one_lasso {s} {t} {x} {y} l o = (
    long,
    in_parts hk l ∙ ap₂ (λ (r : List ℕ) (i : ℕ). (r ++ (slice i k cycle ++ take i cycle)) ++ drop (s + k) arcs) stems turns
        ∙ ap (λ (i : ℕ). (take t y ++ (slice o.turn k cycle ++ take o.turn cycle)) ++ drop (i + k) arcs) long ∙ sym (in_parts hk o),
  )
    where
      turns : l.turn ≡ o.turn
      turns = omega (arith, no_later l o, no_later o l)

      stems : take s x ≡ take t y
      stems = one_branch F T tree (length F) (suc (at F (at cycle l.turn))) (at F (at cycle l.turn)) (omega arith) (take s x) (take t y) (branch hk l)
          (subst (λ (i : ℕ). Branch F T tree (length F) 0 (take t y) (at F (at cycle i))) (sym turns) (branch hk o))

      long : s ≡ t
      long = sym (stem_sized hk l) ∙ ap length stems ∙ stem_sized hk o

pub one_answer : (F T tree cycle : List ℕ) (n k : ℕ) (arcs x y : List ℕ) (a b : Result ℕ Malformed)
    → LassoAnswered F T tree cycle n k arcs x a → LassoAnswered F T tree cycle n k arcs y b → (a ≡ b) × (x ≡ y)
one_answer F T tree cycle n k arcs x y (Err m) (Err o) z w = (refl, z.1 ∙ sym w.1)
one_answer F T tree cycle n k arcs x y (Err _) (Ok t) z w = absurd (z.0 w.0)
one_answer F T tree cycle n k arcs x y (Ok s) (Err _) z w = absurd (w.0 z.0)
one_answer F T tree cycle n k arcs x y (Ok s) (Ok t) z w = let o = one_lasso z.0.cycle_room z.1 w.1 in (ap Ok o.0, o.1)
