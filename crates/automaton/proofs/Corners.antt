-- What steps do to the corner point, as 000 asks of the transitions of its abstraction: an edge sets the masked clocks to 0,
-- a unit of delay adds 1 to every clock, and a move leaves the point where it is.
use mathlib.Core.Path.{◌≡◌, refl, sym, ap, ap₂, ◌∙◌, subst}
use mathlib.Core.Bool.{Bool, true, false, cond}
use mathlib.Core.List.{List, [], ◌∷◌, map, zip_with}
use mathlib.Core.Option.{some}
use Prim.Native.Nat.{ℕ, suc, ◌≤◌, ◌<◌}
use native.Mathlib.Omega.{arith}
use borrow.Author.Tests.{lt-ltb, le-ltb, eqb-true, eqb-false}
use lib.Dec.{ltb, eqb, leb-suc-suc}
use Rattle.automaton.specs.Tests.{one_more_if, occurs}
use Rattle.automaton.specs.Ranks.{rank, close_up, mask}
use Rattle.automaton.specs.Automaton.{Automaton}
use Rattle.automaton.specs.Priced.{Priced}
use Rattle.automaton.specs.Nodes.{Node, largest_class, point}
use Rattle.automaton.specs.Steps.{edge_to, some_whole, unit_to, rise_to, carry_whole, carry_class, carry_to, step}
use Rattle.automaton.proofs.Tests.{by_bool, by_order, clash}
use Rattle.automaton.proofs.Lists.{Each, each_head, each_tail, each_all}
use Rattle.automaton.proofs.Ranks.{rank_ltb}
use Rattle.automaton.proofs.Largest.{occurs_le, carry_at, carry_off}
use Rattle.automaton.proofs.Codes.{step_edge, step_unit, step_move, edge_needs, unit_needs, move-cases}

-- ---- two lists side by side, clock by clock

-- the second list changed
zip_right : (f f' : ℕ → ℕ → ℕ) (g : ℕ → ℕ) (hs ks : List ℕ) → Each (λ k. (h : ℕ) → f' h (g k) ≡ f h k) ks → zip_with f' hs (map g ks) ≡ zip_with f hs ks
unfolding zip_with
zip_right f f' g [] ks e = refl
zip_right f f' g (h ∷ hs) [] e = refl
zip_right f f' g (h ∷ hs) (k ∷ ks) e = ap₂ ◌∷◌ (each_head e h) (zip_right f f' g hs ks (each_tail e))

-- both changed
zip_both : (f f' c : ℕ → ℕ → ℕ) (g : ℕ → ℕ) (hs ks : List ℕ) → ((h k : ℕ) → f' (c h k) (g k) ≡ f h k)
    → zip_with f' (zip_with c hs ks) (map g ks) ≡ zip_with f hs ks
unfolding zip_with
zip_both f f' c g [] ks e = refl
zip_both f f' c g (h ∷ hs) [] e = refl
zip_both f f' c g (h ∷ hs) (k ∷ ks) e = ap₂ ◌∷◌ (e h k) (zip_both f f' c g hs ks e)

-- the outcome changed
zip_out : (f f' : ℕ → ℕ → ℕ) (m : ℕ → ℕ) (hs ks : List ℕ) → Each (λ k. (h : ℕ) → f' h k ≡ m (f h k)) ks → zip_with f' hs ks ≡ map m (zip_with f hs ks)
unfolding zip_with
zip_out f f' m [] ks e = refl
zip_out f f' m (h ∷ hs) [] e = refl
zip_out f f' m (h ∷ hs) (k ∷ ks) e = ap₂ ◌∷◌ (each_head e h) (zip_out f f' m hs ks (each_tail e))

zip_mask : (f : ℕ → ℕ → ℕ) → f 0 0 ≡ 0 → (r : ℕ → Bool) (hs ks : List ℕ) → zip_with f (mask r hs) (mask r ks) ≡ mask r (zip_with f hs ks)
unfolding zip_with mask
zip_mask f z r [] ks = refl
zip_mask f z r (h ∷ hs) [] = refl
zip_mask f z r (h ∷ hs) (k ∷ ks) = ap₂ ◌∷◌ (go (r 0)) (zip_mask f z (λ j. r (suc j)) hs ks)
  where
    go : (b : Bool) → f (cond b 0 h) (cond b 0 k) ≡ cond b 0 (f h k)
    go true = z
    go false = refl

-- ---- the steps

-- a clock of class k at corner i
at_corner : ℕ → ℕ → ℕ → ℕ
at_corner i h k = one_more_if (ltb i k) h

corner_by : (b : Bool) (i h k : ℕ) → ltb i k ≡ b → at_corner i h k ≡ one_more_if b h
unfolding at_corner
corner_by b i h k e = ap (λ (c : Bool). one_more_if c h) e

pub edge_point : (A : Automaton) (u : Node) (e : ℕ) → point (edge_to A u e) ≡ mask (A.reset e) (point u)
unfolding close_up at_corner
edge_point A u e = zip_right (at_corner i) (at_corner (rank M i)) (rank M) (mask (A.reset e) u.region.whole) M
    (record { at = λ k m h. ap (λ (c : Bool). one_more_if c h) (rank_ltb M i k m) })
    ∙ zip_mask (at_corner i) (corner_by false i 0 0 (le-ltb i 0 (omega arith))) (A.reset e) u.region.whole u.region.class
  where
    i : ℕ
    i = u.corner

    M : List ℕ
    M = mask (A.reset e) u.region.class

pub unit_point : (u : Node) → some_whole u ≡ false → u.corner ≡ largest_class u → point (unit_to u) ≡ map suc (point u)
unfolding at_corner
unit_point u w l = zip_out (at_corner u.corner) (at_corner 0) suc u.region.whole u.region.class (record {
  at = λ k m h.
      corner_by true 0 h k (lt-ltb 0 k (positive k m))
      ∙ sym (ap suc (corner_by false u.corner h k (le-ltb u.corner k (omega (arith, occurs_le k u.region.class m)))));
})
  where
    positive : (k : ℕ) → occurs k u.region.class ≡ true → 0 < k
    positive k m = by_order 0 k (λ l. l) (λ e. clash (subst (λ (x : ℕ). occurs x u.region.class ≡ true) (sym e) m) w) (λ l. absurd (omega arith))

pub rise_point : (u : Node) → point (rise_to u) ≡ point u
unfolding at_corner
rise_point u = zip_right (at_corner u.corner) (at_corner (suc u.corner)) suc u.region.whole u.region.class
    (each_all (λ k h. ap (λ (c : Bool). one_more_if c h) (leb-suc-suc (suc u.corner) k)))

pub carry_point : (u : Node) → u.corner < largest_class u → point (carry_to u) ≡ point u
unfolding at_corner
carry_point u l = zip_both (at_corner i) (at_corner i) (carry_whole g) (carry_class g) u.region.whole u.region.class one
  where
    i : ℕ
    i = u.corner

    g : ℕ
    g = largest_class u

    one : (h k : ℕ) → at_corner i (carry_whole g h k) (carry_class g k) ≡ at_corner i h k
    one h k = by_bool (eqb k g)
        (λ e. let q = eqb-true k g e in ap₂ (at_corner i) (ap (λ (c : Bool). one_more_if c h) e) (carry_at g k q)
        ∙ corner_by false i (suc h) 0 (le-ltb i 0 (omega arith)) ∙ sym (corner_by true i h k (lt-ltb i k (omega arith))))
        (λ e. ap₂ (at_corner i) (ap (λ (c : Bool). one_more_if c h) e) (carry_off g k (eqb-false k g e)))

-- ---- by the codes

pub edge_moves_point : (A : Automaton) (u : Node) (e : ℕ) (x : Priced Node) → e ≤ 31 → step A u e ≡ some x → point x.to ≡ mask (A.reset e) (point u)
edge_moves_point A u e x l s = ap (λ (y : Priced Node). point y.to) (edge_needs A u x e (sym (step_edge A u e l) ∙ s)).1 ∙ edge_point A u e

pub unit_moves_point : (A : Automaton) (u : Node) (x : Priced Node) → step A u 32 ≡ some x → point x.to ≡ map suc (point u)
unit_moves_point A u x s = let n = unit_needs A u x (sym (step_unit A u) ∙ s) in
    ap (λ (y : Priced Node). point y.to) n.2 ∙ unit_point u n.0 n.1

pub move_keeps_point : (A : Automaton) (u : Node) (x : Priced Node) → step A u 33 ≡ some x → point x.to ≡ point u
move_keeps_point A u x s = move-cases A u x (sym (step_move A u) ∙ s)
    (λ m i q. ap (λ (y : Priced Node). point y.to) q ∙ rise_point u)
    (λ m l i q. ap (λ (y : Priced Node). point y.to) q ∙ carry_point u l)
