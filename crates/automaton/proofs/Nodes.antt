-- The parts of a node as facts, and how large they are.
use mathlib.Core.Path.{◌≡◌, sym, ap, ◌∙◌}
use mathlib.Core.Bool.{Bool, true, false, ◌&&◌, not}
use mathlib.Core.List.{List, [], ◌∷◌, zip_with}
use Prim.Native.Nat.{ℕ, suc, ◌+◌, ◌*◌, ◌≤◌, ◌<◌}
use native.Mathlib.Nat.{suc_inj}
use native.Mathlib.Omega.{arith}
use borrow.Author.Tests.{ltb-true, lt-ltb, leb-true, le-leb, eqb-true, eq-eqb}
use lib.Dec.{leb, ltb, eqb}
use lib.ListN.{length}
use Rattle.automaton.specs.Tests.{one_more_if, every}
use Rattle.automaton.specs.Bounds.{interval, upper_holds}
use Rattle.automaton.specs.Ranks.{rank, close_up, largest}
use Rattle.automaton.specs.Automaton.{Automaton, in_bounds}
use Rattle.automaton.specs.Nodes.{Node, uses_each_rank, inside, largest_class, is_node}
use Rattle.automaton.proofs.Tests.{&&-left, &&-right, &&-intro}
use Rattle.automaton.proofs.Lists.{Each, each_nil, each_cons, map_same}
use Rattle.automaton.proofs.Ranks.{rank_zero, rank_grows}
use Rattle.automaton.proofs.Largest.{occurs_le, le_largest, largest_close, rank_length}

-- ---- each rank is used if and only if closing up changes nothing

pub closed_of_used : (ks : List ℕ) → uses_each_rank ks ≡ true → close_up ks ≡ ks
unfolding close_up
closed_of_used ks e = map_same (rank ks) ks (record {
  at = λ k m. omega (
    arith,
    rank_grows ks 0 k (omega arith),
    rank_zero ks,
    rank_grows ks k (largest ks) (occurs_le k ks m),
    eqb-true (rank ks (largest ks)) (largest ks) e,
  );
})

pub used_of_closed : (ks : List ℕ) → close_up ks ≡ ks → uses_each_rank ks ≡ true
used_of_closed ks e = eq-eqb (rank ks (largest ks)) (largest ks) (sym (largest_close ks (largest ks) (le_largest ks)) ∙ ap largest e)

-- ---- the parts of a node, as facts

pub record Proper (A : Automaton) (u : Node) : Type 0 where
  pub here : u.location < A.locations
  pub wholes : length u.region.whole ≡ A.clocks
  pub classes : length u.region.class ≡ A.clocks
  pub closed : close_up u.region.class ≡ u.region.class
  pub cornered : u.corner ≤ largest_class u
  pub bounded : inside A u ≡ true

pub proper_of : (A : Automaton) (u : Node) → is_node A u ≡ true → Proper A u
unfolding is_node
proper_of A u e = record {
  here = ltb-true u.location A.locations (&&-left (ltb u.location A.locations) _ e);
  wholes = eqb-true (length u.region.whole) A.clocks (&&-left (eqb (length u.region.whole) A.clocks) _ e1);
  classes = eqb-true (length u.region.class) A.clocks (&&-left (eqb (length u.region.class) A.clocks) _ e2);
  closed = closed_of_used u.region.class (&&-left (uses_each_rank u.region.class) _ e3);
  cornered = leb-true u.corner (largest_class u) (&&-left (leb u.corner (largest_class u)) (inside A u) e4);
  bounded = &&-right (leb u.corner (largest_class u)) (inside A u) e4;
}
  where
    rest : Bool
    rest = leb u.corner (largest_class u) && inside A u

    e1 : eqb (length u.region.whole) A.clocks && (eqb (length u.region.class) A.clocks && (uses_each_rank u.region.class && rest)) ≡ true
    e1 = &&-right (ltb u.location A.locations) _ e

    e2 : eqb (length u.region.class) A.clocks && (uses_each_rank u.region.class && rest) ≡ true
    e2 = &&-right (eqb (length u.region.whole) A.clocks) _ e1

    e3 : uses_each_rank u.region.class && rest ≡ true
    e3 = &&-right (eqb (length u.region.class) A.clocks) _ e2

    e4 : leb u.corner (largest_class u) && inside A u ≡ true
    e4 = &&-right (uses_each_rank u.region.class) _ e3

pub of_proper : (A : Automaton) (u : Node) → Proper A u → is_node A u ≡ true
unfolding is_node
of_proper A u h = &&-intro (lt-ltb u.location A.locations h.here)
    (&&-intro (eq-eqb (length u.region.whole) A.clocks h.wholes)
    (&&-intro (eq-eqb (length u.region.class) A.clocks h.classes)
    (&&-intro (used_of_closed u.region.class h.closed)
    (&&-intro (le-leb u.corner (largest_class u) h.cornered) h.bounded))))

-- ---- how large they are

pub largest_small : {A : Automaton} {u : Node} → Proper A u → largest_class u ≤ A.clocks
largest_small {A} {u} h = omega (
  arith,
  ap largest h.closed,
  largest_close u.region.class (largest_class u) (le_largest u.region.class),
  rank_length u.region.class (largest_class u),
  h.classes,
)

pub class_small : {A : Automaton} {u : Node} → Proper A u → Each (λ k. k ≤ A.clocks) u.region.class
class_small {A} {u} h = record { at = λ k m. omega (arith, occurs_le k u.region.class m, largest_small h) }

pub corner_small : {A : Automaton} {u : Node} → Proper A u → u.corner ≤ A.clocks
corner_small h = omega (arith, h.cornered, largest_small h)

below_bound : (f : ℕ → ℕ) (b : ℕ) (hs ks : List ℕ) → length hs ≡ length ks → ((j : ℕ) → j < length hs → f j ≤ 2 * b + 1)
    → every (λ j. upper_holds (f j)) (zip_with interval hs ks) ≡ true → Each (λ h. h ≤ b) hs
unfolding every zip_with
below_bound f b [] ks l s e = each_nil
below_bound f b (h ∷ hs) [] l s e = absurd (omega arith)
below_bound f b (h ∷ hs) (k ∷ ks) l s e = each_cons
    (omega (arith, low (eqb k 0), s 0 (omega arith), ltb-true (interval h k) (f 0) (&&-left (upper_holds (f 0) (interval h k)) _ e)))
    (below_bound (λ j. f (suc j)) b hs ks (suc_inj l) (λ j m. s (suc j) (omega arith)) (&&-right (upper_holds (f 0) (interval h k)) _ e))
  where
    low : (c : Bool) → 2 * h ≤ one_more_if (not c) (2 * h)
    low true = omega arith
    low false = omega arith

-- with bounds up to 2b + 1 no whole part is above b: 12, where bounds are 25 at most
pub whole_small : {A : Automaton} {u : Node} (b : ℕ) → Proper A u → ((j : ℕ) → j < A.clocks → A.bound u.location j ≤ 2 * b + 1)
    → Each (λ h. h ≤ b) u.region.whole
unfolding in_bounds
whole_small {A} {u} b h s = below_bound (A.bound u.location) b u.region.whole u.region.class (h.wholes ∙ sym h.classes)
    (λ j l. s j (omega (arith, h.wholes))) h.bounded
