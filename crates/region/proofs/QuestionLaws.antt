-- Question 15 by its parts.
use mathlib.Core.Path.{◌≡◌, refl, sym, ap, ap₂, ◌∙◌}
use mathlib.Core.Bool.{Bool, true, false, ◌&&◌}
use mathlib.Core.List.{List}
use Prim.Native.Nat.{ℕ, ◌/◌, ◌^◌, ◌≤◌}
use native.Mathlib.Nat.{mod-lt}
use native.Mathlib.Omega.{arith}
use borrow.Author.Tests.{eq-eqb, ne_eqb, lt-ltb}
use lib.Dec.{leb, ltb, eqb, lit<}
use lib.ListN.{length}
use Rattle.automaton.specs.Ranks.{rank, largest}
use Rattle.automaton.specs.Automaton.{Automaton}
use Rattle.automaton.specs.Nodes as automaton
use Rattle.automaton.specs.Nodes.{uses_each_rank, inside, is_node}
use Rattle.sheet.specs.Decoded.{blank_edge}
use Rattle.sheet.specs.declared.Location.{Location}
use Rattle.nodes.specs.Numbers.{Layout, layout_at, node_of, is_number}
use Rattle.nodes.specs.Decoded.{few_clocks, alone}
use Rattle.region.specs.Arrays.{in_arrays, node_in, number_in, bounds_in}
use Rattle.region.specs.declared.Node.{Node}
use Rattle.region.proofs.ClockLaws.{no_more}
use Rattle.region.proofs.PadLaws.{rank_pad, largest_pad}
use Rattle.nodes.proofs.LayoutLaws.{few_le}
use Rattle.region.proofs.NodeLaws.{sized, own_number}
use Rattle.region.proofs.EdgeLaws.{same_inside}

regroup : (a b c : Bool) → a && (b && c) ≡ (a && b) && c
regroup true b c = refl
regroup false b c = refl

-- each rank is used, and the corner is one of the region's
abbrev is_cornered : List ℕ → ℕ → Bool
is_cornered ks i = uses_each_rank ks && leb i (largest ks)

module _ (e k : ℕ) (l : Location) (x : ℕ) where
  abbrev y : Layout
  y = layout_at e

  abbrev A : Automaton
  A = alone e k blank_edge l

  abbrev u : automaton.Node
  u = node_of y (few_clocks e k) x

  same_cornered : is_cornered (in_arrays u).region.class u.corner ≡ is_cornered u.region.class u.corner
  same_cornered =
      let small : length u.region.class ≤ 4 = omega (arith, (sized y (few_clocks e k) x).classes, few_le e k) in
      let g = largest_pad 4 u.region.class small in
      ap₂ ◌&&◌ (ap₂ eqb (ap (rank (in_arrays u).region.class) g ∙ rank_pad 4 u.region.class small (largest u.region.class)) g) (ap (leb u.corner) g)

  -- the parts, by a node in arrays with this number of clocks
  abbrev asked : ℕ → Node → Bool
  asked m n = eqb (number_in e n) x && (is_cornered n.region.class n.corner && bounds_in l.upper m n.region)

  is_number_lem : is_number y A x ≡ asked (few_clocks e k) (in_arrays u)
  unfolding is_number is_node alone
  is_number_lem =
      let h = sized y (few_clocks e k) x in
      let below : ltb u.location 16 ≡ true = lt-ltb u.location 16 (unfold node_of in mod-lt (x / 2 ^ y.location) {m = 16} (lit< tt)) in
      ap₂ ◌&&◌ (ap (λ (n : ℕ). eqb n x) (sym (own_number e k h)))
      (ap (λ (b : Bool). b && (eqb (length u.region.whole) (few_clocks e k) && (eqb (length u.region.class) (few_clocks e k)
      && (uses_each_rank u.region.class && (leb u.corner (largest u.region.class) && inside A u))))) below
      ∙ ap₂ (λ (a b : Bool). a && (b && (uses_each_rank u.region.class && (leb u.corner (largest u.region.class) && inside A u))))
      (eq-eqb _ _ h.wholes) (eq-eqb _ _ h.classes)
      ∙ regroup (uses_each_rank u.region.class) (leb u.corner (largest u.region.class)) (inside A u)
      ∙ ap₂ ◌&&◌ (sym same_cornered) (sym (same_inside e k blank_edge l h)))

  -- of the clocks and the node that the code has
  module _ (kk : ℕ) (n : Node) (few : kk ≡ few_clocks e k) (is : n ≡ node_in e kk x) where
    node : n ≡ in_arrays u
    node = is ∙ ap (λ (m : ℕ). node_in e m x) few

    abbrev own : Bool
    own = eqb (number_in e n) x

    abbrev corners : Bool
    corners = is_cornered n.region.class n.corner

    parts : is_number y A x ≡ asked kk n
    parts = is_number_lem ∙ sym (ap₂ asked few node)

    pub other_number : (number_in e n ≡ x → ⊥) → false ≡ is_number y A x
    other_number d = sym (parts ∙ ap (λ (b : Bool). b && (corners && bounds_in l.upper kk n.region)) (ne_eqb _ _ d))

    pub no_corner : corners ≡ false → false ≡ is_number y A x
    no_corner h = sym (parts ∙ ap (λ (b : Bool). own && (b && bounds_in l.upper kk n.region)) h ∙ no_more own)

    pub there : number_in e n ≡ x → corners ≡ true → bounds_in l.upper kk n.region ≡ is_number y A x
    there p r = sym (parts ∙ ap₂ (λ (a b : Bool). a && (b && bounds_in l.upper kk n.region)) (eq-eqb _ _ p) r)

-- the corner by the largest class: docs/PORT.md names these; no proof cites them
module _ (ks : List ℕ) (i g r : ℕ) (top : g ≡ largest ks) (ranked : r ≡ rank ks g) where
  ranks : rank ks (largest ks) ≡ r
  ranks = sym (ranked ∙ ap (rank ks) top)

  pub unused_rank : (r ≡ g → ⊥) → false ≡ is_cornered ks i
  unused_rank d = sym (ap (λ (b : Bool). b && leb i (largest ks)) (ne_eqb _ _ (λ q. d (sym ranks ∙ q ∙ sym top))))

  pub used_ranks : r ≡ g → leb i g ≡ is_cornered ks i
  used_ranks q = ap (leb i) top ∙ sym (ap (λ (b : Bool). b && leb i (largest ks)) (eq-eqb _ _ (ranks ∙ q ∙ top)))
