-- The node of a number in arrays.
use mathlib.Core.Path.{◌≡◌, refl, sym, ap, ap₂, ◌∙◌, subst}
use mathlib.Core.Bool.{false}
use mathlib.Core.List.{List, map, zip_with}
use Prim.Native.Nat.{ℕ, zero, suc, ◌+◌, ◌/◌, ◌^◌, ◌≤◌, ◌<◌}
use native.Mathlib.Omega.{arith}
use borrow.Author.Tests.{ne_eqb}
use lib.Dec.{eqb}
use lib.ListN.{length, get_or, take, length-map}
use lib.Pow.{pow_pos}
use Rattle.automaton.specs.Bounds.{interval}
use Rattle.automaton.specs.Ranks.{rank, close_up, mask}
use Rattle.automaton.specs.Nodes as automaton
use Rattle.automaton.specs.Nodes.{intervals}
use Rattle.automaton.specs.Steps.{rise_to, carry_whole, carry_class}
use Rattle.automaton.proofs.Lists.{length-zip}
use Rattle.automaton.proofs.Ranks.{length_mask, length_close}
use Rattle.sheet.specs.Maps.{stands}
use Rattle.sheet.specs.Fields.{edition_at}
use Rattle.nodes.specs.Numbers.{Layout, layout_at, class_at, whole_at, put, clocks_from, number, bits_of, list_from, node_of}
use Rattle.nodes.specs.Decoded.{few_clocks}
use Rattle.region.specs.Arrays.{pad_to, in_arrays, from_arrays, node_in, number_in, intervals_in, after_edge, after_rise, after_carry}
use Rattle.region.specs.declared.Node.{Node}
use Rattle.region.proofs.BitLaws.{low_below}
use Rattle.sheet.proofs.FieldLaws.{edition_clocks}
use Rattle.nodes.proofs.LayoutLaws.{narrow}
use Rattle.region.proofs.PadLaws.{take_pad, take_fewer, pad_below, map_pad, mask_pad, rank_pad, close_pad, zip_pad, zip_front, clocks_pad}

-- ---- the parts of the node of a number

list_long : (f : ℕ → ℕ) (j n : ℕ) → length (list_from f j n) ≡ n
unfolding list_from
list_long f j zero = refl
list_long f j (suc n) = ap suc (list_long f (suc j) n)

list_below : (b : ℕ) → 0 < b → (f : ℕ → ℕ) → ((j : ℕ) → f j < b) → (j n i : ℕ) → get_or (list_from f j n) i 0 < b
unfolding list_from
list_below b z f h j zero i = z
list_below b z f h j (suc n) zero = h j
list_below b z f h j (suc n) (suc i) = list_below b z f h (suc j) n i

-- a node with a given number of clocks
pub record Sized (k : ℕ) (u : automaton.Node) : Type 0 where
  pub wholes : length u.region.whole ≡ k
  pub classes : length u.region.class ≡ k

pub sized : (y : Layout) (k x : ℕ) → Sized k (node_of y k x)
unfolding node_of
sized y k x = record {
  wholes = list_long (λ j. bits_of x 4 (whole_at y j)) 0 k;
  classes = list_long (λ j. bits_of x y.bits (class_at y j)) 0 k;
}

-- a list of parts of x, each in at most a given number of bits
parts_below : (x width most : ℕ) → width ≤ most → (at : ℕ → ℕ) (k j : ℕ)
    → get_or (pad_to 4 (list_from (λ i. bits_of x width (at i)) 0 k)) j 0 < 2 ^ most
parts_below x width most h at k = pad_below (2 ^ most) 4 (list_from (λ i. bits_of x width (at i)) 0 k) (pow_pos most)
    (list_below (2 ^ most) (pow_pos most) (λ i. bits_of x width (at i)) (λ i. low_below (x / 2 ^ at i) width most h) 0 k)

module _ (n : Node) (e k x : ℕ) (is : n ≡ node_in e k x) where
  pub corner_of : n.corner < 8
  unfolding node_of
  corner_of = subst (λ (m : Node). m.corner < 8) (sym is) (low_below (x / 2 ^ 0) (layout_at e).bits 3 (narrow e))

  pub class_of : (j : ℕ) → get_or n.region.class j 0 < 8
  unfolding node_of
  class_of j = subst (λ (m : Node). get_or m.region.class j 0 < 8) (sym is)
      (parts_below x (layout_at e).bits 3 (narrow e) (class_at (layout_at e)) k j)

  pub whole_of : (j : ℕ) → get_or n.region.whole j 0 < 16
  unfolding node_of
  whole_of j = subst (λ (m : Node). get_or m.region.whole j 0 < 16) (sym is) (parts_below x 4 4 (omega arith) (whole_at (layout_at e)) k j)

-- ---- what is done to the arrays is done to the node

module _ {k : ℕ} {u : automaton.Node} (h : Sized k u) where
  same_length : length u.region.whole ≡ length u.region.class
  same_length = h.wholes ∙ sym h.classes

  -- the clocks that the sheet does not have add nothing
  same_number : (y : Layout) (most : ℕ) → k ≤ most → most ≤ 4 → number y (from_arrays most (in_arrays u)) ≡ number y u
  unfolding number
  same_number y most l m = ap (λ (x : ℕ). put u.corner y.bits 0 + x + put u.location 4 y.location)
      (ap₂ (clocks_from y 0) (take_fewer most 4 u.region.whole m) (take_fewer most 4 u.region.class m)
      ∙ clocks_pad y most 0 u.region.whole u.region.class same_length (omega (arith, h.classes)))

  pub rise_sized : Sized k (rise_to u)
  rise_sized = record { wholes = h.wholes; classes = length-map u.region.class suc ∙ h.classes }

  module _ (target reset : ℕ) where
    abbrev edged : automaton.Node
    edged = record {
      location = target;
      region = record { whole = mask (stands reset) u.region.whole; class = close_up (mask (stands reset) u.region.class) };
      corner = rank (mask (stands reset) u.region.class) u.corner;
    }

    same_masked : length (mask (stands reset) u.region.class) ≡ k
    same_masked = length_mask (stands reset) u.region.class ∙ h.classes

    pub edge_sized : Sized k edged
    edge_sized = record {
      wholes = length_mask (stands reset) u.region.whole ∙ h.wholes;
      classes = length_close (mask (stands reset) u.region.class) ∙ same_masked;
    }

    pub edge_arrays : k ≤ 4 → after_edge (in_arrays u) target reset ≡ in_arrays edged
    edge_arrays few =
        let m = mask_pad (stands reset) 4 u.region.class in
        let n : length (mask (stands reset) u.region.class) ≤ 4 = omega (arith, same_masked) in
        λ i. record {
          location = target;
          region = record {
            whole = mask_pad (stands reset) 4 u.region.whole i;
            class = (ap close_up m ∙ close_pad 4 (mask (stands reset) u.region.class) n) i;
          };
          corner = (ap (λ (ks : List ℕ). rank ks u.corner) m ∙ rank_pad 4 (mask (stands reset) u.region.class) n u.corner) i;
        }

  module _ (g : ℕ) where
    abbrev carried : automaton.Node
    carried = record {
      location = u.location;
      region = record { whole = zip_with (carry_whole g) u.region.whole u.region.class; class = map (carry_class g) u.region.class };
      corner = u.corner;
    }

    pub carry_sized : Sized k carried
    carry_sized = record {
      wholes = length-zip (carry_whole g) u.region.whole u.region.class same_length ∙ h.wholes;
      classes = length-map u.region.class (carry_class g) ∙ h.classes;
    }

    -- the clocks that the sheet does not have are of class 0, and g is above it
    pub carry_arrays : 0 < g → after_carry g (in_arrays u) ≡ in_arrays carried
    carry_arrays above = let apart : eqb 0 g ≡ false = ne_eqb 0 g (λ e. omega arith) in λ i. record {
      location = u.location;
      region = record {
        whole = zip_pad (carry_whole g) (simp apart) 4 u.region.whole u.region.class same_length i;
        class = map_pad (carry_class g) (simp apart) 4 u.region.class i;
      };
      corner = u.corner;
    }

  module _ (few : k ≤ 4) where
    pub same_intervals : intervals_in k (in_arrays u).region ≡ intervals u.region
    same_intervals = ap (λ (n : ℕ). take n (zip_with interval (pad_to 4 u.region.whole) (pad_to 4 u.region.class))) (sym h.classes)
        ∙ zip_front interval 4 u.region.whole u.region.class same_length (omega (arith, h.classes))

    pub same_class : take k (in_arrays u).region.class ≡ u.region.class
    same_class = ap (λ (n : ℕ). take n (pad_to 4 u.region.class)) (sym h.classes) ∙ take_pad 4 u.region.class (omega (arith, h.classes))

    pub rise_arrays : after_rise k (in_arrays u) ≡ in_arrays (rise_to u)
    rise_arrays = ap (λ (ks : List ℕ). record {
      location = u.location;
      region = record { whole = pad_to 4 u.region.whole; class = pad_to 4 (map suc ks) };
      corner = suc u.corner;
    }) same_class

-- a sheet has no more clocks than its edition
pub own_number : (e k : ℕ) {u : automaton.Node} → Sized (few_clocks e k) u → number_in e (in_arrays u) ≡ number (layout_at e) u
own_number e k h = same_number h (layout_at e) (edition_at e).clocks (omega arith) (edition_clocks e)
