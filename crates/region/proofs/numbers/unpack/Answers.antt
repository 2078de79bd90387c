-- Part by part.
use mathlib.Core.Path.{◌≡◌, ◌∙◌, ap}
use Prim.Native.Nat.{ℕ, ◌+◌}
use native.Mathlib.Omega.{arith}
use Rattle.nodes.specs.Numbers.{layout_at, class_at, bits_of, list_from, node_of}
use Rattle.region.specs.Arrays.{node_in, pad_to}
use Rattle.region.specs.declared.Node.{Node}
use Rattle.region.proofs.NodeLaws.{corner_of, class_of, whole_of}
use Rattle.region.proofs.numbers.unpack.Given.{Over}
use Rattle.region.proofs.numbers.unpack.Goals as goal

no_more : (n : ℕ) → n + 0 ≡ n
no_more n = omega arith

made : (g : Over) (c : goal.After-bits-2 g) → ◌≡◌ {A = Node}
    (record { location = c.bits.result; region = record { whole = c.parts-whole.result; class = c.parts-class.result }; corner = c.bits-2.result })
    (node_in g.row.EDITION c.args.clocks c.args.x)
unfolding node_of
made g c =
    let x = c.args.x in
    let y = layout_at g.row.EDITION in
    let parts = λ (width offset : ℕ). pad_to 4 (list_from (λ j. bits_of x width (class_at y j + offset)) 0 c.args.clocks) in
    λ i. record {
      location = (c.bits.ensures ∙ ap (bits_of x 4) c.location_at.ensures.0) i;
      region = record {
        whole = (c.parts-whole.ensures ∙ ap (parts 4) c.class_bits-width.ensures.0) i;
        class = (c.parts-class.ensures ∙ ap (λ (w : ℕ). parts w 0) c.class_bits-width.ensures.0
            ∙ (λ k. pad_to 4 (list_from (λ j. bits_of x y.bits (no_more (class_at y j) k)) 0 c.args.clocks))) i;
      };
      corner = (c.bits-2.ensures ∙ ap (λ (w : ℕ). bits_of x w 0) c.class_bits-width.ensures.0) i;
    }

pub invariant_of-result : goal.invariant_of-result
invariant_of-result g c = record {
  corner_low = corner_of _ g.row.EDITION c.args.clocks c.args.x (made g c);
  classes_low = class_of _ g.row.EDITION c.args.clocks c.args.x (made g c);
  wholes_low = whole_of _ g.row.EDITION c.args.clocks c.args.x (made g c);
}

pub returns : goal.returns
returns g c = made g c.before
