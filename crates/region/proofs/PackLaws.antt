-- A number packed clock by clock, for any layout.
use mathlib.Core.Path.{◌≡◌, ap}
use mathlib.Core.List.{List, [], ◌∷◌}
use Prim.Native.Nat.{ℕ, zero, suc, ◌+◌, ◌*◌, ◌%◌, ◌^◌, ◌<◌}
use native.Mathlib.Nat.{mod-lt, mul-le-mul_left, mul_comm, mul-suc}
use native.Mathlib.Numerals.{add-one}
use native.Mathlib.Omega.{arith}
use lib.ListN.{length, get_or, take}
use lib.Pow.{pow-add, pow_pos}
use Rattle.nodes.specs.Numbers.{Layout, class_at, whole_at, put, clocks_from, number}
use Rattle.region.specs.Arrays.{from_arrays}
use Rattle.region.specs.declared.Node.{Node}

-- what is below a part, with it, is below what comes behind it
part_fits : (x v width at : ℕ) → x < 2 ^ at → x + put v width at < 2 ^ (at + width)
part_fits x v width at h = omega (
  arith,
  mul-le-mul_left (2 ^ at) (mod-lt v (pow_pos width)),
  mul-suc (2 ^ at) (v % 2 ^ width),
  mul_comm (2 ^ at) (v % 2 ^ width),
  pow-add 2 at width,
)

module _ (y : Layout) where
  -- the clocks up to j, where m is the number of clock j
  clocks_more : (i j m : ℕ) (hs ks : List ℕ) → m ≡ i + j → j < length hs → j < length ks
      → clocks_from y i (take (suc j) hs) (take (suc j) ks)
      ≡ clocks_from y i (take j hs) (take j ks) + (put (get_or ks j 0) y.bits (class_at y m) + put (get_or hs j 0) 4 (whole_at y m))
  unfolding clocks_from
  clocks_more i j m [] ks e h k = absurd (omega arith)
  clocks_more i j m (x ∷ hs) [] e h k = absurd (omega arith)
  clocks_more i zero m (x ∷ hs) (z ∷ ks) e h k =
      let q : m ≡ i = omega arith in
      rw q (omega arith)
  clocks_more i (suc j) m (x ∷ hs) (z ∷ ks) e h k =
      let ih = clocks_more (suc i) j m hs ks (omega arith) (omega arith) (omega arith) in
      omega (arith, ih)

  -- x has the corner and the clocks below j
  pub record Packed (n : Node) (j x : ℕ) : Type 0 where
    pub is : x ≡ put n.corner y.bits 0 + clocks_from y 0 (take j n.region.whole) (take j n.region.class)
    pub below : x < 2 ^ class_at y j

  pub packed_none : (n : Node) (x : ℕ) → x ≡ put n.corner y.bits 0 → Packed n 0 x
  unfolding clocks_from
  packed_none n x e = record {
    is = omega (arith, e);
    below = let q : class_at y 0 ≡ 0 + y.bits = omega arith in rw q (omega (arith, e, part_fits 0 n.corner y.bits 0 (omega arith)));
  }

  -- with the class of clock j, its whole part behind it
  pub class_fits : (n : Node) (j x : ℕ) → Packed n j x → x + put (get_or n.region.class j 0) y.bits (class_at y j) < 2 ^ whole_at y j
  class_fits n j x p = part_fits x (get_or n.region.class j 0) y.bits (class_at y j) p.below

  pub packed_more : (n : Node) (j x : ℕ) → j < length n.region.whole → j < length n.region.class → Packed n j x
      → Packed n (j + 1) (x + put (get_or n.region.class j 0) y.bits (class_at y j) + put (get_or n.region.whole j 0) 4 (whole_at y j))
  packed_more n j x h k p =
      let K = get_or n.region.class j 0 in
      let H = get_or n.region.whole j 0 in
      let q : class_at y (j + 1) ≡ whole_at y j + 4 = omega (arith, mul-suc (y.bits + 4) j, ap (λ (i : ℕ). (y.bits + 4) * i) (add-one j)) in
      let s : j + 1 ≡ suc j = add-one j in
      record {
        is = rw s (omega (arith, p.is, clocks_more 0 j j n.region.whole n.region.class (omega arith) h k));
        below = rw q (part_fits (x + put K y.bits (class_at y j)) H 4 (whole_at y j) (class_fits n j x p));
      }

  -- the clocks are below the location
  pub packed_all : (n : Node) (k x : ℕ) → Packed n k x → x + put n.location 4 y.location ≡ number y (from_arrays k n)
  unfolding number
  packed_all n k x p = omega (arith, p.is)
