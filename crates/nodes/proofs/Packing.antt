-- A node's number is unpacked to the node, for every layout with room for its clocks.
use mathlib.Core.Path.{◌≡◌, refl, sym, ap, ap₂, ◌∙◌}
use mathlib.Core.List.{List, [], ◌∷◌}
use Prim.Native.Nat.{ℕ, suc, ◌+◌, ◌*◌, ◌-◌, ◌/◌, ◌%◌, ◌^◌, ◌≤◌, ◌<◌}
use native.Mathlib.Nat.{add-mul-div_left, add-mul-mod_self_left, div-eq_of_lt, mod-eq_of_lt, mul-le-mul_left, mul-suc, mul-add, mul_assoc, mul_comm, add-zero, zero-add, mul-one, suc_inj}
use native.Mathlib.Omega.{arith}
use lib.ListN.{length}
use lib.Pow.{pow-add, pow_pos}
use Rattle.automaton.specs.Nodes.{Node}
use Rattle.automaton.proofs.Lists.{Each, each_head, each_tail}
use Rattle.nodes.specs.Numbers.{Layout, class_at, whole_at, put, clocks_from, number, bits_of, list_from, node_of}

-- a digit above what is below it, and below what is above it
digit : (a P k B R : ℕ) → a < P → k < B → (a + P * (k + B * R)) / P % B ≡ k
digit a P k B R ha hk = ap (λ (z : ℕ). z % B)
    (add-mul-div_left a (k + B * R) {y = P} (omega arith) ∙ ap (λ (z : ℕ). z + (k + B * R)) (div-eq_of_lt ha) ∙ zero-add (k + B * R))
    ∙ add-mul-mod_self_left k B R ∙ mod-eq_of_lt hk

under : (a P Z M : ℕ) → a < P → Z < M → a + P * Z < P * M
under a P Z M ha h = omega (arith, mul-le-mul_left P h, mul-suc P Z)

module _ (y : Layout) where
  abbrev P : ℕ → ℕ
  P j = 2 ^ class_at y j

  abbrev B : ℕ
  B = 2 ^ y.bits

  whole_pow : (j : ℕ) → 2 ^ whole_at y j ≡ P j * B
  whole_pow j = pow-add 2 (class_at y j) y.bits

  class_suc : (j : ℕ) → class_at y (suc j) ≡ class_at y j + (y.bits + 4)
  class_suc j = omega (arith, mul-suc (y.bits + 4) j)

  P_suc : (j : ℕ) → P (suc j) ≡ P j * (B * 16)
  P_suc j = ap (λ (z : ℕ). 2 ^ z) (class_suc j) ∙ pow-add 2 (class_at y j) (y.bits + 4) ∙ ap (λ (z : ℕ). P j * z) (pow-add 2 y.bits 4)

  -- the rest of a number from the bits of clock j on
  abbrev Room : ℕ → List ℕ → Type 0
  Room j hs = class_at y j + (y.bits + 4) * length hs ≤ y.location

  room_tail : (j h : ℕ) (hs : List ℕ) → Room j (h ∷ hs) → Room (suc j) hs
  room_tail j h hs fit = omega (arith, class_suc j, mul-suc (y.bits + 4) (length hs))

  -- one clock, its class and its whole part
  one_clock : (j k h : ℕ) → k < B → h < 16 → put k y.bits (class_at y j) + put h 4 (whole_at y j) ≡ P j * (k + B * h)
  one_clock j k h bk bh = omega (
    arith,
    ap (λ (z : ℕ). z * P j) (mod-eq_of_lt bk),
    ap (λ (z : ℕ). z * 2 ^ whole_at y j) (mod-eq_of_lt bh),
    mul_comm k (P j),
    ap (λ (z : ℕ). h * z) (whole_pow j),
    mul_comm h (P j * B),
    mul_assoc (P j) B h,
    mul-add (P j) k (B * h),
  )

  -- and what is above it
  clock : (j k h R : ℕ) → k < B → h < 16
      → put k y.bits (class_at y j) + put h 4 (whole_at y j) + P (suc j) * R ≡ P j * (k + B * (h + 16 * R))
  clock j k h R bk bh = omega (
    arith,
    one_clock j k h bk bh,
    mul-add (P j) k (B * h),
    ap (λ (z : ℕ). z * R) (P_suc j),
    mul_assoc (P j) (B * 16) R,
    ap (λ (z : ℕ). P j * z) (mul_assoc B 16 R),
    mul-add (P j) k (B * (h + 16 * R)),
    ap (λ (z : ℕ). P j * z) (mul-add B h (16 * R)),
    mul-add (P j) (B * h) (B * (16 * R)),
  )

  record Tail (j l : ℕ) (hs ks : List ℕ) : Type 0 where
    rest : ℕ
    is : clocks_from y j hs ks + l * 2 ^ y.location ≡ P j * rest

  tail : (j l : ℕ) (hs ks : List ℕ) → length hs ≡ length ks → Room j hs → Each (λ h. h < 16) hs → Each (λ k. k < B) ks → Tail j l hs ks
  unfolding clocks_from
  tail j l [] ks e fit bh bk =
      let d : ℕ = y.location - class_at y j in
      let s : class_at y j + d ≡ y.location = omega arith in
      record {
        rest = 2 ^ d * l;
        is = zero-add (l * 2 ^ y.location) ∙ mul_comm l (2 ^ y.location)
            ∙ ap (λ (z : ℕ). z * l) (sym (ap (λ (z : ℕ). 2 ^ z) s) ∙ pow-add 2 (class_at y j) d) ∙ mul_assoc (P j) (2 ^ d) l;
      }
  tail j l (h ∷ hs) [] e fit bh bk = absurd (omega arith)
  tail j l (h ∷ hs) (k ∷ ks) e fit bh bk =
      let t : Tail (suc j) l hs ks = tail (suc j) l hs ks (suc_inj e) (room_tail j h hs fit) (each_tail bh) (each_tail bk) in
      record { rest = k + B * (h + 16 * t.rest); is = omega (arith, t.is, clock j k h t.rest (each_head bk) (each_head bh)) }

  -- what is below clock j, with it, is below the next clock
  below_next : (j a k h : ℕ) → a < P j → k < B → h < 16 → a + P j * (k + B * h) < P (suc j)
  below_next j a k h ha bk bh = rw (P_suc j) (under a (P j) (k + B * h) (B * 16) ha (under k B h 16 bk bh))

  -- the clocks are below the location's bits
  low : (j a : ℕ) (hs ks : List ℕ) → length hs ≡ length ks → Room j hs → Each (λ h. h < 16) hs → Each (λ k. k < B) ks → a < P j
      → a + clocks_from y j hs ks < 2 ^ y.location
  unfolding clocks_from
  low j a [] ks e fit bh bk ha =
      let d : ℕ = y.location - class_at y j in
      let s : class_at y j + d ≡ y.location = omega arith in
      let g : P j * 2 ^ d ≡ 2 ^ y.location = sym (pow-add 2 (class_at y j) d) ∙ ap (λ (z : ℕ). 2 ^ z) s in
      omega (arith, mul-le-mul_left (P j) (pow_pos d), mul-one (P j))
  low j a (h ∷ hs) [] e fit bh bk ha = absurd (omega arith)
  low j a (h ∷ hs) (k ∷ ks) e fit bh bk ha = omega (
    arith,
    one_clock j k h (each_head bk) (each_head bh),
    low (suc j) (a + P j * (k + B * h)) hs ks (suc_inj e) (room_tail j h hs fit) (each_tail bh) (each_tail bk)
        (below_next j a k h ha (each_head bk) (each_head bh)),
  )

  record Fields (j x : ℕ) (hs ks : List ℕ) : Type 0 where
    wholes : list_from (λ i. bits_of x 4 (whole_at y i)) j (length hs) ≡ hs
    classes : list_from (λ i. bits_of x y.bits (class_at y i)) j (length ks) ≡ ks

  fields : (j a l : ℕ) (hs ks : List ℕ) → length hs ≡ length ks → Room j hs → Each (λ h. h < 16) hs → Each (λ k. k < B) ks → a < P j
      → (x : ℕ) → x ≡ a + (clocks_from y j hs ks + l * 2 ^ y.location) → Fields j x hs ks
  unfolding clocks_from list_from
  fields j a l [] [] e fit bh bk ha x is = record { wholes = refl; classes = refl }
  fields j a l [] (k ∷ ks) e fit bh bk ha x is = absurd (omega arith)
  fields j a l (h ∷ hs) [] e fit bh bk ha x is = absurd (omega arith)
  fields j a l (h ∷ hs) (k ∷ ks) e fit bh bk ha x is = onto
      (fields (suc j) (a + P j * (k + B * h)) l hs ks (suc_inj e) (room_tail j h hs fit) (each_tail bh) (each_tail bk)
      (below_next j a k h ha (each_head bk) (each_head bh)) x (omega (arith, is, one_clock j k h (each_head bk) (each_head bh))))
    where
      t : Tail (suc j) l hs ks
      t = tail (suc j) l hs ks (suc_inj e) (room_tail j h hs fit) (each_tail bh) (each_tail bk)

      from_class : x ≡ a + P j * (k + B * (h + 16 * t.rest))
      from_class = omega (arith, is, t.is, clock j k h t.rest (each_head bk) (each_head bh))

      from_whole : x ≡ a + P j * k + P j * B * (h + 16 * t.rest)
      from_whole = omega (arith, from_class, mul-add (P j) k (B * (h + 16 * t.rest)), mul_assoc (P j) B (h + 16 * t.rest))

      onto : Fields (suc j) x hs ks → Fields j x (h ∷ hs) (k ∷ ks)
      onto more = record {
        wholes = ap₂ ◌∷◌ (ap (λ (z : ℕ). x / z % 16) (whole_pow j) ∙ ap (λ (z : ℕ). z / (P j * B) % 16) from_whole
            ∙ digit (a + P j * k) (P j * B) h 16 t.rest (under a (P j) k B ha (each_head bk)) (each_head bh)) more.wholes;
        classes = ap₂ ◌∷◌ (ap (λ (z : ℕ). z / P j % B) from_class ∙ digit a (P j) k B (h + 16 * t.rest) ha (each_head bk)) more.classes;
      }

  -- parts that have room in their bits
  pub record Fits (u : Node) : Type 0 where
    pub lengths : length u.region.whole ≡ length u.region.class
    pub clocks : class_at y (length u.region.whole) ≤ y.location
    pub wholes : Each (λ h. h < 16) u.region.whole
    pub classes : Each (λ k. k < 2 ^ y.bits) u.region.class
    pub corner : u.corner < 2 ^ y.bits
    pub location : u.location < 16

  pub unpacked : (u : Node) → Fits u → node_of y (length u.region.whole) (number y u) ≡ u
  unfolding node_of number
  unpacked u v = λ i. record {
    location = place i;
    region = record {
      whole = f.wholes i;
      class = (ap (list_from (λ i. bits_of x y.bits (class_at y i)) 0) v.lengths ∙ f.classes) i;
    };
    corner = turn i;
  }
    where
      x : ℕ
      x = put u.corner y.bits 0 + clocks_from y 0 u.region.whole u.region.class + put u.location 4 y.location

      P0 : P 0 ≡ B
      P0 = ap (λ (z : ℕ). 2 ^ z) (omega arith)

      room : Room 0 u.region.whole
      room = omega (arith, v.clocks)

      cornered : u.corner < P 0
      cornered = rw P0 v.corner

      is : x ≡ u.corner + (clocks_from y 0 u.region.whole u.region.class + u.location * 2 ^ y.location)
      is = omega (
        arith,
        mod-eq_of_lt v.corner,
        ap (λ (z : ℕ). z * 2 ^ y.location) (mod-eq_of_lt v.location),
      )

      f : Fields 0 x u.region.whole u.region.class
      f = fields 0 u.corner u.location u.region.whole u.region.class v.lengths room v.wholes v.classes cornered x is

      t : Tail 0 u.location u.region.whole u.region.class
      t = tail 0 u.location u.region.whole u.region.class v.lengths room v.wholes v.classes

      place : x / 2 ^ y.location % 16 ≡ u.location
      place = ap (λ (z : ℕ). z / 2 ^ y.location % 16)
          (omega (arith, is, mul_comm u.location (2 ^ y.location), ap (λ (z : ℕ). 2 ^ y.location * z) (add-zero u.location)))
          ∙ digit (u.corner + clocks_from y 0 u.region.whole u.region.class) (2 ^ y.location) u.location 16 0
          (low 0 u.corner u.region.whole u.region.class v.lengths room v.wholes v.classes cornered) v.location

      turn : x / 2 ^ 0 % B ≡ u.corner
      turn = ap (λ (z : ℕ). z / 1 % B) (omega (arith, is, t.is, ap (λ (z : ℕ). z * t.rest) P0))
          ∙ digit 0 1 u.corner B t.rest (omega arith) v.corner
