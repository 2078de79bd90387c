-- Delays by the tests of the location's record.
use mathlib.Core.Path.{◌≡◌, refl, sym, ap, ap₂, ◌∙◌}
use mathlib.Core.Bool.{Bool, true, false, cond, ◌&&◌, not}
use mathlib.Core.Option.{map}
use Prim.Native.Nat.{ℕ, ◌≤◌, ◌<◌}
use native.Mathlib.Omega.{arith}
use borrow.Author.Tests.{eq-eqb, ne_eqb, lt-ltb, le-ltb}
use lib.Dec.{ltb, eqb}
use lib.IntN.{ℤ, pos}
use lib.ListN.{take}
use Rattle.automaton.specs.Tests.{only, occurs}
use Rattle.automaton.specs.Automaton.{Automaton}
use Rattle.automaton.specs.Ranks.{largest}
use Rattle.automaton.specs.Priced.{free}
use Rattle.automaton.specs.Nodes as automaton
use Rattle.automaton.specs.Nodes.{inside, largest_class}
use Rattle.automaton.specs.Steps.{some_whole, unit_to, unit_step, rise_to, carry_to, move_step, step}
use Rattle.sheet.specs.Decoded.{blank_edge}
use Rattle.sheet.specs.declared.Location.{Location}
use Rattle.nodes.specs.Numbers.{Layout, layout_at, number, node_of, step_by}
use Rattle.nodes.specs.Decoded.{few_clocks, alone}
use Rattle.nodes.proofs.Carried.{named}
use Rattle.region.specs.Answers.{Stepped, refused_step, answered}
use Rattle.region.specs.Arrays.{in_arrays, node_in, number_in, bounds_in, after_rise, after_carry}
use Rattle.region.specs.declared.Node.{Node}
use Rattle.region.proofs.ClockLaws.{no_more}
use Rattle.region.proofs.PadLaws.{largest_pad}
use Rattle.nodes.proofs.LayoutLaws.{few_le}
use Rattle.region.proofs.NodeLaws.{Sized, sized, own_number, same_class, rise_arrays, rise_sized, carry_arrays, carry_sized}
use Rattle.region.proofs.EdgeLaws.{same_inside}

module _ (e k : ℕ) (l : Location) (x : ℕ) where
  abbrev y : Layout
  y = layout_at e

  abbrev A : Automaton
  A = alone e k blank_edge l

  abbrev u : automaton.Node
  u = node_of y (few_clocks e k) x

  clocks : Sized (few_clocks e k) u
  clocks = sized y (few_clocks e k) x

  same_whole : occurs 0 (take (few_clocks e k) (in_arrays u).region.class) ≡ some_whole u
  same_whole = ap (occurs 0) (same_class clocks (few_le e k))

  same_largest : largest (in_arrays u).region.class ≡ largest_class u
  same_largest = largest_pad 4 u.region.class (omega (arith, clocks.classes, few_le e k))

  -- ---- one unit

  unit_by : (b : Bool) → not (some_whole u) && eqb u.corner (largest_class u) ≡ b
      → answered 32 (only b (record { to = number y (unit_to u); cost = l.cost; reward = l.reward })) ≡ answered 32 (step_by y A x 32)
  unfolding step_by step unit_step alone
  unit_by true h = sym (ap (λ (b : Bool). answered 32 (map (named (number y)) (only b (record { to = unit_to u; cost = l.cost; reward = l.reward })))) h)
  unit_by false h = sym (ap (λ (b : Bool). answered 32 (map (named (number y)) (only b (record { to = unit_to u; cost = l.cost; reward = l.reward })))) h)

  unit_whole : occurs 0 (take (few_clocks e k) (in_arrays u).region.class) ≡ true → refused_step 16 ≡ answered 32 (step_by y A x 32)
  unit_whole h = unit_by false (ap (λ (b : Bool). not b && eqb u.corner (largest_class u)) (sym same_whole ∙ h))

  unit_early : (u.corner ≡ largest (in_arrays u).region.class → ⊥) → refused_step 16 ≡ answered 32 (step_by y A x 32)
  unit_early n = unit_by false (ap (λ (b : Bool). not (some_whole u) && b) (ne_eqb u.corner (largest_class u) (λ q. n (q ∙ sym same_largest)))
      ∙ no_more (not (some_whole u)))

  unit_taken : occurs 0 (take (few_clocks e k) (in_arrays u).region.class) ≡ false → u.corner ≡ largest (in_arrays u).region.class
      → ◌≡◌ {A = Stepped} (record { refusal = 0; number = number_in e (in_arrays (unit_to u)); cost = l.cost; reward = l.reward; units = 1 })
      (answered 32 (step_by y A x 32))
  unit_taken h q = ap (λ (n : ℕ). record { refusal = 0; number = n; cost = l.cost; reward = l.reward; units = 1 })
      (own_number e k (record { wholes = clocks.wholes; classes = clocks.classes }))
      ∙ unit_by true (ap₂ (λ (b c : Bool). not b && c) (sym same_whole ∙ h) (eq-eqb u.corner (largest_class u) (q ∙ same_largest)))

  -- ---- a region move

  move_by : (b : Bool) → some_whole u ≡ b
      → answered 33 (map (named (number y)) (cond b (only (inside A (rise_to u)) (free (rise_to u)))
      (only (ltb u.corner (largest_class u) && inside A (carry_to u)) (free (carry_to u))))) ≡ answered 33 (step_by y A x 33)
  unfolding step_by step move_step alone
  move_by b h = sym (ap (λ (b : Bool). answered 33 (map (named (number y)) (cond b (only (inside A (rise_to u)) (free (rise_to u)))
      (only (ltb u.corner (largest_class u) && inside A (carry_to u)) (free (carry_to u)))))) h)

  -- a free step to a node in arrays with this number of clocks
  abbrev lands : ℕ → Node → Stepped
  lands m n = answered 33 (only (bounds_in l.upper m n.region) (free (number_in e n)))

  -- the same, to the node v of these arrays
  landed : (v : automaton.Node) (n : Node) → Sized (few_clocks e k) v → n ≡ in_arrays v
      → lands (few_clocks e k) n ≡ answered 33 (map (named (number y)) (only (inside A v) (free v)))
  landed v n h q = ap (lands (few_clocks e k)) q
      ∙ ap₂ (λ (b : Bool) (m : ℕ). answered 33 (only b (free m))) (same_inside e k blank_edge l h) (own_number e k h)
      ∙ go (inside A v)
    where
      go : (b : Bool) → answered 33 (only b (free (number y v))) ≡ answered 33 (map (named (number y)) (only b (free v)))
      go true = refl
      go false = refl

  move_rises : occurs 0 (take (few_clocks e k) (in_arrays u).region.class) ≡ true
      → lands (few_clocks e k) (after_rise (few_clocks e k) (in_arrays u)) ≡ answered 33 (step_by y A x 33)
  move_rises h =
      landed (rise_to u) (after_rise (few_clocks e k) (in_arrays u)) (rise_sized clocks) (rise_arrays clocks (few_le e k))
      ∙ move_by true (sym same_whole ∙ h)

  move_carries : (g : ℕ) → g ≡ largest (in_arrays u).region.class → occurs 0 (take (few_clocks e k) (in_arrays u).region.class) ≡ false → u.corner < g
      → lands (few_clocks e k) (after_carry g (in_arrays u)) ≡ answered 33 (step_by y A x 33)
  move_carries g q h c =
      ap (λ (g : ℕ). lands (few_clocks e k) (after_carry g (in_arrays u))) (q ∙ same_largest)
      ∙ landed (carry_to u) (after_carry (largest_class u) (in_arrays u)) (carry_sized clocks (largest_class u))
      (carry_arrays clocks (largest_class u) (omega (arith, q, same_largest)))
      ∙ ap (λ (b : Bool). answered 33 (map (named (number y)) (only (b && inside A (carry_to u)) (free (carry_to u)))))
      (sym (lt-ltb u.corner (largest_class u) (omega (arith, q, same_largest))))
      ∙ move_by false (sym same_whole ∙ h)

  move_none : occurs 0 (take (few_clocks e k) (in_arrays u).region.class) ≡ false → largest (in_arrays u).region.class ≤ u.corner
      → refused_step 16 ≡ answered 33 (step_by y A x 33)
  move_none h c = ap (λ (b : Bool). answered 33 (map (named (number y)) (only (b && inside A (carry_to u)) (free (carry_to u)))))
      (sym (le-ltb u.corner (largest_class u) (omega (arith, same_largest))))
      ∙ move_by false (sym same_whole ∙ h)

  -- the same, of the clocks and the node that the code has
  module _ (kk : ℕ) (n : Node) (few : kk ≡ few_clocks e k) (is : n ≡ node_in e kk x) where
    node : n ≡ in_arrays u
    node = is ∙ ap (λ (m : ℕ). node_in e m x) few

    whole : {b : Bool} → occurs 0 (take kk n.region.class) ≡ b → occurs 0 (take (few_clocks e k) (in_arrays u).region.class) ≡ b
    whole h = sym (ap₂ (λ (m : ℕ) (n : Node). occurs 0 (take m n.region.class)) few node) ∙ h

    corner : n.corner ≡ u.corner
    corner = ap (λ (m : Node). m.corner) node

    top : largest n.region.class ≡ largest (in_arrays u).region.class
    top = ap (λ (m : Node). largest m.region.class) node

    pub some_whole_lem : occurs 0 (take kk n.region.class) ≡ true → refused_step 16 ≡ answered 32 (step_by y A x 32)
    some_whole_lem h = unit_whole (whole h)

    pub early : (n.corner ≡ largest n.region.class → ⊥) → refused_step 16 ≡ answered 32 (step_by y A x 32)
    early d = unit_early (λ q. d (corner ∙ q ∙ sym top))

    pub turned : (c : ℤ) → c ≡ l.cost → occurs 0 (take kk n.region.class) ≡ false → n.corner ≡ largest n.region.class
        → (z : ℕ) → z ≡ number_in e (record { location = n.location; region = n.region; corner = 0 })
        → ◌≡◌ {A = Stepped} (record { refusal = 0; number = z; cost = c; reward = l.reward; units = 1 }) (answered 32 (step_by y A x 32))
    turned c p h q z r = (λ i. record {
      refusal = 0;
      number = (r ∙ ap (λ (m : Node). number_in e (record { location = m.location; region = m.region; corner = 0 })) node) i;
      cost = p i;
      reward = l.reward;
      units = 1;
    })
        ∙ unit_taken (whole h) (sym corner ∙ q ∙ top)

    pub risen : (v : Node) → v ≡ after_rise kk n → occurs 0 (take kk n.region.class) ≡ true → (z : Stepped) → z ≡ lands kk v
        → z ≡ answered 33 (step_by y A x 33)
    risen v q h z r = r ∙ ap₂ lands few (q ∙ ap₂ after_rise few node) ∙ move_rises (whole h)

    pub carried : (g : ℕ) → g ≡ largest n.region.class → (v : Node) → v ≡ after_carry g n → occurs 0 (take kk n.region.class) ≡ false → n.corner < g
        → (z : Stepped) → z ≡ lands kk v → z ≡ answered 33 (step_by y A x 33)
    carried g t v q h c z r = r ∙ ap₂ lands few (q ∙ ap (after_carry g) node) ∙ move_carries g (t ∙ top) (whole h) (omega (arith, corner))

    pub stays : (g : ℕ) → g ≡ largest n.region.class → occurs 0 (take kk n.region.class) ≡ false → g ≤ n.corner
        → refused_step 16 ≡ answered 33 (step_by y A x 33)
    stays g r h c = move_none (whole h) (omega (arith, corner, top, r))

-- a free step to a node that lies within the bounds, or does not: docs/PORT.md names these; no proof cites them
pub free_yes : (b : Bool) (z m : ℕ) → b ≡ true → z ≡ m → ◌≡◌ {A = Stepped} (record { refusal = 0; number = z; cost = pos 0; reward = 0; units = 0 }) (answered 33 (only b (free m)))
free_yes b z m h q = (λ i. record { refusal = 0; number = q i; cost = pos 0; reward = 0; units = 0 }) ∙ sym (ap (λ (t : Bool). answered 33 (only t (free m))) h)

pub free_no : (b : Bool) (m : ℕ) → b ≡ false → refused_step 16 ≡ answered 33 (only b (free m))
free_no b m h = sym (ap (λ (t : Bool). answered 33 (only t (free m))) h)
