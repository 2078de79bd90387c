-- A decoded sheet means what its bytes mean, and a step needs no more of it than the records at hand.
use mathlib.Core.Path.{◌≡◌, refl, sym, ap, ◌∙◌, subst}
use mathlib.Core.Bool.{Bool, true, false, cond, ◌&&◌}
use mathlib.Core.List.{List}
use mathlib.Core.Option
use mathlib.Core.Option.{none, map}
use Prim.Native.Nat.{ℕ, ◌+◌, ◌/◌, ◌^◌, ◌≤◌, ◌<◌}
use native.Mathlib.Nat.{mod-lt}
use native.Mathlib.Omega.{arith}
use borrow.Author.Tests.{eqb-true, eq-eqb, lt-ltb, lt-leb}
use lib.Dec.{leb, ltb, eqb, lit<}
use lib.ListN.{length, get_or}
use Rattle.integers.proofs.Lists.{any_default}
use Rattle.automaton.specs.Automaton.{in_bounds, in_guards}
use Rattle.automaton.specs.Ranks.{largest}
use Rattle.automaton.specs.Nodes.{Node, uses_each_rank, inside, is_node}
use Rattle.automaton.specs.Steps.{edge_step, unit_step, move_step, step}
use Rattle.automaton.proofs.Codes.{step_edge}
use Rattle.automaton.proofs.Tests.{by_bool}
use Rattle.sheet.specs.Bytes.{byte_at}
use Rattle.sheet.specs.Maps.{stands}
use Rattle.sheet.specs.Fields.{bound_bit, lower_bit, upper_bit}
use Rattle.sheet.specs.Records.{field_at, record_at, edition_of, location_at, edge_at, locations_in, clocks_in, edges_in}
use Rattle.sheet.specs.Questions.{check_of}
use Rattle.sheet.specs.Decoded.{filled, clock_bytes, location_of, edge_of, blank_location, blank_edge, locations_of, edges_of, decoded_sheet, refused_sheet, read_of}
use Rattle.sheet.specs.declared.fields.Kind.{Kind}
use Rattle.sheet.specs.declared.fields.Kind.TheVariants.{LocationRecord, EdgeRecord}
use Rattle.sheet.specs.declared.Location.{Location}
use Rattle.sheet.specs.declared.Edge.{Edge}
use Rattle.sheet.specs.declared.Sheet.{Sheet}
use Rattle.sheet.proofs.AcceptedLaws.{header}
use Rattle.sheet.proofs.FieldLaws.{edition_clocks}
use Rattle.sheet.proofs.DecodeLaws.{filled_at, filled_length}
use Rattle.nodes.specs.Numbers.{Layout, number, node_of, is_number, step_by}
use Rattle.nodes.specs.Meaning.{meaning, layout_of}
use Rattle.nodes.specs.Decoded.{few_clocks, layout_in, guard_of, bound_in, lower_in, upper_in, location_in, edge_in, decoded_meaning, alone}
use Rattle.nodes.proofs.Carried.{named}
use Rattle.nodes.proofs.AgreeLaws.{Agree}
use Rattle.nodes.proofs.CheckedLaws.{guard_value}

pub clock_byte : (kind : Kind) (s : List ℕ) (at b d j : ℕ) → j < (edition_of s).clocks → Option.get_or (field_at kind s at (b + j)) d ≡ get_or (clock_bytes kind s at b d) j 0
unfolding clock_bytes
clock_byte kind s at b d j h =
    let f : ℕ → ℕ = λ i. Option.get_or (field_at kind s at (b + i)) d in
    let few = edition_clocks (byte_at s 0) in
    sym (filled_at f d 4 (edition_of s).clocks j few h)
    ∙ any_default (filled f d 4 (edition_of s).clocks) j d 0 (omega (arith, few, filled_length f d 4 (edition_of s).clocks))

-- the decoded sheet carries the refusal of the check
pub read_refusal : (bytes : List ℕ) → (read_of bytes).refusal ≡ check_of bytes
unfolding read_of
read_refusal bytes = by_bool (eqb (check_of bytes) 0)
    (λ t. ap (λ (b : Bool). (cond b (decoded_sheet bytes) (refused_sheet (check_of bytes))).refusal) t ∙ sym (eqb-true (check_of bytes) 0 t))
    (λ f. ap (λ (b : Bool). (cond b (decoded_sheet bytes) (refused_sheet (check_of bytes))).refusal) f)

pub read_passed : (s : List ℕ) → check_of s ≡ 0 → read_of s ≡ decoded_sheet s
unfolding read_of
read_passed s ok = ap (λ (t : Bool). cond t (decoded_sheet s) (refused_sheet (check_of s))) (eq-eqb (check_of s) 0 ok)

-- what was read has the layout of the bytes
pub read_layout : (s : List ℕ) → check_of s ≡ 0 → layout_in (read_of s) ≡ layout_of s
read_layout s ok = ap layout_in (read_passed s ok)

module _ (s : List ℕ) (ok : check_of s ≡ 0) where
  location_there : (l : ℕ) → l < locations_in s → location_in (decoded_sheet s) l ≡ location_of s (location_at s l)
  unfolding locations_of
  location_there l h = filled_at (λ i. location_of s (location_at s i)) blank_location 12 (locations_in s) l (header s ok).locations.1 h

  pub edge_there : (e : ℕ) → e < edges_in s → edge_in (decoded_sheet s) e ≡ edge_of s (edge_at s e)
  unfolding edges_of
  edge_there e h = filled_at (λ i. edge_of s (record_at EdgeRecord s (location_at s (locations_in s)) i)) blank_edge 32 (edges_in s) e (header s ok).edges h

  few : clocks_in s ≤ (edition_of s).clocks
  few = (header s ok).clocks.1

  decoded_agrees : Agree (meaning s) (decoded_meaning (decoded_sheet s))
  unfolding meaning decoded_meaning
  decoded_agrees = record {
    locations = refl;
    clocks = omega (arith, few);
    edges = refl;
    bound = λ l j h i. clock_byte LocationRecord s (location_at s l) bound_bit 0 j (omega (arith, few))
        ∙ sym (ap (λ (x : Location). bound_in x j) (location_there l h));
    cost_rate = λ l h. sym (ap (λ (x : Location). x.cost) (location_there l h));
    reward_rate = λ l h. sym (ap (λ (x : Location). x.reward) (location_there l h));
    source = λ e h. sym (ap (λ (x : Edge). x.source) (edge_there e h));
    target = λ e h. sym (ap (λ (x : Edge). x.target) (edge_there e h));
    lower = λ e j h i. clock_byte EdgeRecord s (edge_at s e) lower_bit 0 j (omega (arith, few)) ∙ sym (ap (λ (x : Edge). lower_in x j) (edge_there e h));
    upper = λ e j h i. guard_value s ok e j h i ∙ ap guard_of (clock_byte EdgeRecord s (edge_at s e) (upper_bit (edition_of s)) 255 j (omega (arith, few)))
        ∙ sym (ap (λ (x : Edge). upper_in x j) (edge_there e h));
    reset = λ e j h i. sym (ap (λ (x : Edge). stands x.reset j) (edge_there e h));
    cost = λ e h. sym (ap (λ (x : Edge). x.cost) (edge_there e h));
    reward = λ e h. sym (ap (λ (x : Edge). x.reward) (edge_there e h));
  }

  -- stepping what was read is stepping what the bytes mean
  pub read_agrees : Agree (meaning s) (decoded_meaning (read_of s))
  read_agrees = subst (λ (d : Sheet). Agree (meaning s) (decoded_meaning d)) (sym (read_passed s ok)) decoded_agrees

-- ---- the records at hand

module _ (s : Sheet) (u : Node) where
  edge_alone : (e : ℕ) → e < s.edges → edge_step (decoded_meaning s) u e ≡ edge_step (alone s.edition s.clocks (edge_in s e) (location_in s (edge_in s e).target)) u 0
  unfolding edge_step decoded_meaning alone in_bounds in_guards
  edge_alone e h = simp (lt-ltb e s.edges h)

  unit_alone : (e : Edge) → unit_step (decoded_meaning s) u ≡ unit_step (alone s.edition s.clocks e (location_in s u.location)) u
  unfolding unit_step decoded_meaning alone
  unit_alone e = refl

  move_alone : (e : Edge) → move_step (decoded_meaning s) u ≡ move_step (alone s.edition s.clocks e (location_in s u.location)) u
  unfolding move_step decoded_meaning alone in_bounds
  move_alone e = refl

-- and on numbers

module _ (y : Layout) (s : Sheet) (x : ℕ) where
  pub edge_alone_number : (e : ℕ) → e ≤ 31 → e < s.edges
      → step_by y (decoded_meaning s) x e ≡ step_by y (alone s.edition s.clocks (edge_in s e) (location_in s (edge_in s e).target)) x 0
  unfolding step_by step decoded_meaning alone
  edge_alone_number e h l =
      let u = node_of y (few_clocks s.edition s.clocks) x in
      ap (map (named (number y))) (step_edge (decoded_meaning s) u e h ∙ edge_alone s u e l)

  pub delay_alone_number : (e : Edge) (code : ℕ) → 31 < code
      → step_by y (decoded_meaning s) x code ≡ step_by y (alone s.edition s.clocks e (location_in s (node_of y (few_clocks s.edition s.clocks) x).location)) x code
  unfolding step_by step decoded_meaning alone
  delay_alone_number e code h =
      let u = node_of y (few_clocks s.edition s.clocks) x in
      let B = alone s.edition s.clocks e (location_in s u.location) in
      simp (lt-leb code 31 h) (λ i. map (named (number y))
      (cond (eqb code 32) (unit_alone s u e i) (cond (eqb code 33) (move_alone s u e i) none)))

  -- question 15: the location is one of the sheet's, and the rest by its record
  pub number_alone : (e : Edge) → is_number y (decoded_meaning s) x ≡ ltb (node_of y (few_clocks s.edition s.clocks) x).location s.locations
      && is_number y (alone s.edition s.clocks e (location_in s (node_of y (few_clocks s.edition s.clocks) x).location)) x
  unfolding is_number is_node decoded_meaning alone in_bounds
  number_alone e =
      let u = node_of y (few_clocks s.edition s.clocks) x in
      swap (eqb (number y u) x) (ltb u.location s.locations) (eqb (length u.region.whole) (few_clocks s.edition s.clocks)
      && (eqb (length u.region.class) (few_clocks s.edition s.clocks)
      && (uses_each_rank u.region.class && (leb u.corner (largest u.region.class) && inside (decoded_meaning s) u))))
      (lt-ltb u.location 16 (unfold node_of in mod-lt (x / 2 ^ y.location) {m = 16} (lit< tt)))
    where
      swap : (a b c : Bool) {d : Bool} → d ≡ true → a && (b && c) ≡ b && (a && (d && c))
      swap true true c h = ap (λ (d : Bool). d && c) (sym h)
      swap true false c h = refl
      swap false true c h = refl
      swap false false c h = refl
