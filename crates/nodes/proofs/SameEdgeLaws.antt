-- Edge records that pass their questions are the same bytes if and only if they are read as the same edge.
use mathlib.Core.Path.{◌≡◌, refl, sym, ap, subst, ◌∙◌}
use mathlib.Core.Bool.{Bool, true, false, cond}
use mathlib.Core.List.{List}
use mathlib.Core.Option
use mathlib.Core.Option.{Option, none, some}
use Prim.Native.Nat.{ℕ, ◌+◌, ◌-◌, ◌≤◌, ◌<◌}
use native.Mathlib.Nat.{add-sub_of_le}
use native.Mathlib.Omega.{arith}
use borrow.Author.Tests.{ltb-true, leb-true, eqb-true}
use lib.Dec.{leb, ltb, eqb}
use lib.IntN.{pos, negsuc}
use lib.ListN.{get_or}
use mir.Syntax.{w16}
use mir.Val.{of_z}
use Rattle.automaton.proofs.Tests.{by_bool, clash, &&-left, &&-right}
use Rattle.sheet.specs.Bytes.{byte_at, word_at, signed_of}
use Rattle.sheet.specs.Maps.{stands, place_of}
use Rattle.sheet.specs.Fields.{Edition, lower_bit, upper_bit, of_clock, field_of, cost_in_range, in_range}
use Rattle.sheet.specs.Records.{field_place, value_at, field_at, record_length, edition_of}
use Rattle.sheet.specs.Questions.{where_there, field_good, edge_refusal, same_record}
use Rattle.sheet.specs.Decoded.{clock_bytes, edge_of}
use Rattle.sheet.specs.declared.fields.Kind.TheVariants.{EdgeRecord}
use Rattle.sheet.specs.declared.fields.Field.{Field}
use Rattle.sheet.specs.declared.fields.Field.TheVariants.{Cost, Reward, Reset, Lower, Upper, Unused}
use Rattle.sheet.specs.declared.Edge.{Edge}
use Rattle.sheet.proofs.FieldLaws.{edition_clocks}
use Rattle.sheet.proofs.DecodeLaws.{filled_same}
use Rattle.sheet.proofs.AlikeLaws.{Alike, part, join, one_more, all_alike, alike_all}
use Rattle.nodes.specs.SameEdges.{OfBytes}
use Rattle.nodes.proofs.CheckedLaws.{edge_good}
use Rattle.nodes.proofs.DecodedLaws.{clock_byte}
use Rattle.nodes.proofs.RecordBytes.{field_from, alike_word, word_alike, alike_fields, fields_alike, map_told}

-- ---- records of the same bytes are read as the same edge

module _ (s : List ℕ) (x y : ℕ) where
  module _ (same : same_record s x y ≡ true) where
    -- the map, the source and the target are always there
    same_head : Alike s x y 4
    unfolding record_length
    same_head i l = all_alike s x y same i (omega arith)

    same_field : (b : ℕ) → b < 16 → field_at EdgeRecord s x b ≡ field_at EdgeRecord s y b
    unfolding field_at field_place record_length
    same_field b l =
        alike_fields s (x + 4) (y + 4) (word_at s x) 16
        (part s x y (record_length EdgeRecord s x) 4 (place_of (word_at s x) 16) (all_alike s x y same) (omega arith)) b l
        ∙ ap (λ (m : ℕ). field_from s (y + 4) m b) (alike_word s x y (λ i l. same_head i (omega arith)))

    same_clocks : (b d : ℕ) → b + 4 ≤ 16 → clock_bytes EdgeRecord s x b d ≡ clock_bytes EdgeRecord s y b d
    unfolding clock_bytes
    same_clocks b d l = filled_same _ _ d 4 (edition_of s).clocks (λ j h. ap (λ (o : Option ℕ). Option.get_or o d) (same_field (b + j) (omega (arith, edition_clocks (byte_at s 0)))))

    pub same_edge : edge_of s x ≡ edge_of s y
    same_edge = λ i. record {
      source = same_head 2 (omega arith) i;
      target = same_head 3 (omega arith) i;
      cost = signed_of (Option.get_or (same_field 0 (omega arith) i) 0);
      reward = Option.get_or (same_field 1 (omega arith) i) 0;
      reset = Option.get_or (same_field 2 (omega arith) i) 0;
      lower = same_clocks lower_bit 0 (omega arith) i;
      upper = same_clocks (upper_bit (edition_of s)) 255 (omega (arith, edition_clocks (byte_at s 0))) i;
    }

-- ---- each bit of an edge's map, by its field

pick : (P : Field → Type 0) (t : Bool) (f g : Field) → (t ≡ true → P f) → (t ≡ false → P g) → P (cond t f g)
pick P true f g a b = a refl
pick P false f g a b = b refl

module _ (y : Edition) (P : ℕ → Field → Type 0) where
  of_clock_lem : (f : ℕ → Field) (from : ℕ) → ((j : ℕ) → j < y.clocks → P (from + j) (f j)) → (b : ℕ) → of_clock y from b ≡ true → P b (f (b - from))
  of_clock_lem f from h b t =
      let l : from ≤ b = leb-true from b (&&-left (leb from b) (ltb b (from + y.clocks)) t) in
      let u : b < from + y.clocks = ltb-true b (from + y.clocks) (&&-right (leb from b) (ltb b (from + y.clocks)) t) in
      subst (λ (i : ℕ). P i (f (b - from))) (add-sub_of_le l) (h (b - from) (omega arith))

  by_field : P 0 Cost → P 1 Reward → P 2 Reset
      → ((j : ℕ) → j < y.clocks → P (lower_bit + j) (Lower j)) → ((j : ℕ) → j < y.clocks → P (upper_bit y + j) (Upper j))
      → ((b : ℕ) → P b Unused) → (b : ℕ) → P b (field_of y EdgeRecord b)
  unfolding field_of
  by_field cost reward reset lower upper unused b =
      pick (P b) (eqb b 0) Cost _ (λ t. subst (λ (i : ℕ). P i Cost) (sym (eqb-true b 0 t)) cost) (λ n.
      pick (P b) (eqb b 1) Reward _ (λ t. subst (λ (i : ℕ). P i Reward) (sym (eqb-true b 1 t)) reward) (λ n.
      pick (P b) (eqb b 2) Reset _ (λ t. subst (λ (i : ℕ). P i Reset) (sym (eqb-true b 2 t)) reset) (λ n.
      pick (P b) (of_clock y lower_bit b) (Lower (b - lower_bit)) _ (of_clock_lem Lower lower_bit lower b) (λ n.
      pick (P b) (of_clock y (upper_bit y) b) (Upper (b - upper_bit y)) Unused (of_clock_lem Upper (upper_bit y) upper b) (λ n. unused b)))))

-- ---- records that pass their questions and are read as the same edge are the same bytes

-- a field that passes is told by what is read of it, where the value that stands for an absent one does not pass
told : (p : ℕ → Bool) (d : ℕ) → p d ≡ false → (o q : Option ℕ) → Option.get_or o d ≡ Option.get_or q d → where_there p o ≡ true → where_there p q ≡ true → o ≡ q
told p d n none none e f g = refl
told p d n none (some v) e f g = clash g (ap p (sym e) ∙ n)
told p d n (some u) none e f g = clash f (ap p e ∙ n)
told p d n (some u) (some v) e f g = ap some e

none_passes : (o q : Option ℕ) → where_there (λ v. false) o ≡ true → where_there (λ v. false) q ≡ true → o ≡ q
none_passes none none f g = refl
none_passes none (some v) f g = clash g refl
none_passes (some u) q f g = clash f refl

-- a word is told by its signed reading
word_told : (u : ℕ) → u < 65536 → of_z w16 (signed_of u) ≡ u
unfolding signed_of
word_told u h = by_bool (ltb u 32768)
    (λ t. ap (λ (b : Bool). of_z w16 (cond b (pos u) (negsuc (65535 - u)))) t)
    (λ t. ap (λ (b : Bool). of_z w16 (cond b (pos u) (negsuc (65535 - u)))) t ∙ omega arith)

word_or_zero : (t : Bool) (v : ℕ) → v < 65536 → Option.get_or (cond t (some v) none) 0 < 65536
word_or_zero true v h = h
word_or_zero false v h = omega arith

module _ (s : List ℕ) (ok : OfBytes s) where
  word_small : (p : ℕ) → word_at s p < 65536
  word_small p = omega (arith, ok p, ok (p + 1))

  cost_told : (x : ℕ) → of_z w16 (edge_of s x).cost ≡ Option.get_or (field_at EdgeRecord s x 0) 0
  unfolding field_at value_at
  cost_told x = word_told (Option.get_or (field_at EdgeRecord s x 0) 0)
      (word_or_zero (stands (word_at s x) 0) (word_at s (field_place EdgeRecord s x 0)) (word_small (field_place EdgeRecord s x 0)))

  module _ (k x y : ℕ) (e : edge_of s x ≡ edge_of s y) where
    abbrev Told : ℕ → Field → Type 0
    Told b f = where_there (in_range k f) (field_at EdgeRecord s x b) ≡ true → where_there (in_range k f) (field_at EdgeRecord s y b) ≡ true
        → field_at EdgeRecord s x b ≡ field_at EdgeRecord s y b

    by_read : (b d : ℕ) (f : Field) → in_range k f d ≡ false → Option.get_or (field_at EdgeRecord s x b) d ≡ Option.get_or (field_at EdgeRecord s y b) d → Told b f
    by_read b d f n = told (in_range k f) d n (field_at EdgeRecord s x b) (field_at EdgeRecord s y b)

    clock_told : (b d : ℕ) → clock_bytes EdgeRecord s x b d ≡ clock_bytes EdgeRecord s y b d → (j : ℕ) → j < (edition_of s).clocks
        → Option.get_or (field_at EdgeRecord s x (b + j)) d ≡ Option.get_or (field_at EdgeRecord s y (b + j)) d
    clock_told b d h j l = clock_byte EdgeRecord s x b d j l ∙ ap (λ (c : List ℕ). get_or c j 0) h ∙ sym (clock_byte EdgeRecord s y b d j l)

    field_told : (b : ℕ) → Told b (field_of (edition_of s) EdgeRecord b)
    unfolding in_range cost_in_range signed_of
    field_told = by_field (edition_of s) Told
        (by_read 0 0 Cost refl (sym (cost_told x) ∙ ap (λ (z : Edge). of_z w16 z.cost) e ∙ cost_told y))
        (by_read 1 0 Reward refl (ap (λ (z : Edge). z.reward) e))
        (by_read 2 0 Reset refl (ap (λ (z : Edge). z.reset) e))
        (λ j h. by_read (lower_bit + j) 0 (Lower j) refl (clock_told lower_bit 0 (ap (λ (z : Edge). z.lower) e) j h))
        (λ j h. by_read (upper_bit (edition_of s) + j) 255 (Upper j) refl (clock_told (upper_bit (edition_of s)) 255 (ap (λ (z : Edge). z.upper) e) j h))
        (λ b. none_passes (field_at EdgeRecord s x b) (field_at EdgeRecord s y b))

  pub same_bytes : (k l x y : ℕ) → edge_refusal k l s x ≡ 0 → edge_refusal k l s y ≡ 0 → edge_of s x ≡ edge_of s y → same_record s x y ≡ true
  unfolding field_good field_at field_place record_length
  same_bytes k l x y f g e = alike_all s x y (ap (λ (m : ℕ). 4 + place_of m 16) map)
      (join s x y 4 (place_of (word_at s x) 16)
      (one_more s x y 3 (one_more s x y 2 (word_alike s x y ok map) (ap (λ (z : Edge). z.source) e)) (ap (λ (z : Edge). z.target) e))
      (fields_alike s (x + 4) (y + 4) (word_at s x) ok 16 (λ b h. field b h ∙ ap (λ (m : ℕ). field_from s (y + 4) m b) (sym map))))
    where
      field : (b : ℕ) → b < 16 → field_at EdgeRecord s x b ≡ field_at EdgeRecord s y b
      field b h = field_told k x y e b (edge_good k l s x f b h) (edge_good k l s y g b h)

      map : word_at s x ≡ word_at s y
      map = map_told s (x + 4) (y + 4) (word_at s x) (word_at s y) 16 (word_small x) (word_small y) field
