-- A sheet that passes the check means an automaton that is sound, whose nodes have room in its edition's numbers, and whose prices are small.
use mathlib.Core.Path.{◌≡◌, refl, subst}
use mathlib.Core.Bool.{Bool, true, ◌&&◌, not}
use mathlib.Core.List.{List, zip_with}
use mathlib.Core.Option.{Option, none, some, get_or}
use Prim.Native.Nat.{ℕ, zero, suc, ◌+◌, ◌-◌, ◌≤◌, ◌<◌}
use native.Mathlib.Omega.{arith}
use borrow.Author.Tests.{ltb-true, leb-true, lt-ltb, ne_eqb}
use lib.Dec.{leb, ltb, eqb}
use lib.IntN.{ℤ, nat_abs}
use lib.ListN.{length, replicate}
use Rattle.automaton.specs.Tests.{every}
use Rattle.automaton.specs.Bounds.{interval, upper_holds}
use Rattle.automaton.specs.Automaton.{in_bounds}
use Rattle.automaton.specs.Nodes.{start_node, Sound}
use Rattle.automaton.proofs.Tests.{&&-right, &&-intro}
use Rattle.sheet.specs.Bytes.{byte_at, signed_of}
use Rattle.sheet.specs.Fields.{Edition, bound_bit, upper_bit, cost_in_range, in_range, field_of}
use Rattle.sheet.specs.Records.{field_at, bound_at, record_at, edition_of, location_at, edge_at, locations_in, clocks_in, edges_in}
use Rattle.sheet.specs.Questions.{or_else, each, first_of, where_there, field_good, map_refusal, fields_refusal, bounds_refusal, ends_refusal, location_refusal, edge_refusal, distinct_refusal, start_refusal}
use Rattle.sheet.specs.Questions.{rest_refusal, records_refusal, check_of}
use Rattle.sheet.specs.declared.fields.Kind.{Kind}
use Rattle.sheet.specs.declared.fields.Kind.TheVariants.{LocationRecord, EdgeRecord}
use Rattle.sheet.specs.declared.fields.Field.TheVariants.{Upper}
use Rattle.sheet.proofs.FieldLaws.{bounds, edition_clocks, location_upper, edge_upper}
use Rattle.sheet.proofs.QuestionLaws.{each_at}
use Rattle.sheet.proofs.AcceptedLaws.{ask_yes, ask_rest, Header, header}
use Rattle.nodes.specs.Meaning.{meaning, layout_of}
use Rattle.nodes.specs.Decoded.{guard_of}
use Rattle.nodes.proofs.QuestionLaws.{or_left, or_right, first_at, or_absent}
use Rattle.nodes.proofs.NumberLaws.{Room}
use Rattle.nodes.proofs.LayoutLaws.{room_for}

-- ---- the records

pub record Parts (s : List ℕ) : Type 0 where
  pub locations : (i : ℕ) → i < locations_in s → location_refusal (clocks_in s) s (location_at s i) ≡ 0
  pub edges : (e : ℕ) → e < edges_in s → edge_refusal (clocks_in s) (locations_in s) s (edge_at s e) ≡ 0
  pub distinct : distinct_refusal (edges_in s) s (location_at s (locations_in s)) ≡ 0
  pub start : start_refusal (clocks_in s) s ≡ 0

pub parts : (s : List ℕ) → records_refusal (clocks_in s) (locations_in s) (edges_in s) s ≡ 0 → Parts s
unfolding records_refusal rest_refusal
parts s h = record {
  locations = first_at (locations_in s) of_location (or_left (first_of (locations_in s) of_location) _ h);
  edges = first_at (edges_in s) of_edge (or_left (first_of (edges_in s) of_edge) _ (or_right (first_of (locations_in s) of_location) _ h));
  distinct = or_left distinct (start_refusal (clocks_in s) s) after_10;
  start = or_right distinct (start_refusal (clocks_in s) s) after_10;
}
  where
    distinct : ℕ
    distinct = distinct_refusal (edges_in s) s (location_at s (locations_in s))

    of_location : ℕ → ℕ
    of_location i = location_refusal (clocks_in s) s (location_at s i)

    of_edge : ℕ → ℕ
    of_edge e = edge_refusal (clocks_in s) (locations_in s) s (edge_at s e)

    after_10 : or_else distinct (start_refusal (clocks_in s) s) ≡ 0
    after_10 = ask_rest 9 (eqb (edge_at s (edges_in s)) (length s)) (or_else distinct (start_refusal (clocks_in s) s))
        (or_right (first_of (edges_in s) of_edge) _ (or_right (first_of (locations_in s) of_location) _ h))

-- ---- the fields of a record

fields_good : (kind : Kind) (k : ℕ) (s : List ℕ) (at : ℕ) → fields_refusal kind k s at ≡ 0 → (b : ℕ) → b < 16 → field_good kind k s at b ≡ true
unfolding fields_refusal
fields_good kind k s at h = each_at 16 (field_good kind k s at) (ask_yes 7 (each 16 (field_good kind k s at)) 0 h)

location_good : (k : ℕ) (s : List ℕ) (at : ℕ) → location_refusal k s at ≡ 0 → (b : ℕ) → b < 16 → field_good LocationRecord k s at b ≡ true
unfolding location_refusal
location_good k s at h = fields_good LocationRecord k s at (or_right (bounds_refusal k s at) _ (or_right (map_refusal LocationRecord k s at) _ h))

pub edge_good : (k l : ℕ) (s : List ℕ) (at : ℕ) → edge_refusal k l s at ≡ 0 → (b : ℕ) → b < 16 → field_good EdgeRecord k s at b ≡ true
unfolding edge_refusal
edge_good k l s at h = fields_good EdgeRecord k s at (or_left (fields_refusal EdgeRecord k s at) _ (or_right (map_refusal EdgeRecord k s at) _ h))

edge_ends : (k l : ℕ) (s : List ℕ) (at : ℕ) → edge_refusal k l s at ≡ 0 → byte_at s (at + 3) < l
unfolding edge_refusal ends_refusal
edge_ends k l s at h =
    let ends = ltb (byte_at s (at + 2)) l && ltb (byte_at s (at + 3)) l in
    ltb-true (byte_at s (at + 3)) l (&&-right (ltb (byte_at s (at + 2)) l) (ltb (byte_at s (at + 3)) l)
    (ask_yes 8 ends 0 (or_right (fields_refusal EdgeRecord k s at) _ (or_right (map_refusal EdgeRecord k s at) _ h))))

module _ (kind : Kind) (k : ℕ) (s : List ℕ) (at : ℕ) where
  -- a field of bit b whose range keeps v in P, and what stands for an absent one
  field_value : {P : ℕ → Type 0} (b d : ℕ) → field_good kind k s at b ≡ true → ((v : ℕ) → in_range k (field_of (edition_of s) kind b) v ≡ true → P v) → P d
      → P (get_or (field_at kind s at b) d)
  unfolding field_good
  field_value b d h f z = or_absent (in_range k (field_of (edition_of s) kind b)) (field_at kind s at b) d h f z

  -- an upper byte is at most 25
  upper_value : (P : ℕ → Type 0) (b d j : ℕ) → field_good kind k s at b ≡ true → field_of (edition_of s) kind b ≡ Upper j → ((v : ℕ) → v ≤ 25 → P v) → P d
      → P (get_or (field_at kind s at b) d)
  unfolding in_range
  upper_value P b d j h e f z = field_value b d h (λ v i. f v (bounds v 0 25 (subst (λ y. in_range k y v ≡ true) e i)).1) z

-- "Costs are −10,000 to 10,000, rewards 0 to 10,000."
abs_cost : (z : ℤ) → cost_in_range z ≡ true → nat_abs z ≤ 10000
unfolding cost_in_range
abs_cost z h = leb-true (nat_abs z) 10000 (&&-right (not (eqb (nat_abs z) 0)) (leb (nat_abs z) 10000) h)

cost_of_lem : (y : Edition) (kind : Kind) (k v : ℕ) → in_range k (field_of y kind 0) v ≡ true → nat_abs (signed_of v) ≤ 10000
unfolding in_range field_of
cost_of_lem y LocationRecord k v h = abs_cost (signed_of v) h
cost_of_lem y EdgeRecord k v h = abs_cost (signed_of v) h

reward_of_lem : (y : Edition) (kind : Kind) (k v : ℕ) → in_range k (field_of y kind 1) v ≡ true → v ≤ 10000
unfolding in_range field_of
reward_of_lem y LocationRecord k v h = (bounds v 1 10000 h).1
reward_of_lem y EdgeRecord k v h = (bounds v 1 10000 h).1

no_cost : nat_abs (signed_of 0) ≤ 10000
unfolding signed_of
no_cost = omega arith

-- ---- location 0 admits all clocks at 0

zeros_inside : (f : ℕ → ℕ) (n : ℕ) → ((i : ℕ) → i < n → 0 < f i) → every (λ j. upper_holds (f j)) (zip_with interval (replicate n 0) (replicate n 0)) ≡ true
unfolding every zip_with
zeros_inside f zero h = refl
zeros_inside f (suc n) h = &&-intro (lt-ltb 0 (f 0) (h 0 (omega arith))) (zeros_inside (λ j. f (suc j)) n (λ i l. h (suc i) (omega arith)))

start_bounds : (k : ℕ) (s : List ℕ) → start_refusal k s ≡ 0 → (j : ℕ) → j < k → 0 < bound_at s 4 j
unfolding start_refusal
start_bounds k s h j l =
    ltb-true 0 (bound_at s 4 j) (each_at k (λ j. ltb 0 (bound_at s 4 j)) (ask_yes 10 (each k (λ j. ltb 0 (bound_at s 4 j))) 0 h) j l)

-- an absent upper guard is told by 255, which none that stands reaches
told_absent : (p : ℕ → Bool) (o : Option ℕ) → where_there p o ≡ true → ((v : ℕ) → p v ≡ true → v ≤ 25) → o ≡ guard_of (get_or o 255)
told_absent p none h f = refl
told_absent p (some v) h f = let k = f v h in simp (ne_eqb v 255 (λ e. omega arith))

-- ---- the automaton

module _ (s : List ℕ) (ok : check_of s ≡ 0) where
  abbrev head : Header s
  head = header s ok

  abbrev all : Parts s
  all = parts s (header s ok).records

  -- the edition has the sheet's clocks, and at most four
  few : (clocks_in s ≤ (edition_of s).clocks) × ((edition_of s).clocks ≤ 4)
  few = (head.clocks.1, edition_clocks (byte_at s 0))

  bound_value : (l j : ℕ) → l < locations_in s → j < clocks_in s → bound_at s (location_at s l) j ≤ 25
  bound_value l j h i = upper_value LocationRecord (clocks_in s) s (location_at s l) (λ v. v ≤ 25) (bound_bit + j) 0 (bound_bit + j - 2)
      (location_good (clocks_in s) s (location_at s l) (all.locations l h) (bound_bit + j) (omega (arith, few)))
      (location_upper (edition_of s) (bound_bit + j) (omega arith) (omega (arith, few))) (λ v b. b) (omega arith)

  pub guard_value : (e j : ℕ) → e < edges_in s → j < clocks_in s
      → field_at EdgeRecord s (edge_at s e) (upper_bit (edition_of s) + j) ≡ guard_of (get_or (field_at EdgeRecord s (edge_at s e) (upper_bit (edition_of s) + j)) 255)
  unfolding field_good in_range
  guard_value e j h i = told_absent (in_range (clocks_in s) (field_of (edition_of s) EdgeRecord (upper_bit (edition_of s) + j)))
      (field_at EdgeRecord s (edge_at s e) (upper_bit (edition_of s) + j))
      (edge_good (clocks_in s) (locations_in s) s (edge_at s e) (all.edges e h) (upper_bit (edition_of s) + j) (omega (arith, few)))
      (λ v q. (bounds v 0 25 (subst (λ y. in_range (clocks_in s) y v ≡ true)
      (edge_upper (edition_of s) (upper_bit (edition_of s) + j) (omega arith) (omega (arith, few))) q)).1)

  pub sound : Sound (meaning s)
  unfolding meaning in_bounds start_node record_at
  sound = record {
    some_location = head.locations.0;
    few_edges = head.edges;
    targets = λ e h. edge_ends (clocks_in s) (locations_in s) s (edge_at s e) (all.edges e h);
    start_inside = zeros_inside (λ j. bound_at s 4 j) (clocks_in s) (start_bounds (clocks_in s) s all.start);
  }

  pub bounds_small : (l j : ℕ) → l < (meaning s).locations → j < (meaning s).clocks → (meaning s).bound l j ≤ 25
  unfolding meaning
  bounds_small = bound_value

  pub room : Room (layout_of s) (meaning s)
  unfolding meaning
  room = record {
    clocks = (room_for (byte_at s 0) (clocks_in s) head.clocks.1).0;
    ranks = (room_for (byte_at s 0) (clocks_in s) head.clocks.1).1;
    locations = omega (arith, head.locations.1);
    bounds = λ l j h i. omega (arith, bound_value l j h i);
  }

  -- ---- prices

  pub rates_small : (l : ℕ) → l < (meaning s).locations → (nat_abs ((meaning s).cost_rate l) ≤ 10000) × ((meaning s).reward_rate l ≤ 10000)
  unfolding meaning
  rates_small l h =
      let good = location_good (clocks_in s) s (location_at s l) (all.locations l h) in (
        field_value LocationRecord (clocks_in s) s (location_at s l) {P = λ v. nat_abs (signed_of v) ≤ 10000} 0 0 (good 0 (omega arith))
            (cost_of_lem (edition_of s) LocationRecord (clocks_in s)) no_cost,
        field_value LocationRecord (clocks_in s) s (location_at s l) {P = λ v. v ≤ 10000} 1 0 (good 1 (omega arith))
            (reward_of_lem (edition_of s) LocationRecord (clocks_in s)) (omega arith),
      )

  pub prices_small : (e : ℕ) → e < (meaning s).edges → (nat_abs ((meaning s).cost e) ≤ 10000) × ((meaning s).reward e ≤ 10000)
  unfolding meaning
  prices_small e h =
      let good = edge_good (clocks_in s) (locations_in s) s (edge_at s e) (all.edges e h) in (
        field_value EdgeRecord (clocks_in s) s (edge_at s e) {P = λ v. nat_abs (signed_of v) ≤ 10000} 0 0 (good 0 (omega arith))
            (cost_of_lem (edition_of s) EdgeRecord (clocks_in s)) no_cost,
        field_value EdgeRecord (clocks_in s) s (edge_at s e) {P = λ v. v ≤ 10000} 1 0 (good 1 (omega arith))
            (reward_of_lem (edition_of s) EdgeRecord (clocks_in s)) (omega arith),
      )
