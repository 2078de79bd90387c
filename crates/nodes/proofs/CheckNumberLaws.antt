-- The check answers one of its own numbers, and no other.
use mathlib.Core.Path.{◌≡◌, refl, sym, ap, ◌∙◌}
use mathlib.Core.Bool.{Bool, true, false, not, ◌&&◌, ◌||◌}
use mathlib.Core.List.{List, [], ◌∷◌}
use Prim.Native.Nat.{ℕ, zero, suc, ◌+◌, ◌≤◌}
use borrow.Author.Tests.{eqb-true, leb-true}
use lib.Dec.{leb, ltb, eqb}
use lib.ListN.{length}
use Rattle.automaton.specs.Tests.{occurs, every}
use Rattle.automaton.proofs.Tests.{by_bool, clash, &&-left, &&-right}
use Rattle.sheet.specs.Bytes.{byte_at}
use Rattle.sheet.specs.Maps.{stands}
use Rattle.sheet.specs.Fields.{bound_bit, is_within}
use Rattle.sheet.specs.Records.{map_bytes, map_of, bound_at, record_length, record_at, edition_of, location_at, locations_in, clocks_in, edges_in}
use Rattle.sheet.specs.Questions.{ask, or_else, each, first_of, bit_good, map_refusal, field_good, fields_refusal, bounds_refusal, ends_refusal, location_refusal, edge_refusal}
use Rattle.sheet.specs.Questions.{distinct_refusal, start_refusal, rest_refusal, records_refusal, check_of, check_numbers}
use Rattle.sheet.specs.declared.fields.Kind.{Kind}
use Rattle.sheet.specs.declared.fields.Kind.TheVariants.{LocationRecord, EdgeRecord}
use Rattle.sheet.proofs.PairLaws.{is_new}

-- a test that each number of a list passes is passed by one that occurs there
pub passes : (t : ℕ → Bool) (l : List ℕ) → every (λ j. t) l ≡ true → (v : ℕ) → occurs v l ≡ true → t v ≡ true
unfolding every
passes t [] h v o = clash o refl
passes t (x ∷ l) h v o = by_bool (eqb v x)
    (λ e. ap t (eqb-true v x e) ∙ &&-left (t x) (every (λ j. t) l) h)
    (λ e. passes t l (&&-right (t x) (every (λ j. t) l) h) v (ap (λ (b : Bool). b || occurs v l) (sym e) ∙ o))

-- a test that each number but 17 passes, and what question 17 answers, is passed by what the check answers
module _ (t : ℕ → Bool) (all : every (λ j x. eqb x 17 || t x) check_numbers ≡ true) where
  abbrev Passes : ℕ → Type 0
  Passes r = t r ≡ true

  asked : (n : ℕ) (b : Bool) (r : ℕ) → Passes n → Passes r → Passes (ask n b r)
  asked n true r f g = g
  asked n false r f g = f

  either : (a b : ℕ) → Passes a → Passes b → Passes (or_else a b)
  either a b = asked a (eqb a 0) b

  number : (n : ℕ) → occurs n check_numbers ≡ true → eqb n 17 || t n ≡ true
  number = passes (λ x. eqb x 17 || t x) check_numbers all

  first : (n : ℕ) (f : ℕ → ℕ) → ((i : ℕ) → Passes (f i)) → Passes (first_of n f)
  unfolding first_of
  first zero f k = number 0 refl
  first (suc n) f k = either (first_of n f) (f n) (first n f k) (k n)

  map_passes : (kind : Kind) (k : ℕ) (s : List ℕ) (at : ℕ) → Passes (map_refusal kind k s at)
  unfolding map_refusal
  map_passes kind k s at = asked 5 (leb (at + map_bytes kind) (length s)) _ (number 5 refl)
      (asked 6 (each 16 (bit_good (edition_of s) kind k (map_of kind s at))) _ (number 6 refl) (asked 5 (leb (at + record_length kind s at) (length s)) 0 (number 5 refl) (number 0 refl)))

  fields_pass : (kind : Kind) (k : ℕ) (s : List ℕ) (at : ℕ) → Passes (fields_refusal kind k s at)
  unfolding fields_refusal
  fields_pass kind k s at = asked 8 (each 16 (field_good kind k s at)) 0 (number 8 refl) (number 0 refl)

  location_passes : (k : ℕ) (s : List ℕ) (at : ℕ) → Passes (location_refusal k s at)
  unfolding location_refusal bounds_refusal
  location_passes k s at = either (map_refusal LocationRecord k s at) _ (map_passes LocationRecord k s at)
      (either (bounds_refusal k s at) (fields_refusal LocationRecord k s at)
      (asked 7 (each k (λ j. stands (map_of LocationRecord s at) (bound_bit + j))) 0 (number 7 refl) (number 0 refl)) (fields_pass LocationRecord k s at))

  edge_passes : (k l : ℕ) (s : List ℕ) (at : ℕ) → Passes (edge_refusal k l s at)
  unfolding edge_refusal ends_refusal
  edge_passes k l s at = either (map_refusal EdgeRecord k s at) _ (map_passes EdgeRecord k s at)
      (either (fields_refusal EdgeRecord k s at) (ends_refusal l s at) (fields_pass EdgeRecord k s at)
      (asked 9 (ltb (byte_at s (at + 2)) l && ltb (byte_at s (at + 3)) l) 0 (number 9 refl) (number 0 refl)))

  records_pass : (k l e : ℕ) (s : List ℕ) → Passes (distinct_refusal e s (location_at s l)) → Passes (records_refusal k l e s)
  unfolding records_refusal rest_refusal start_refusal
  records_pass k l e s d = either (first_of l (λ i. location_refusal k s (location_at s i))) _ (first l _ (λ i. location_passes k s (location_at s i)))
      (either (first_of e (λ i. edge_refusal k l s (record_at EdgeRecord s (location_at s l) i))) _
      (first e _ (λ i. edge_passes k l s (record_at EdgeRecord s (location_at s l) i)))
      (asked 10 (eqb (record_at EdgeRecord s (location_at s l) e) (length s)) _ (number 10 refl)
      (either (distinct_refusal e s (location_at s l)) (start_refusal k s) d (asked 11 (each k (λ j. ltb 0 (bound_at s 4 j))) 0 (number 11 refl) (number 0 refl)))))

  check_passes : (s : List ℕ) → Passes (distinct_refusal (edges_in s) s (location_at s (locations_in s))) → Passes (check_of s)
  unfolding check_of
  check_passes s d = asked 2 (is_within (length s) 4 656) _ (number 2 refl) (asked 3 (is_within (byte_at s 0) 1 2) _ (number 3 refl)
      (asked 4 (is_within (locations_in s) 1 12 && (is_within (clocks_in s) 1 (edition_of s).clocks && is_within (edges_in s) 0 32))
      (records_refusal (clocks_in s) (locations_in s) (edges_in s) s) (number 4 refl) (records_pass (clocks_in s) (locations_in s) (edges_in s) s d)))

-- question 17 answers 0 or 17
distinct_number : (e : ℕ) (s : List ℕ) (from : ℕ) → occurs (distinct_refusal e s from) check_numbers ≡ true
unfolding distinct_refusal
distinct_number e s from = by (each e (is_new s from))
  where
    by : (b : Bool) → occurs (ask 17 b 0) check_numbers ≡ true
    by true = refl
    by false = refl

-- the check answers one of its own numbers
pub check_number : (s : List ℕ) → occurs (check_of s) check_numbers ≡ true
unfolding every
check_number s = check_passes (λ r. occurs r check_numbers) refl s (distinct_number (edges_in s) s (location_at s (locations_in s)))

-- all of them are numbers of refusals
pub check_small : (s : List ℕ) → check_of s ≤ 18
unfolding every
check_small s = leb-true _ _ (passes (λ r. leb r 18) check_numbers refl (check_of s) (check_number s))

-- and 17 only where question 17 does
pub asked_17 : (s : List ℕ) → check_of s ≡ 17 → distinct_refusal (edges_in s) s (location_at s (locations_in s)) ≡ 17
unfolding every
asked_17 s h =
    let distinct = distinct_refusal (edges_in s) s (location_at s (locations_in s)) in
    by_bool (eqb distinct 17) (eqb-true distinct 17)
    (λ n. clash (check_passes (λ r. not (eqb r 17)) refl s (ap not n)) (ap (λ (r : ℕ). not (eqb r 17)) h))

-- a number that does not occur among them is no other that does
pub absent : (k n : ℕ) → occurs n check_numbers ≡ false → k ≡ n → occurs k check_numbers ≡ true → ⊥
absent k n f e o = clash (ap (λ (x : ℕ). occurs x check_numbers) (sym e) ∙ o) f
