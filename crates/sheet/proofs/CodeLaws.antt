-- Each question by its answer.
use mathlib.Core.Path.{◌≡◌, sym, ap, ◌∙◌}
use mathlib.Core.Bool.{Bool, true, false, ◌&&◌}
use mathlib.Core.Option.{none, some}
use mathlib.Core.List.{List}
use Prim.Native.Nat.{ℕ, ◌+◌, ◌≤◌, ◌<◌}
use borrow.Author.Tests.{lt-leb, le-leb, lt-ltb, le-ltb, eq-eqb, ne_eqb}
use lib.Dec.{eqb}
use lib.ListN.{length}
use Rattle.refusals.specs.Numbers.{number_of}
use Rattle.refusals.specs.declared.Refusal.{Refusal}
use Rattle.sheet.specs.Bytes.{byte_at}
use Rattle.sheet.specs.Fields.{is_within, field_of, in_range}
use Rattle.sheet.specs.Records.{map_bytes, map_of, field_at, record_length, record_at, edition_of, location_at, locations_in, clocks_in, edges_in}
use Rattle.sheet.specs.Questions.{ask, or_else, each, where_there, bit_good, map_refusal, field_good, fields_refusal, bounds_refusal, ends_refusal, location_refusal, edge_refusal, record_refusal, distinct_refusal, start_refusal, rest_refusal, records_refusal, check_of}
use Rattle.sheet.specs.declared.fields.Kind.{Kind}
use Rattle.sheet.specs.declared.fields.Kind.TheVariants.{LocationRecord, EdgeRecord}
use Rattle.sheet.proofs.QuestionLaws.{stops, goes_on}

-- ---- questions 5 and 6

module _ (kind : Kind) (k : ℕ) (s : List ℕ) (at : ℕ) where
  pub no_map : length s < at + map_bytes kind → 5 ≡ map_refusal kind k s at
  unfolding map_refusal
  no_map h = simp (lt-leb _ _ h)

  module _ (map-there : at + map_bytes kind ≤ length s) where
    pub bad_bit : each 16 (bit_good (edition_of s) kind k (map_of kind s at)) ≡ false → 6 ≡ map_refusal kind k s at
    unfolding map_refusal
    bad_bit h = simp (le-leb _ _ map-there, h)

    module _ (bits-good : each 16 (bit_good (edition_of s) kind k (map_of kind s at)) ≡ true) where
      pub no_fields : length s < at + record_length kind s at → 5 ≡ map_refusal kind k s at
      unfolding map_refusal
      no_fields h = simp (le-leb _ _ map-there, bits-good, lt-leb _ _ h)

      pub map_good : at + record_length kind s at ≤ length s → 0 ≡ map_refusal kind k s at
      unfolding map_refusal
      map_good h = simp (le-leb _ _ map-there, bits-good, le-leb _ _ h)

  -- ---- question 8

  pub no_field : (b : ℕ) → field_at kind s at b ≡ none → field_good kind k s at b ≡ true
  unfolding field_good
  no_field b = ap (where_there (in_range k (field_of (edition_of s) kind b)))

  pub field_is : (b v : ℕ) → field_at kind s at b ≡ some v → field_good kind k s at b ≡ in_range k (field_of (edition_of s) kind b) v
  unfolding field_good
  field_is b v = ap (where_there (in_range k (field_of (edition_of s) kind b)))

-- ---- question 9

module _ (l : ℕ) (s : List ℕ) (at : ℕ) where
  pub no_target : byte_at s (at + 2) < l → l ≤ byte_at s (at + 3) → 9 ≡ ends_refusal l s at
  unfolding ends_refusal
  no_target h k = simp (lt-ltb _ _ h, le-ltb _ _ k)

-- ---- a record of either kind

module _ (kind : Kind) (k l : ℕ) (s : List ℕ) (at : ℕ) where
  pub map_first : (r : Refusal) → number_of r ≡ map_refusal kind k s at → number_of r ≡ record_refusal kind k l s at
  unfolding location_refusal edge_refusal
  map_first r = by kind
    where
      by : (y : Kind) → number_of r ≡ map_refusal y k s at → number_of r ≡ record_refusal y k l s at
      by LocationRecord h = stops r _ _ h
      by EdgeRecord h = stops r _ _ h

  module _ (map-good : 0 ≡ map_refusal kind k s at) (x : ℕ) where
    pub of_location : kind ≡ LocationRecord → x ≡ or_else (bounds_refusal k s at) (fields_refusal kind k s at) → x ≡ record_refusal kind k l s at
    unfolding location_refusal
    of_location e h = goes_on x _ _ (map-good ∙ ap (λ (y : Kind). map_refusal y k s at) e)
        (h ∙ ap (λ (y : Kind). or_else (bounds_refusal k s at) (fields_refusal y k s at)) e)
        ∙ ap (λ (y : Kind). record_refusal y k l s at) (sym e)

    pub of_edge : kind ≡ EdgeRecord → x ≡ or_else (fields_refusal kind k s at) (ends_refusal l s at) → x ≡ record_refusal kind k l s at
    unfolding edge_refusal
    of_edge e h = goes_on x _ _ (map-good ∙ ap (λ (y : Kind). map_refusal y k s at) e)
        (h ∙ ap (λ (y : Kind). or_else (fields_refusal y k s at) (ends_refusal l s at)) e)
        ∙ ap (λ (y : Kind). record_refusal y k l s at) (sym e)

-- ---- what follows the last record

asked_no : (n : ℕ) (t : Bool) (r : ℕ) → t ≡ false → n ≡ ask n t r
asked_no n t r e = sym (ap (λ (b : Bool). ask n b r) e)

asked_yes : (n : ℕ) (t : Bool) (r : ℕ) → t ≡ true → r ≡ ask n t r
asked_yes n t r e = sym (ap (λ (b : Bool). ask n b r) e)

module _ (k l e : ℕ) (s : List ℕ) where
  pub bytes_left : (record_at EdgeRecord s (location_at s l) e ≡ length s → ⊥) → 10 ≡ rest_refusal k l e s
  unfolding rest_refusal
  bytes_left n = asked_no 10 (eqb (record_at EdgeRecord s (location_at s l) e) (length s)) _ (ne_eqb _ _ n)

  module _ (all-used : record_at EdgeRecord s (location_at s l) e ≡ length s) where
    pub entered_twice : (r : Refusal) → number_of r ≡ distinct_refusal e s (location_at s l) → number_of r ≡ rest_refusal k l e s
    unfolding rest_refusal
    entered_twice r h = stops r _ _ h ∙ asked_yes 10 (eqb (record_at EdgeRecord s (location_at s l) e) (length s)) _ (eq-eqb _ _ all-used)

    pub all_distinct : (x : ℕ) → 0 ≡ distinct_refusal e s (location_at s l) → x ≡ start_refusal k s → x ≡ rest_refusal k l e s
    unfolding rest_refusal
    all_distinct x z h = goes_on x _ _ z h ∙ asked_yes 10 (eqb (record_at EdgeRecord s (location_at s l) e) (length s)) _ (eq-eqb _ _ all-used)

-- ---- questions 2 to 4

module _ (s : List ℕ) where
  pub bad_length : is_within (length s) 4 656 ≡ false → 2 ≡ check_of s
  unfolding check_of
  bad_length h = simp h

  module _ (h : is_within (length s) 4 656 ≡ true) where
    pub bad_edition : is_within (byte_at s 0) 1 2 ≡ false → 3 ≡ check_of s
    unfolding check_of
    bad_edition i = simp (h, i)

    module _ (i : is_within (byte_at s 0) 1 2 ≡ true) where
      abbrev pub counts_good : Bool
      counts_good = is_within (locations_in s) 1 12 && (is_within (clocks_in s) 1 (edition_of s).clocks && is_within (edges_in s) 0 32)

      pub bad_counts : counts_good ≡ false → 4 ≡ check_of s
      unfolding check_of
      bad_counts a = simp (h, i, a)

      pub header_good : counts_good ≡ true → records_refusal (clocks_in s) (locations_in s) (edges_in s) s ≡ check_of s
      unfolding check_of
      header_good a = simp (h, i, a)
