-- The questions put to a sheet. "Reading stops at the first question answered no, with that number."
use Rattle.std.specs.Prelude.{◌≡◌, Bool, true, not, cond, ◌&&◌, ◌||◌, List, [], ◌∷◌, ℕ, zero, suc, ◌+◌, ltb, leb, eqb, length}
use Rattle.std.proofs.Math.Option.{Option, none, some}
use Rattle.sheet.specs.Bytes.{byte_at}
use Rattle.sheet.specs.Maps.{stands}
use Rattle.sheet.specs.Fields.{Edition, bound_bit, is_within, field_of, permitted_field, in_range}
use Rattle.sheet.specs.Records.{map_bytes, map_of, field_at, bound_at, record_length, record_at, edition_of, location_at, locations_in, clocks_in, edges_in}
use Rattle.sheet.specs.declared.fields.Kind.{Kind}
use Rattle.sheet.specs.declared.fields.Kind.TheVariants.{LocationRecord, EdgeRecord}

-- the number of question n where its answer is no, else what comes after it
abbrev pub ask : ℕ → Bool → ℕ → ℕ
ask n answer after = cond answer after n

-- a number, or where it is 0 another
abbrev pub or_else : ℕ → ℕ → ℕ
or_else a b = cond (eqb a 0) b a

-- each number below n passes the test
unfoldable pub each : ℕ → (ℕ → Bool) → Bool
each zero p = true
each (suc n) p = each n p && p n

-- the first of f 0 to f (n - 1) that is not 0, or 0
unfoldable pub first_of : ℕ → (ℕ → ℕ) → ℕ
first_of zero f = 0
first_of (suc n) f = or_else (first_of n f) (f n)

-- an absent field passes every test
abbrev pub where_there : (ℕ → Bool) → Option ℕ → Bool
where_there p none = true
where_there p (some v) = p v

-- bit b of a map m is clear, or permitted
unfoldable pub bit_good : Edition → Kind → ℕ → ℕ → ℕ → Bool
bit_good y kind k m b = not (stands m b) || permitted_field k (field_of y kind b)

module _ (kind : Kind) (k : ℕ) (s : List ℕ) (at : ℕ) where
  -- 5. "Are the map bytes there (before 6), and source, target and every byte the map calls for (after 6, before 7)?"
  -- 6. "Are only permitted bits set?"
  unfoldable pub map_refusal : ℕ
  map_refusal =
      ask 5 (leb (at + map_bytes kind) (length s))
      (ask 6 (each 16 (bit_good (edition_of s) kind k (map_of kind s at)))
      (ask 5 (leb (at + record_length kind s at) (length s)) 0))

  unfoldable pub field_good : ℕ → Bool
  field_good b = where_there (in_range k (field_of (edition_of s) kind b)) (field_at kind s at b)

  -- 8. "Is each field in range"
  unfoldable pub fields_refusal : ℕ
  fields_refusal = ask 8 (each 16 field_good) 0

-- 7. "(Location) Does a bound stand for each of the K clocks?"
unfoldable pub bounds_refusal : ℕ → List ℕ → ℕ → ℕ
bounds_refusal k s at = ask 7 (each k (λ j. stands (map_of LocationRecord s at) (bound_bit + j))) 0

-- 9. "(Edge) Are source and target below L?"
unfoldable pub ends_refusal : ℕ → List ℕ → ℕ → ℕ
ends_refusal l s at = ask 9 (ltb (byte_at s (at + 2)) l && ltb (byte_at s (at + 3)) l) 0

unfoldable pub location_refusal : ℕ → List ℕ → ℕ → ℕ
location_refusal k s at = or_else (map_refusal LocationRecord k s at) (or_else (bounds_refusal k s at) (fields_refusal LocationRecord k s at))

unfoldable pub edge_refusal : ℕ → ℕ → List ℕ → ℕ → ℕ
edge_refusal k l s at = or_else (map_refusal EdgeRecord k s at) (or_else (fields_refusal EdgeRecord k s at) (ends_refusal l s at))

-- those of a record of either kind
abbrev pub record_refusal : Kind → ℕ → ℕ → List ℕ → ℕ → ℕ
record_refusal LocationRecord k l s at = location_refusal k s at
record_refusal EdgeRecord k l s at = edge_refusal k l s at

-- the edge records at x and at y are the same bytes: as many, and each of them the same
unfoldable pub same_record : List ℕ → ℕ → ℕ → Bool
same_record s x y =
    eqb (record_length EdgeRecord s x) (record_length EdgeRecord s y)
    && each (record_length EdgeRecord s x) (λ i. eqb (byte_at s (x + i)) (byte_at s (y + i)))

-- 17. "Two edge records equal in every byte shall be turned back": of the e records that begin at `from`, does each differ from all before it?
unfoldable pub distinct_refusal : ℕ → List ℕ → ℕ → ℕ
distinct_refusal e s from = ask 17 (each e (λ j. each j (λ i. not (same_record s (record_at EdgeRecord s from i) (record_at EdgeRecord s from j))))) 0

-- 11. "Do location 0's bounds admit all clocks at 0?" The upper byte 0 means clock < 0.
unfoldable pub start_refusal : ℕ → List ℕ → ℕ
start_refusal k s = ask 11 (each k (λ j. ltb 0 (bound_at s 4 j))) 0

-- 10. "Has every byte been used?", then 17, "put between questions 10 and 11", and 11
unfoldable pub rest_refusal : ℕ → ℕ → ℕ → List ℕ → ℕ
rest_refusal k l e s =
    ask 10 (eqb (record_at EdgeRecord s (location_at s l) e) (length s))
    (or_else (distinct_refusal e s (location_at s l)) (start_refusal k s))

-- "For each record in turn", and then the rest
unfoldable pub records_refusal : ℕ → ℕ → ℕ → List ℕ → ℕ
records_refusal k l e s =
    or_else (first_of l (λ i. location_refusal k s (location_at s i)))
    (or_else (first_of e (λ i. edge_refusal k l s (record_at EdgeRecord s (location_at s l) i)))
    (rest_refusal k l e s))

-- 2. "Is the length 4 to 580?", which "now allows 656 bytes". 3. "Is the edition 1?", which "allows 1 and 2". 4. "Are L, K, E in range?"
unfoldable pub check_of : List ℕ → ℕ
check_of s =
    ask 2 (is_within (length s) 4 656)
    (ask 3 (is_within (byte_at s 0) 1 2)
    (ask 4 (is_within (locations_in s) 1 12 && (is_within (clocks_in s) 1 (edition_of s).clocks && is_within (edges_in s) 0 32))
    (records_refusal (clocks_in s) (locations_in s) (edges_in s) s)))

-- the numbers that the check can answer
abbrev pub check_numbers : List ℕ
check_numbers = 0 ∷ 2 ∷ 3 ∷ 4 ∷ 5 ∷ 6 ∷ 7 ∷ 8 ∷ 9 ∷ 10 ∷ 17 ∷ 11 ∷ []

-- the number r is k where this holds, and only there
abbrev pub JustWhere : ℕ → ℕ → Type 0 → Type 0
JustWhere r k holds = (r ≡ k → holds) × (holds → r ≡ k)
