-- What a sheet that passes the check has.
use mathlib.Core.Path.{◌≡◌, refl}
use mathlib.Core.Bool.{Bool, true, false, ◌&&◌}
use mathlib.Core.List.{List}
use Prim.Native.Nat.{ℕ, suc, ◌≤◌}
use native.Mathlib.Omega.{arith}
use lib.ListN.{length}
use Rattle.sheet.specs.Bytes.{byte_at}
use Rattle.sheet.specs.Fields.{is_within}
use Rattle.sheet.specs.Records.{edition_of, locations_in, clocks_in, edges_in}
use Rattle.sheet.specs.Questions.{ask, check_of, records_refusal}
use Rattle.sheet.proofs.FieldLaws.{bounds}

pub ask_yes : (n : ℕ) (t : Bool) (r : ℕ) → ask (suc n) t r ≡ 0 → t ≡ true
ask_yes n true r h = refl
ask_yes n false r h = absurd (omega arith)

pub ask_rest : (n : ℕ) (t : Bool) (r : ℕ) → ask (suc n) t r ≡ 0 → r ≡ 0
ask_rest n true r h = h
ask_rest n false r h = absurd (omega arith)

pub left : (a b : Bool) → a && b ≡ true → a ≡ true
left true b h = refl
left false b h = h

pub right : (a b : Bool) → a && b ≡ true → b ≡ true
right true b h = h
right false b h = let z : ◌≡◌ {A = ℕ} 0 1 = cc in absurd (omega arith)

pub record Header (s : List ℕ) : Type 0 where
  pub long : (4 ≤ length s) × (length s ≤ 656)
  pub edition : (1 ≤ byte_at s 0) × (byte_at s 0 ≤ 2)
  pub locations : (1 ≤ locations_in s) × (locations_in s ≤ 12)
  pub clocks : (1 ≤ clocks_in s) × (clocks_in s ≤ (edition_of s).clocks)
  pub edges : edges_in s ≤ 32
  pub records : records_refusal (clocks_in s) (locations_in s) (edges_in s) s ≡ 0

pub header : (s : List ℕ) → check_of s ≡ 0 → Header s
unfolding check_of
header s h = record {
  long = bounds (length s) 4 656 (ask_yes 1 sized (ask 3 edition (ask 4 counts records)) h);
  edition = bounds (byte_at s 0) 1 2 (ask_yes 2 edition (ask 4 counts records) after_2);
  locations = bounds (locations_in s) 1 12 (left (is_within (locations_in s) 1 12) others counted);
  clocks = bounds (clocks_in s) 1 (edition_of s).clocks (left (is_within (clocks_in s) 1 (edition_of s).clocks) (is_within (edges_in s) 0 32) clocked);
  edges = (bounds (edges_in s) 0 32 (right (is_within (clocks_in s) 1 (edition_of s).clocks) (is_within (edges_in s) 0 32) clocked)).1;
  records = ask_rest 3 counts records after_3;
}
  where
    sized : Bool
    sized = is_within (length s) 4 656

    edition : Bool
    edition = is_within (byte_at s 0) 1 2

    others : Bool
    others = is_within (clocks_in s) 1 (edition_of s).clocks && is_within (edges_in s) 0 32

    counts : Bool
    counts = is_within (locations_in s) 1 12 && others

    records : ℕ
    records = records_refusal (clocks_in s) (locations_in s) (edges_in s) s

    after_2 : ask 3 edition (ask 4 counts records) ≡ 0
    after_2 = ask_rest 1 sized (ask 3 edition (ask 4 counts records)) h

    after_3 : ask 4 counts records ≡ 0
    after_3 = ask_rest 2 edition (ask 4 counts records) after_2

    counted : counts ≡ true
    counted = ask_yes 3 counts records after_3

    clocked : others ≡ true
    clocked = right (is_within (locations_in s) 1 12) others counted
