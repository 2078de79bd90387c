-- What the private functions are handed, and what they promise each other. Only private functions go by this file.
use Rattle.std.specs.Prelude.{◌≡◌, Bool, ◌&&◌, List, ◌++◌, ℕ, ◌+◌, ◌%◌, ◌≤◌, ◌<◌, eqb, min, length, get_or}
use Rattle.std.specs.List.{list_all}
use Rattle.std.proofs.lemmas.List.Edits.{sets}
use Rattle.sheet.specs.Questions.{each}
use Rattle.sheet.specs.declared.Location.{Location}
use Rattle.sheet.specs.declared.Edge.{Edge}
use Rattle.schedules.specs.Pairs.{Pair, waits, edge_numbers, pairs_from}
use Rattle.schedules.specs.Turning.{stem_pairs, cycle_pairs}
use Rattle.schedules.specs.WalkTerms.{rest_from}
use Rattle.work.specs.Work.{WorkAnswer, PairBuffers, RoomForPairs, zero_pairs}

-- the bytes of the first clocks, at most the four that there are, all have this parity: 0 is even, 1 is odd
abbrev pub all_of_parity : List ℕ → ℕ → ℕ → Bool
all_of_parity bytes clocks parity = each (min clocks 4) (λ j. eqb (get_or bytes j 0 % 2) parity)

-- the bounds of locations are odd; the lower guards of edges are even, and the upper ones odd
abbrev pub bounds_odd : List Location → ℕ → Bool
bounds_odd locations clocks = list_all (λ (l : Location). all_of_parity l.upper clocks 1) locations

abbrev pub guards_even_odd : List Edge → ℕ → Bool
guards_even_odd edges clocks = list_all (λ (e : Edge). all_of_parity e.lower clocks 0 && all_of_parity e.upper clocks 1) edges

-- the buffers as they were before they were cleared
pub record ClearedFrom (b : PairBuffers) : Type 0 where
  pub before : PairBuffers
  pub room : RoomForPairs before
  pub is : b ≡ zero_pairs before

-- b with these pairs stored from the place k on
abbrev pub with_pairs : ℕ → List Pair → PairBuffers → PairBuffers
with_pairs k pairs b = record { waits = sets b.waits k (waits pairs); edges = sets b.edges k (edge_numbers pairs) }

-- a wait of w so far, and codes: there is room for their pairs from the place k on, and the waits fit 16 bits
pub record RoomFrom (b : PairBuffers) (k w : ℕ) (codes : List ℕ) : Type 0 where
  pub waits : k + length (pairs_from w codes) ≤ length b.waits
  pub edges : k + length (pairs_from w codes) ≤ length b.edges
  pub fits : w + length codes < 65536

-- the pairs of some codes are written from the place k on
pub record PairsWritten (before after : PairBuffers) (k w : ℕ) (codes : List ℕ) (count wait : ℕ) : Type 0 where
  pub is : after ≡ with_pairs k (pairs_from w codes) before
  pub counted : count ≡ k + length (pairs_from w codes)
  pub rest : wait ≡ rest_from w codes

-- the pairs of a lasso, given by the codes of its stem and of its cycle, are written from the first entry on
pub record LassoWritten (before after : PairBuffers) (stem cycle : List ℕ) (r : WorkAnswer) : Type 0 where
  pub is : after ≡ with_pairs 0 (stem_pairs stem cycle ++ cycle_pairs cycle) before
  pub accepted : r.refusal ≡ 0
  pub stem_length : r.stem ≡ length (stem_pairs stem cycle)
  pub cycle_length : r.cycle ≡ length (cycle_pairs cycle)
  pub few : length (stem_pairs stem cycle) + length (cycle_pairs cycle) ≤ 2049
