-- The loop that writes pairs, a code a turn: what is written and what is still to be written make up all that is to be written.
use mathlib.Core.Path.{◌≡◌, refl, sym, ap, ◌∙◌, subst}
use mathlib.Core.Logic.{◌≢◌}
use mathlib.Core.Bool.{Bool, cond}
use mathlib.Core.List.{List, [], ◌∷◌}
use Prim.Native.Nat.{ℕ, suc, ◌+◌, ◌≤◌, ◌<◌}
use native.Mathlib.Nat.{add-zero}
use native.Mathlib.Numerals.{add-one}
use native.Mathlib.Omega.{arith}
use borrow.Author.Tests.{eq-eqb, ne_eqb}
use lib.ListN.{length, get_or, set, drop, length-set}
use Rattle.std.proofs.lemmas.List.{drop_all}
use Rattle.automaton.specs.Times.{units_of}
use Rattle.schedules.specs.Pairs.{Pair, pairs_from}
use Rattle.schedules.specs.WalkTerms.{rest_from}
use Rattle.schedules.proofs.CodeLaws.{pairs_none, pairs_edge, pairs_delay, rest_none, rest_edge, rest_delay}
use Rattle.schedules.proofs.PairLaws.{units_small}
use Rattle.work.specs.Work.{PairBuffers, lent_pairs}
use Rattle.work.specs.PrivatePromises.{with_pairs, RoomFrom, PairsWritten}
use Rattle.work.proofs.EdgeSearch.{first_left}

-- the pairs of all codes were to be written from the place k₀ on; k places are passed, w units wait, and some codes are left
pub record Going (before : PairBuffers) (k₀ w₀ : ℕ) (all : List ℕ) (reached : PairBuffers) (k w : ℕ) (left : List ℕ) : Type 0 where
  pub same : with_pairs k (pairs_from w left) reached ≡ with_pairs k₀ (pairs_from w₀ all) before
  pub count : k + length (pairs_from w left) ≡ k₀ + length (pairs_from w₀ all)
  pub rest : rest_from w left ≡ rest_from w₀ all
  pub waits : length reached.waits ≡ length before.waits
  pub edges : length reached.edges ≡ length before.edges
  pub fits : w + length left ≤ w₀ + length all

module _ {before : PairBuffers} {k₀ w₀ : ℕ} {all : List ℕ} where
  pub going_on : Going before k₀ w₀ all before k₀ w₀ all
  going_on = record { same = refl; count = refl; rest = refl; waits = refl; edges = refl; fits = omega arith }

  -- the code at place i comes next
  pub at_place : (C : List ℕ) (i : ℕ) {reached : PairBuffers} {k w : ℕ} → i < length C → Going before k₀ w₀ all reached k w (drop i C)
      → Going before k₀ w₀ all reached k w (get_or C i 0 ∷ drop (i + 1) C)
  at_place C i {reached} {k} {w} h = subst (Going before k₀ w₀ all reached k w) (first_left C i h)

  module _ {W E : List ℕ} {k w code : ℕ} {left : List ℕ} (g : Going before k₀ w₀ all (lent_pairs W E) k w (code ∷ left)) where
    -- an edge comes: there is a place for its pair, which is written
    edge_count : code ≤ 31 → k + suc (length (pairs_from 0 left)) ≡ k₀ + length (pairs_from w₀ all)
    edge_count l = ap (λ (ps : List Pair). k + length ps) (sym (pairs_edge w code left l)) ∙ g.count

    pub place_left : code ≤ 31 → RoomFrom before k₀ w₀ all → (k < length W) × (k < length E)
    place_left l r = (omega (arith, edge_count l, r.waits, g.waits), omega (arith, edge_count l, r.edges, g.edges))

    pub edge_comes : code ≤ 31 → Going before k₀ w₀ all (lent_pairs (set W k w) (set E k code)) (k + 1) 0 left
    edge_comes l = record {
      same = ap (λ (j : ℕ). with_pairs j (pairs_from 0 left) (lent_pairs (set W k w) (set E k code))) (add-one k)
          ∙ ap (λ (ps : List Pair). with_pairs k ps (lent_pairs W E)) (sym (pairs_edge w code left l)) ∙ g.same;
      count = omega (arith, edge_count l);
      rest = sym (rest_edge w code left l) ∙ g.rest;
      waits = length-set W k w ∙ g.waits;
      edges = length-set E k code ∙ g.edges;
      fits = omega (arith, g.fits);
    }

    delay_comes : 31 < code → Going before k₀ w₀ all (lent_pairs W E) k (w + units_of code) left
    delay_comes l = record {
      same = ap (λ (ps : List Pair). with_pairs k ps (lent_pairs W E)) (sym (pairs_delay w code left l)) ∙ g.same;
      count = ap (λ (ps : List Pair). k + length ps) (sym (pairs_delay w code left l)) ∙ g.count;
      rest = sym (rest_delay w code left l) ∙ g.rest;
      waits = g.waits;
      edges = g.edges;
      fits = omega (arith, g.fits, units_small code);
    }

    -- a unit of delay comes: the wait grows, and has room to
    pub wait_fits : RoomFrom before k₀ w₀ all → w + 1 < 65536
    wait_fits r = omega (arith, g.fits, r.fits)

    pub unit_comes : code ≡ 32 → Going before k₀ w₀ all (lent_pairs W E) k (w + 1) left
    unit_comes e = subst (λ (n : ℕ). Going before k₀ w₀ all (lent_pairs W E) k (w + n) left) (ap (λ (b : Bool). cond b 1 0) (eq-eqb code 32 e))
        (delay_comes (omega arith))

    -- a region move comes: nothing is waited for
    pub move_comes : 31 < code → code ≢ 32 → Going before k₀ w₀ all (lent_pairs W E) k w left
    move_comes l n = subst (λ (v : ℕ). Going before k₀ w₀ all (lent_pairs W E) k v left)
        (ap (λ (b : Bool). w + cond b 1 0) (ne_eqb code 32 n) ∙ add-zero w) (delay_comes l)

  -- no code is left
  pub none_left : (C : List ℕ) (i : ℕ) {reached : PairBuffers} {k w : ℕ} → length C ≤ i → Going before k₀ w₀ all reached k w (drop i C)
      → PairsWritten before reached k₀ w₀ all k w
  none_left C i {reached} {k} {w} e h = record {
    is = ap (λ (ps : List Pair). with_pairs k ps reached) (sym (pairs_none w)) ∙ g.same;
    counted = omega (arith, g.count, ap length (pairs_none w));
    rest = sym (rest_none w) ∙ g.rest;
  }
    where
      g : Going before k₀ w₀ all reached k w []
      g = subst (Going before k₀ w₀ all reached k w) (drop_all i C e) h
