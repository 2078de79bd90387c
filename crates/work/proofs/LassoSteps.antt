-- A lasso written in four parts: the stem, the cycle up to its first edge, the cycle after it, and the cycle up to its first edge again.
use mathlib.Core.Path.{◌≡◌, refl, sym, ap, ap₂, ◌∙◌, subst}
use mathlib.Core.List.{List, ◌++◌, map, map-append}
use Prim.Native.Nat.{ℕ, ◌+◌, ◌-◌, ◌≤◌}
use native.Mathlib.Omega.{arith}
use lib.ListN.{length, take, drop, length-map, length-append, length-drop}
use lib.Seq.{sets, length-sets, take_all, length-take-le}
use Rattle.schedules.specs.Pairs.{Pair, waits, edge_numbers, pairs_from}
use Rattle.schedules.specs.Turning.{until_edge, past_edge, stem_pairs, cycle_pairs}
use Rattle.schedules.specs.WalkTerms.{rest_from}
use Rattle.schedules.proofs.PairLaws.{pairs_append, rest_short}
use Rattle.schedules.proofs.PlanSizes.{lasso_few}
use Rattle.work.specs.Work.{WorkAnswer, PairBuffers, RoomForPairs, lent_pairs}
use Rattle.work.specs.PrivatePromises.{with_pairs, RoomFrom, PairsWritten, LassoWritten}
use Rattle.work.proofs.StoredLaws.{stored_then}
use Rattle.work.proofs.EdgeSearch.{Turns}

-- ---- pairs after pairs

-- the pairs are written from the place k on, up to the place k'
record Wrote (b b' : PairBuffers) (k : ℕ) (ps : List Pair) (k' : ℕ) : Type 0 where
  is : b' ≡ with_pairs k ps b
  count : k' ≡ k + length ps

wrote : {b b' : PairBuffers} {k w k' w' : ℕ} {codes : List ℕ} → PairsWritten b b' k w codes k' w' → Wrote b b' k (pairs_from w codes) k'
wrote h = record { is = h.is; count = h.counted }

module _ {b b' : PairBuffers} {k k' : ℕ} {ps : List Pair} (h : Wrote b b' k ps k') where
  waits_stay : length b'.waits ≡ length b.waits
  waits_stay = ap (λ (x : PairBuffers). length x.waits) h.is ∙ length-sets b.waits k (waits ps)

  edges_stay : length b'.edges ≡ length b.edges
  edges_stay = ap (λ (x : PairBuffers). length x.edges) h.is ∙ length-sets b.edges k (edge_numbers ps)

  wrote_then : {b'' : PairBuffers} {k'' : ℕ} {qs : List Pair} → Wrote b' b'' k' qs k'' → Wrote b b'' k (ps ++ qs) k''
  wrote_then {b''} {k''} {qs} g = record {
    is = g.is ∙ ap₂ (λ (j : ℕ) (x : PairBuffers). with_pairs j qs x) h.count h.is
        ∙ (λ i. record { waits = both (λ p. p.wait) b.waits i; edges = both (λ p. p.edge) b.edges i });
    count = omega (arith, h.count, g.count, length-append ps qs);
  }
    where
      both : (f : Pair → ℕ) (l : List ℕ) → sets (sets l k (map f ps)) (k + length ps) (map f qs) ≡ sets l k (map f (ps ++ qs))
      both f l = ap (λ (n : ℕ). sets (sets l k (map f ps)) (k + n) (map f qs)) (sym (length-map ps f))
          ∙ stored_then l k (map f ps) (map f qs) ∙ ap (sets l k) (sym (map-append f ps qs))

-- the codes from the place t on, as they are cut
abbrev pub rest : List ℕ → ℕ → List ℕ
rest Y t = take (length Y - t) (drop t Y)

rest_is : (Y : List ℕ) (t : ℕ) → rest Y t ≡ drop t Y
rest_is Y t = take_all (length Y - t) (drop t Y) (omega (arith, length-drop t Y))

-- ---- the four parts, of a stem S and a cycle Y that is turned at the place t: the stem, what is before the turn, what is after it, and what is
-- before it again
module _ (S Y : List ℕ) {t : ℕ} (few : length S + length Y ≤ 2048) (high : t ≤ length Y) (turn : Turns Y t) where
  stem_is : pairs_from 0 S ++ pairs_from (rest_from 0 S) (take t Y) ≡ stem_pairs S Y
  stem_is = ap (λ (u : List ℕ). pairs_from 0 S ++ pairs_from (rest_from 0 S) u) turn.until ∙ sym (pairs_append 0 S (until_edge Y))

  cycle_is : pairs_from 0 (rest Y t) ++ pairs_from (rest_from 0 (rest Y t)) (take t Y) ≡ cycle_pairs Y
  cycle_is = ap₂ (λ (p u : List ℕ). pairs_from 0 p ++ pairs_from (rest_from 0 p) u) (rest_is Y t ∙ turn.past) turn.until ∙ sym (pairs_append 0 (past_edge Y) (until_edge Y))

  stem_count : length (pairs_from 0 S) + length (pairs_from (rest_from 0 S) (take t Y)) ≡ length (stem_pairs S Y)
  stem_count = sym (length-append (pairs_from 0 S) (pairs_from (rest_from 0 S) (take t Y))) ∙ ap length stem_is

  cycle_count : length (pairs_from 0 (rest Y t)) + length (pairs_from (rest_from 0 (rest Y t)) (take t Y)) ≡ length (cycle_pairs Y)
  cycle_count = sym (length-append (pairs_from 0 (rest Y t)) (pairs_from (rest_from 0 (rest Y t)) (take t Y))) ∙ ap length cycle_is

  until_short : length (take t Y) ≡ t
  until_short = length-take-le t Y high

  past_short : length (rest Y t) + t ≡ length Y
  past_short = omega (arith, ap length (rest_is Y t), length-drop t Y)

  all_few : length (stem_pairs S Y) + length (cycle_pairs Y) ≤ 2049
  all_few = omega (arith, lasso_few S Y)

  module _ {b : PairBuffers} (room : RoomForPairs b) where
    pub first_room : RoomFrom b 0 0 S
    first_room = record { waits = omega (arith, stem_count, all_few, room.waits); edges = omega (arith, stem_count, all_few, room.edges); fits = omega arith }

    module _ {b₁ : PairBuffers} {k₁ v₁ : ℕ} (w₁ : PairsWritten b b₁ 0 0 S k₁ v₁) where
      first : Wrote b b₁ 0 (pairs_from 0 S) k₁
      first = wrote w₁

      pub second_room : RoomFrom b₁ k₁ v₁ (take t Y)
      second_room = subst (λ (v : ℕ). RoomFrom b₁ k₁ v (take t Y)) (sym w₁.rest) (record {
        waits = omega (arith, first.count, stem_count, all_few, room.waits, waits_stay first);
        edges = omega (arith, first.count, stem_count, all_few, room.edges, edges_stay first);
        fits = omega (arith, rest_short 0 S, until_short);
      })

      module _ {b₂ : PairBuffers} {k₂ v₂ : ℕ} (w₂ : PairsWritten b₁ b₂ k₁ v₁ (take t Y) k₂ v₂) where
        stem : Wrote b b₂ 0 (stem_pairs S Y) k₂
        stem = subst (λ (ps : List Pair). Wrote b b₂ 0 ps k₂) stem_is
            (wrote_then first (subst (λ (v : ℕ). Wrote b₁ b₂ k₁ (pairs_from v (take t Y)) k₂) w₁.rest (wrote w₂)))

        pub third_room : RoomFrom b₂ k₂ 0 (rest Y t)
        third_room = record {
          waits = omega (arith, stem.count, cycle_count, all_few, room.waits, waits_stay stem);
          edges = omega (arith, stem.count, cycle_count, all_few, room.edges, edges_stay stem);
          fits = omega (arith, past_short);
        }

        module _ {b₃ : PairBuffers} {k₃ v₃ : ℕ} (w₃ : PairsWritten b₂ b₃ k₂ 0 (rest Y t) k₃ v₃) where
          third : Wrote b₂ b₃ k₂ (pairs_from 0 (rest Y t)) k₃
          third = wrote w₃

          pub fourth_room : RoomFrom b₃ k₃ v₃ (take t Y)
          fourth_room = subst (λ (v : ℕ). RoomFrom b₃ k₃ v (take t Y)) (sym w₃.rest) (record {
            waits = omega (arith, stem.count, third.count, cycle_count, all_few, room.waits, waits_stay stem, waits_stay third);
            edges = omega (arith, stem.count, third.count, cycle_count, all_few, room.edges, edges_stay stem, edges_stay third);
            fits = omega (arith, rest_short 0 (rest Y t), past_short, until_short);
          })

          module _ {b₄ : PairBuffers} {k₄ v₄ : ℕ} (w₄ : PairsWritten b₃ b₄ k₃ v₃ (take t Y) k₄ v₄) where
            cycle : Wrote b₂ b₄ k₂ (cycle_pairs Y) k₄
            cycle = subst (λ (ps : List Pair). Wrote b₂ b₄ k₂ ps k₄) cycle_is
                (wrote_then third (subst (λ (v : ℕ). Wrote b₃ b₄ k₃ (pairs_from v (take t Y)) k₄) w₃.rest (wrote w₄)))

            whole : Wrote b b₄ 0 (stem_pairs S Y ++ cycle_pairs Y) k₄
            whole = wrote_then stem cycle

            -- the lists that were lent hold it
            pub lasso_written : {W E : List ℕ} → W ≡ b₄.waits → E ≡ b₄.edges → LassoWritten b (lent_pairs W E) S Y (record { refusal = 0; stem = k₂; cycle = k₄ - k₂ })
            lasso_written w e = rw (w, e) (record {
              is = whole.is;
              accepted = refl;
              stem_length = omega (arith, stem.count);
              cycle_length = omega (arith, stem.count, cycle.count);
              few = all_few;
            })

-- the same of a stem and a cycle by other names
pub written_as : {b b' : PairBuffers} {S S' Y Y' : List ℕ} {r : WorkAnswer} → S ≡ S' → Y ≡ Y' → LassoWritten b b' S Y r → LassoWritten b b' S' Y' r
written_as {b} {b'} {S} {S'} {Y} {Y'} {r} p q w = subst (λ (y : List ℕ). LassoWritten b b' S' y r) q (subst (λ (s : List ℕ). LassoWritten b b' s Y r) p w)
