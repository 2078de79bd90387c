-- The loop that goes through the codes up to the first edge.
use mathlib.Core.Path.{◌≡◌, refl, sym, ap, ◌∙◌}
use mathlib.Core.List.{List, [], ◌∷◌, ◌++◌, append_assoc, append-nil}
use Prim.Native.Nat.{ℕ, ◌+◌, ◌≤◌, ◌<◌}
use native.Mathlib.Numerals.{add-one}
use native.Mathlib.Omega.{arith}
use lib.ListN.{length, get_or, take, drop}
use lib.Seq.{take_all, take-suc, drop-cons}
use Rattle.std.proofs.lemmas.List.{drop_all}
use Rattle.schedules.specs.Turning.{until_edge, past_edge}
use Rattle.schedules.proofs.TurnLaws.{until_none, until_edge_lem, until_delay, past_none, past_edge_lem, past_delay}

module _ (C : List ℕ) where
  -- one code more, and the codes from place i on, the first of them apart
  one_more : (i : ℕ) → i < length C → take (i + 1) C ≡ take i C ++ (get_or C i 0 ∷ [])
  one_more i h = ap (λ (j : ℕ). take j C) (add-one i) ∙ take-suc C i 0 h

  pub first_left : (i : ℕ) → i < length C → drop i C ≡ get_or C i 0 ∷ drop (i + 1) C
  first_left i h = drop-cons C i 0 h ∙ ap (λ (j : ℕ). get_or C i 0 ∷ drop j C) (sym (add-one i))

  -- the first edge of all codes is the first one from i on
  pub record Before (i : ℕ) : Type 0 where
    pub until : take i C ++ until_edge (drop i C) ≡ until_edge C
    pub after : past_edge (drop i C) ≡ past_edge C

  pub begins : Before 0
  begins = record { until = refl; after = refl }

  -- r is just after the first edge, or where the codes end
  pub record Turns (r : ℕ) : Type 0 where
    pub until : take r C ≡ until_edge C
    pub past : drop r C ≡ past_edge C

  pub ends : {i : ℕ} → Before i → length C ≤ i → Turns (length C)
  ends {i} b h = record {
    until = take_all (length C) C (omega arith) ∙ sym (take_all i C h) ∙ sym (append-nil (take i C))
        ∙ ap (λ (l : List ℕ). take i C ++ l) (sym until_none ∙ ap until_edge (sym none)) ∙ b.until;
    past = drop_all (length C) C (omega arith) ∙ sym past_none ∙ ap past_edge (sym none) ∙ b.after;
  }
    where
      none : drop i C ≡ []
      none = drop_all i C h

  module _ {i : ℕ} (b : Before i) (there : i < length C) where
    pub found : get_or C i 0 ≤ 31 → Turns (i + 1)
    found l = record {
      until = one_more i there
          ∙ ap (λ (r : List ℕ). take i C ++ r) (sym (until_edge_lem (get_or C i 0) (drop (i + 1) C) l) ∙ ap until_edge (sym (first_left i there))) ∙ b.until;
      past = sym (past_edge_lem (get_or C i 0) (drop (i + 1) C) l) ∙ ap past_edge (sym (first_left i there)) ∙ b.after;
    }

    pub goes_on : 31 < get_or C i 0 → Before (i + 1)
    goes_on l = record {
      until = ap (λ (r : List ℕ). r ++ until_edge (drop (i + 1) C)) (one_more i there)
          ∙ append_assoc (take i C) (get_or C i 0 ∷ []) (until_edge (drop (i + 1) C))
          ∙ ap (λ (r : List ℕ). take i C ++ r) (sym (until_delay (get_or C i 0) (drop (i + 1) C) l) ∙ ap until_edge (sym (first_left i there))) ∙ b.until;
      after = sym (past_delay (get_or C i 0) (drop (i + 1) C) l) ∙ ap past_edge (sym (first_left i there)) ∙ b.after;
    }
