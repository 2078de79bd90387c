-- A turn of the loop, over plain lists.
use mathlib.Core.Path.{◌≡◌, refl, sym, ap, subst, ◌∙◌}
use mathlib.Core.List.{List}
use Prim.Native.Nat.{ℕ, ◌≤◌, ◌<◌}
use native.Mathlib.Omega.{arith}
use lib.ListN.{length, take}
use lib.IntN.{ℤ, pos, neg_ℤ, nat_abs, ◌-ℤ◌, +ℤ_idl}
use mir.Syntax.{w64}
use mir.Val.{SFits, to_z, of_z}
use mir.ValLaws.{to_z-of_z, to_z_pos}
use Rattle.integers.proofs.Machine.{small, back, carry}
use Rattle.std.specs.Prelude.{Option, None, Result}
use Rattle.walks.specs.declared.Malformed.{Malformed}
use Rattle.ratio.proofs.RatioAnswerLaws.{coded}
use Rattle.integers.proofs.Parts.{abs_parts, neg_up, neg_dn}
use Rattle.walks.specs.Walk.{at, atℤ}
use Rattle.walks.specs.Weight.{sum, total}
use Rattle.walks.proofs.Weights.{weight_sum_0}
use Rattle.graph.specs.Answer as Search
use Rattle.ratio.specs.Answer.{RatioArguments, RatioOf}
use Rattle.ratio.specs.Turns.{Reduced, InHand, Earns, Cheaper, LeastInHand, Improved, GainFound, Turned, SettledBy}
use Rattle.ratio.specs.declared.Ratio.{Ratio}
use Rattle.ratio.specs.declared.improve.Turn.{Turn}
use Rattle.ratio.proofs.Heights.{height, height_falls, cheaper}
use Rattle.ratio.proofs.Bounds.{hand_cost, hand_reward}
use Rattle.ratio.proofs.Searches.{simple_of, weight_by, idle_gain}

-- the cycle that a search found is in hand
pub handed : {F T : List ℕ} (weight : ℕ → ℤ) {n : ℕ} {potential potential' : List ℤ} {hand hand' : List ℕ} {j : ℕ} → n ≤ length hand'
    → Search.CycleFound F T weight n j potential potential' hand hand' → InHand F T n hand' j
handed {F} {T} weight {hand' = hand'} {j = j} room g = record { short = g.short; room = room; cycle = simple_of F T (length F) weight (take j hand') g.negative }

module _ {F T : List ℕ} {cost : List ℤ} {reward : List ℕ} {n a b : ℕ} (r : RatioArguments F T cost reward n a b) {hand : List ℕ} {k : ℕ}
    (h : InHand F T n hand k) (earned : Earns reward hand k) where
  abbrev c : List ℕ
  c = take k hand

  module _ {p : ℤ} {q : ℕ} (f : Reduced (sum (atℤ cost) c) (total (at reward) c) p q) where
    abbrev W : ℕ → ℤ
    W = weight_by q (neg_ℤ p) cost reward

    pub p_small : nat_abs p ≤ 20480000
    p_small = omega (arith, f.p_small, hand_cost r.graph h)

    pub q_small : q ≤ 20480000
    q_small = omega (arith, f.q_small, hand_reward r.graph h)

    fits_p : SFits w64 p
    fits_p = small p 20480001 (omega (arith, p_small)) (omega arith)

    fits_neg : SFits w64 (neg_ℤ p)
    fits_neg = small (neg_ℤ p) 20480001 (omega (arith, p_small, abs_parts p, abs_parts (neg_ℤ p), neg_up p, neg_dn p)) (omega arith)

    neg_is : pos 0 -ℤ to_z w64 (of_z w64 p) ≡ neg_ℤ p
    neg_is = ap (λ (x : ℤ). pos 0 -ℤ x) (to_z-of_z w64 p fits_p) ∙ +ℤ_idl (neg_ℤ p)

    pub neg_fits : SFits w64 (pos 0 -ℤ to_z w64 (of_z w64 p))
    neg_fits = carry fits_neg neg_is

    pub q_fits : SFits w64 (pos q)
    q_fits = small (pos q) 20480001 (omega (arith, q_small)) (omega arith)

    -- the search at the coefficients that the code has
    pub at_ratio : (potential potential' : List ℤ) (hand' : List ℕ) (A : Result (Option ℕ) Malformed)
        → Search.SearchAnswered F T cost reward (to_z w64 q) (to_z w64 (of_z w64 (pos 0 -ℤ to_z w64 (of_z w64 p)))) (pos 0) n potential potential' hand hand' A
        → Search.SearchAnswered F T cost reward (pos q) (neg_ℤ p) (pos 0) n potential potential' hand hand' A
    at_ratio potential potential' hand' A s = coded F T cost reward (pos q) (neg_ℤ p) (pos 0) n potential potential' hand hand' A s (to_z_pos w64 q (omega (arith, q_small))) (back neg_is fits_neg) refl

    pub formed : (potentials room : ℕ) → n ≤ potentials → n ≤ room → Search.SearchArguments F T cost reward (pos q) (neg_ℤ p) (pos 0) n potentials room
    formed potentials room hp hr = record {
      graph = r.graph;
      in_range = record {
        a_small = q_small;
        b_small = omega (arith, p_small, abs_parts p, abs_parts (neg_ℤ p), neg_up p, neg_dn p);
        c_small = omega arith;
      };
      potential_room = hp;
      cycle_room = hr;
    }

    -- a cycle that earns is found: it is cheaper
    pub improved : {potential potential' : List ℤ} {hand' : List ℕ} {j : ℕ} → length hand' ≡ length hand → Earns reward hand' j
        → Search.CycleFound F T W n j potential potential' hand hand' → Improved F T cost reward n k j potential potential' hand hand'
    improved {hand' = hand'} {j = j} e more g = record {
      in_hand = handed W (omega (arith, h.room)) g;
      earns = more;
      cheaper = cheaper (sum (atℤ cost) (take j hand')) (sum (atℤ cost) c) p (total (at reward) (take j hand')) (total (at reward) c) q
          (sum W (take j hand')) earned (weight_sum_0 (pos q) (neg_ℤ p) cost reward (take j hand')) g.negative.negative f.exact;
      kept = g.kept;
    }

    -- one without reward: it makes money
    pub gained : {potential potential' : List ℤ} {hand' : List ℕ} {j : ℕ} → total (at reward) (take j hand') ≡ 0
        → Search.CycleFound F T W n j potential potential' hand hand' → GainFound F T cost reward potential potential'
    gained {hand' = hand'} {j = j} none g = record {
      earning = record { arcs = c; cycle = h.cycle; earns = earned };
      gain = idle_gain q (neg_ℤ p) cost reward F T (take j hand') g.negative none;
      kept = g.kept;
    }

    -- none is found: the ratio is the least
    pub settled : {potential potential' : List ℤ} {hand' : List ℕ} → Search.PotentialsFound F T W n potential potential' hand hand'
        → LeastInHand F T cost reward n potential potential' hand' p q k
    settled g = record {
      in_hand = subst (λ (l : List ℕ). InHand F T n l k) (sym g.kept) h;
      earns = subst (λ (l : List ℕ). Earns reward l k) (sym g.kept) earned;
      ratio = subst (λ (l : List ℕ). RatioOf cost reward (take k l) p q) (sym g.kept) (record { lowest = f.lowest; exact = f.exact });
      p_small = p_small;
      q_small = q_small;
      none_below = g.none;
      potentials = g.potentials;
      rest = g.rest;
    }

  -- the height of the cycle in hand falls
  pub falls : {hand' : List ℕ} {j : ℕ} → InHand F T n hand' j → Earns reward hand' j → Cheaper cost reward (take j hand') c
      → height (sum (atℤ cost) (take j hand')) (total (at reward) (take j hand')) < height (sum (atℤ cost) c) (total (at reward) c)
  falls {hand'} {j} h' more less = let g = r.graph in
      height_falls (sum (atℤ cost) (take j hand')) (sum (atℤ cost) c) (total (at reward) (take j hand')) (total (at reward) c)
      more earned
      (hand_reward g h') (hand_reward g h)
      (hand_cost g h') (hand_cost g h) less

-- ---- docs/PORT.md names these; no proof cites them

pub same_arguments : {F T : List ℕ} {cost : List ℤ} {reward : List ℕ} {n a b a' b' : ℕ} → a' ≡ a → b' ≡ b
    → RatioArguments F T cost reward n a b → RatioArguments F T cost reward n a' b'
same_arguments ea eb r = rw (ea, eb) r

-- the answers of a turn
module _ (F T : List ℕ) (cost : List ℤ) (reward : List ℕ) (n k : ℕ) (potential potential' : List ℤ) (hand hand' : List ℕ) (t : Turn)
    (z : Turned F T cost reward n k potential potential' hand hand' t) where
  pub was_gain : t ≡ Turn.Gains → GainFound F T cost reward potential potential'
  was_gain e = subst (Turned F T cost reward n k potential potential' hand hand') e z

  pub was_done : (p : ℤ) (q : ℕ) → t ≡ Turn.Done (record { p = p; q = q }) → LeastInHand F T cost reward n potential potential' hand' p q k
  was_done p q e = subst (Turned F T cost reward n k potential potential' hand hand') e z

-- and of the loop
module _ (F T : List ℕ) (cost : List ℤ) (reward : List ℕ) (n : ℕ) (potential potential' : List ℤ) (hand' : List ℕ) (v : Option Ratio)
    (z : SettledBy F T cost reward n potential potential' hand' v) where
  pub settled_gain : v ≡ None → GainFound F T cost reward potential potential'
  settled_gain e = subst (SettledBy F T cost reward n potential potential' hand') e z
