-- From what the rounds and the climb leave, in raised numbers, to the weights as integers.
use mathlib.Core.Path.{◌≡◌}
use mathlib.Core.Logic.{inl, inr}
use mathlib.Core.List.{List, [], ◌∷◌}
use Prim.Native.Nat.{ℕ, ◌+◌, ◌*◌, ◌≤◌, ◌<◌}
use native.Mathlib.Omega.{arith}
use native.Mathlib.Decide.{dec_lt}
use lib.ListN.{length}
use lib.IntN.{ℤ, pos, ◌+ℤ◌}
use Rattle.integers.proofs.Parts.{Parts, plus, ext, le_of, lt_of}
use Rattle.integers.proofs.Pigeonhole.{pigeon}
use Rattle.walks.specs.Walk.{at, atℤ, ArcWalk}
use Rattle.walks.specs.Weight.{weight_of, sum, total, NegativeCycle, NoneNegative, LeastWeight, unreached, PotentialOrMark}
use Rattle.walks.specs.Form.{Graph, CoefficientsInRange}
use Rattle.walks.specs.SearchNumbers.{raised, raised_all, bias, start, inf, deep}
use Rattle.walks.specs.SearchTerms.{Attained, Least, Negative, raised_weight}
use Rattle.walks.proofs.Walks.{walk_arc, walk_end, sources}
use Rattle.walks.proofs.Weights.{none_negative}
use Rattle.walks.proofs.Raised.{at_raised, raised_parts, raised_abs}
use Rattle.walks.proofs.RoundLaws.{least}
use Rattle.walks.proofs.RaisedWeights.{parts, arcs}

module _ {F T : List ℕ} {cost : List ℤ} {reward : List ℕ} {a b c : ℤ} {n : ℕ} (g : Graph F T cost reward n) (k : CoefficientsInRange a b c) where
  abbrev weight : ℕ → ℤ
  weight = weight_of a b c cost reward

  abbrev W : ℕ → ℕ
  W = raised_weight a b c cost reward

  abbrev m : ℕ
  m = length F

  sum_parts : (x : ℕ) (l : List ℕ) (y : ℕ) → ArcWalk F T m x l y → Parts (sum weight l) (total W l) (bias * length l)
  sum_parts x [] y w = omega arith
  sum_parts x (e ∷ l) y w =
      let p : Parts (weight e +ℤ sum weight l) (W e + total W l) (bias + bias * length l) =
      plus (weight e) (sum weight l) (parts g k e w.0) (sum_parts (at T e) l y w.2) in omega arith

  -- ---- a cycle
  pub negative : (l : List ℕ) → Negative F T W m l → NegativeCycle F T m weight l
  negative l o = record {
    hub = o.hub;
    reached = record { path = o.path; walk = o.come };
    cycle = record { some = o.some; walk = o.walk };
    simple = sources F T m o.hub l o.walk o.simple;
    negative = lt_of (sum weight l) (pos 0) (omega (arith, sum_parts o.hub l o.hub o.walk, o.below));
  }

  -- it has no more arcs than the graph has nodes
  pub short : (l : List ℕ) → Negative F T W m l → length l ≤ n
  short l o = pigeon (length l) n (λ i. at T (at l i)) (λ i h. (g.arc (at l i) (walk_arc F T m o.hub l o.hub o.walk i h)).target) o.simple

  -- ---- potentials
  module _ (d : List ℤ) (l : length d ≡ 2048) (o : Least F T W m (raised_all start d) 2048) where
    lowest : (v : ℕ) (z : ℤ) → v < 2048 → at (raised_all start d) v < inf → Parts z (at (raised_all start d) v) start → LeastWeight F T m weight v z
    lowest v z h i p = let r : Attained F T W m (at (raised_all start d) v) v = o.reached v h i in record {
      path = r.path;
      walk = r.walk;
      weighs = ext (sum weight r.path) z (omega (arith, sum_parts 0 r.path v r.walk, r.weighs));
      least = λ c w. le_of z (sum weight c) (omega (arith, sum_parts 0 c v w, least F T W m (raised_all start d) 2048 (arcs g k) o v c w));
    }

    pub potential : (v : ℕ) → v < 2048 → PotentialOrMark F T m weight v (atℤ d v)
    potential v h = potential' (at_raised start d v (omega arith))
      where
        potential' : at (raised_all start d) v ≡ raised start (atℤ d v) → PotentialOrMark F T m weight v (atℤ d v)
        potential' p =
            let q : Parts (atℤ d v) (raised start (atℤ d v)) start = raised_parts start (atℤ d v) (omega (arith, o.floor v h)) in
            elim (dec_lt (at (raised_all start d) v) inf) [
              | yes i ↦ inr (
                lowest v (atℤ d v) h i (rw p q),
                raised_abs start deep (atℤ d v) (omega (arith, o.floor v h)) (omega (arith, o.floor v h)) (omega (arith, o.ceiling v h i)),
              )
              | no i ↦ inl (
                ext (atℤ d v) unreached (omega (arith, o.top v h)),
                λ r. i (least F T W m (raised_all start d) 2048 (arcs g k) o v r.path r.walk).0,
              )
            ]

    pub none_below : NoneNegative F T m weight
    none_below = none_negative F T m weight 2048 (atℤ d)
        (λ x r. walk_end F T m 2048 (arcs g k).target 0 r.path x (omega arith) r.walk) potential
