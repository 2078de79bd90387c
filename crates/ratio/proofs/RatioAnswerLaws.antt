-- The first search one by its coefficients, the copy of the cycle, and what the verdict's number says.
use mathlib.Core.Path.{◌≡◌, refl, sym, ap, subst, ◌∙◌}
use mathlib.Core.Bool.{true}
use mathlib.Core.List.{List, ◌++◌}
use Prim.Native.Nat.{ℕ, ◌≤◌, ◌<◌}
use native.Mathlib.Omega.{arith}
use borrow.Author.Tests.{ltb-true}
use lib.ListN.{length, take, drop, replicate, length-replicate}
use lib.Dec.{ltb}
use lib.IntN.{ℤ, pos}
use lib.Seq.{length-take-le, take_at, drop_at}
use Rattle.integers.proofs.Parts.{up, dn}
use Rattle.walks.specs.Form.{Graph, CoefficientsInRange}
use Rattle.walks.specs.Weight.{weight_of}
use Rattle.walks.specs.Cycles.{EarningArcs, NoneEarns, IdleGainArcs}
use Rattle.std.specs.Prelude.{Option, Some, None, Result, Ok, Err}
use Rattle.walks.specs.declared.Malformed.{Malformed}
use Rattle.graph.specs.Answer as Search
use Rattle.ratio.specs.Answer.{RatioQuestions, no_to_13, no_to_14, yes_to_both}

-- a new list of k entries has room for as many
pub room : {A : Type 0} {n : ℕ} (k : ℕ) (x : A) → n ≤ k → n ≤ length (replicate k x)
room k x h = omega (arith, length-replicate k x)

-- the search at the coefficients that the code has
pub coded : (F T : List ℕ) (cost : List ℤ) (reward : List ℕ) (a b c : ℤ) (n : ℕ) (potential potential' : List ℤ) (arcs arcs' : List ℕ) (A : Result (Option ℕ) Malformed) {x y z : ℤ}
    → Search.SearchAnswered F T cost reward x y z n potential potential' arcs arcs' A → x ≡ a → y ≡ b → z ≡ c
    → Search.SearchAnswered F T cost reward a b c n potential potential' arcs arcs' A
coded F T cost reward a b c n potential potential' arcs arcs' A s ea eb ec = rw (sym ea, sym eb, sym ec) s

-- malformed arguments are no graph: docs/PORT.md names this; no proof cites it
pub no_graph : (F T : List ℕ) (cost : List ℤ) (reward : List ℕ) (a b c : ℤ) (n : ℕ) (potential potential' : List ℤ) (arcs arcs' : List ℕ) (A : Result (Option ℕ) Malformed)
    → Search.SearchAnswered F T cost reward a b c n potential potential' arcs arcs' A
    → CoefficientsInRange a b c → n ≤ length potential → n ≤ length arcs → {m : Malformed} → A ≡ Err m → Graph F T cost reward n → ⊥
no_graph F T cost reward a b c n potential potential' arcs arcs' A z k hp ha e g =
    (subst (Search.SearchAnswered F T cost reward a b c n potential potential' arcs arcs') e z).0
    (record { graph = g; in_range = k; potential_room = hp; cycle_room = ha })

-- a search by rewards alone, each unit below 0
pub record SearchByReward (F T : List ℕ) (cost : List ℤ) (reward : List ℕ) (n : ℕ) (potential potential' : List ℤ) (arcs arcs' : List ℕ) (A : Result (Option ℕ) Malformed) : Type 0 where
  pub b : ℤ
  pub negative : up b ≡ 0
  pub some : 0 < dn b
  pub in_range : CoefficientsInRange (pos 0) b (pos 0)
  pub answered : Search.SearchAnswered F T cost reward (pos 0) b (pos 0) n potential potential' arcs arcs' A

-- by the coefficients that the code has
pub by_reward : {F T : List ℕ} {cost : List ℤ} {reward : List ℕ} {n : ℕ} {a b c : ℤ} {potential potential' : List ℤ} {arcs arcs' : List ℕ} {A : Result (Option ℕ) Malformed}
    → Search.SearchAnswered F T cost reward a b c n potential potential' arcs arcs' A
    → CoefficientsInRange a b c → up b ≡ 0 → ltb 0 (dn b) ≡ true → a ≡ pos 0 → c ≡ pos 0
    → SearchByReward F T cost reward n potential potential' arcs arcs' A
by_reward {F} {T} {cost} {reward} {n} {a} {b} {c} {potential} {potential'} {arcs} {arcs'} {A} z range negative some no_cost no_arc = record {
  b = b;
  negative = negative;
  some = ltb-true 0 (dn b) some;
  in_range = record { a_small = omega arith; b_small = range.b_small; c_small = omega arith };
  answered = coded F T cost reward (pos 0) b (pos 0) n potential potential' arcs arcs' A z no_cost refl no_arc;
}

-- by what it answered
module _ {F T : List ℕ} {cost : List ℤ} {reward : List ℕ} {n : ℕ} {potential potential' : List ℤ} {arcs arcs' : List ℕ} {A : Result (Option ℕ) Malformed}
    (i : SearchByReward F T cost reward n potential potential' arcs arcs' A) {o : Option ℕ} (e : A ≡ Ok o) where
  abbrev Is : Result (Option ℕ) Malformed → Type 0
  Is = Search.SearchAnswered F T cost reward (pos 0) i.b (pos 0) n potential potential' arcs arcs'

  pub found : {k : ℕ} → o ≡ Some k → Search.CycleFound F T (weight_of (pos 0) i.b (pos 0) cost reward) n k potential potential' arcs arcs'
  found f = (subst Is (e ∙ ap Ok f) i.answered).1

  pub none : o ≡ None → Graph F T cost reward n × Search.PotentialsFound F T (weight_of (pos 0) i.b (pos 0) cost reward) n potential potential' arcs arcs'
  none f = let y = subst Is (e ∙ ap Ok f) i.answered in (y.0.graph, y.1)

-- the cycle copied to the front of the lent buffer
module _ (hand cycle cycle' : List ℕ) (k : ℕ) (fits : k ≤ length hand) (e : cycle' ≡ take k hand ++ drop k cycle) where
  sized : length (take k hand) ≡ k
  sized = length-take-le k hand fits

  pub copied_front : take k cycle' ≡ take k hand
  copied_front = ap (take k) e ∙ take_at (take k hand) (drop k cycle) k sized

  pub copied_rest : drop k cycle' ≡ drop k cycle
  copied_rest = ap (drop k) e ∙ drop_at (take k hand) (drop k cycle) k sized

-- what each number says of the graph
module _ {F T : List ℕ} {cost : List ℤ} {reward : List ℕ} where
  pub numbered_13 : RatioQuestions F T cost reward 13 → NoneEarns F T (length F) reward
  numbered_13 (no_to_13 e a) = a
  numbered_13 (no_to_14 e c i) = absurd (omega arith)
  numbered_13 (yes_to_both e c a) = absurd (omega arith)

  pub numbered_14 : RatioQuestions F T cost reward 14 → EarningArcs F T (length F) reward × IdleGainArcs F T (length F) cost reward
  numbered_14 (no_to_13 e a) = absurd (omega arith)
  numbered_14 (no_to_14 e c i) = (c, i)
  numbered_14 (yes_to_both e c a) = absurd (omega arith)
