-- The turned lasso: its parts make up the whole, and both lists of pairs end with the first edge of the cycle.
use mathlib.Core.Path.{◌≡◌, refl, sym, ap, ◌∙◌}
use mathlib.Core.Bool.{Bool, true, false, cond, ◌||◌}
use mathlib.Core.List.{List, [], ◌∷◌, ◌++◌, append_assoc}
use Prim.Native.Nat.{ℕ, ◌≤◌, ◌<◌}
use native.Mathlib.Omega.{arith}
use borrow.Author.Tests.{leb-true, le-leb, lt-leb}
use Rattle.schedules.specs.Pairs.{is_edge, pairs_of}
use Rattle.schedules.specs.Turning.{until_edge, past_edge}
use Rattle.schedules.specs.WorkPlan.{EndsWith}
use Rattle.schedules.specs.WalkTerms.{rest_of}
use Rattle.schedules.proofs.EdgeInCycle.{has_edge}
use Rattle.schedules.proofs.PairLaws.{next_edge, next_none_left}

pub until_none : until_edge [] ≡ []
unfolding until_edge
until_none = refl

pub past_none : past_edge [] ≡ []
unfolding past_edge
past_none = refl

module _ (code : ℕ) (codes : List ℕ) where
  pub until_edge_lem : code ≤ 31 → until_edge (code ∷ codes) ≡ code ∷ []
  unfolding until_edge
  until_edge_lem l = ap (λ (b : Bool). code ∷ cond b [] (until_edge codes)) (le-leb code 31 l)

  pub until_delay : 31 < code → until_edge (code ∷ codes) ≡ code ∷ until_edge codes
  unfolding until_edge
  until_delay l = ap (λ (b : Bool). code ∷ cond b [] (until_edge codes)) (lt-leb code 31 l)

  pub past_edge_lem : code ≤ 31 → past_edge (code ∷ codes) ≡ codes
  unfolding past_edge
  past_edge_lem l = ap (λ (b : Bool). cond b codes (past_edge codes)) (le-leb code 31 l)

  pub past_delay : 31 < code → past_edge (code ∷ codes) ≡ past_edge codes
  unfolding past_edge
  past_delay l = ap (λ (b : Bool). cond b codes (past_edge codes)) (lt-leb code 31 l)

pub parts_whole : (codes : List ℕ) → until_edge codes ++ past_edge codes ≡ codes
unfolding until_edge past_edge
parts_whole [] = refl
parts_whole (code ∷ codes) = let ih = parts_whole codes in ap (λ (l : List ℕ). code ∷ l) (go (is_edge code) ih)
  where
    go : (b : Bool) → until_edge codes ++ past_edge codes ≡ codes → cond b [] (until_edge codes) ++ cond b codes (past_edge codes) ≡ codes
    go true h = refl
    go false h = h

-- ---- lists that end with an edge

-- the last code is edge e
pub record LastEdge (e : ℕ) (codes : List ℕ) : Type 0 where
  pub before : List ℕ
  pub is : codes ≡ before ++ (e ∷ [])
  pub low : e ≤ 31

pub record TurnedAt (codes : List ℕ) : Type 0 where
  pub edge : ℕ
  pub last : LastEdge edge (until_edge codes)

pub until_ends : (codes : List ℕ) → has_edge codes ≡ true → TurnedAt codes
unfolding has_edge until_edge
until_ends [] h = absurd (let z : ◌≡◌ {A = ℕ} 0 1 = cc in omega arith)
until_ends (code ∷ codes) h = let ih = until_ends codes in go (is_edge code) refl ih h
  where
    go : (b : Bool) → is_edge code ≡ b → (has_edge codes ≡ true → TurnedAt codes) → b || has_edge codes ≡ true → TurnedAt (code ∷ codes)
    go true e ih h = record {
      edge = code;
      last = record { before = []; is = ap (λ (b : Bool). code ∷ cond b [] (until_edge codes)) e; low = leb-true code 31 e };
    }
    go false e ih h = let t = ih h in record {
      edge = t.edge;
      last = record {
        before = code ∷ t.last.before;
        is = ap (λ (b : Bool). code ∷ cond b [] (until_edge codes)) e ∙ ap (λ (l : List ℕ). code ∷ l) t.last.is;
        low = t.last.low;
      };
    }

pub last_after : {e : ℕ} (xs ys : List ℕ) → LastEdge e ys → LastEdge e (xs ++ ys)
last_after {e} xs ys h = record {
  before = xs ++ h.before;
  is = ap (λ (l : List ℕ). xs ++ l) h.is ∙ sym (append_assoc xs h.before (e ∷ []));
  low = h.low;
}

pub pairs_end : {e : ℕ} (codes : List ℕ) → LastEdge e codes → EndsWith e (pairs_of codes)
pairs_end {e} codes h = record { before = pairs_of h.before; wait = rest_of h.before; is = ap pairs_of h.is ∙ next_edge h.before e h.low }

-- nothing remains after the last edge
pub nothing_left : {e : ℕ} (codes : List ℕ) → LastEdge e codes → rest_of codes ≡ 0
nothing_left {e} codes h = ap rest_of h.is ∙ next_none_left h.before e h.low
