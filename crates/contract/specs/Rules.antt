-- Rules that a list of nodes, a lasso with its ratio, and potentials keep or break, as tests. They try the steps from the listed nodes and search for
-- nothing. What lists that keep them show of a sheet is proved (proofs/Rules.antt). No contract cites them yet: the certificates do (Certificate.antt).
use Rattle.std.specs.Prelude.{Bool, true, false, cond, ◌&&◌, ◌||◌, not, List, [], ◌∷◌, ℕ, suc, ◌-◌, ◌%◌, eqb, leb, ltb, ℤ, pos, nat_abs, ◌+ℤ◌, ◌*ℤ◌, length}
use Rattle.std.proofs.Math.Option.{Option, none, some}
use Rattle.std.specs.Int.Signed.{le_z}
use Rattle.automaton.specs.Tests.{every}
use Rattle.automaton.specs.Priced.{Priced, chain}
use Rattle.automaton.specs.Weights.{weight}
use Rattle.sheet.specs.Questions.{each}
use Rattle.walks.specs.Walk.{at, atℤ}

unfoldable pub all_true : List Bool → Bool
all_true [] = true
all_true (b ∷ l) = b && all_true l

-- ---- lists of nodes

-- the first place of x in a list, or the list's length where x is not in it
unfoldable pub index_of : List ℕ → ℕ → ℕ
index_of [] x = 0
index_of (z ∷ l) x = cond (eqb z x) 0 (suc (index_of l x))

abbrev pub lists : List ℕ → ℕ → Bool
lists l x = ltb (index_of l x) (length l)

-- "the node list rises"
unfoldable pub rises : List ℕ → Bool
rises l = each (length l - 1) (λ i. ltb (at l i) (at l (suc i)))

-- ---- ratios

-- "in lowest terms with q ≥ 1": no number up to q but 1 divides both
unfoldable pub is_lowest : ℤ → ℕ → Bool
is_lowest p q = all_true (ltb 0 q ∷ each (suc q) (λ d. eqb d 1 || not (eqb (nat_abs p % d) 0 && eqb (q % d) 0)) ∷ [])

-- a cycle with this cost and reward "earns"
abbrev pub earns : ℤ → ℕ → Bool
earns c r = ltb 0 r

-- "earns and has the claimed .. ratio", p/q
abbrev pub has_ratio : ℤ → ℕ → ℤ → ℕ → Bool
has_ratio p q c r = all_true (earns c r ∷ le_z (pos q *ℤ c) (p *ℤ pos r) ∷ le_z (p *ℤ pos r) (pos q *ℤ c) ∷ [])

-- ---- steps

-- does a step that is allowed pass the test?
abbrev pub if_allowed : (Priced ℕ → Bool) → Option (Priced ℕ) → Bool
if_allowed t none = true
if_allowed t (some v) = t v

-- is the walk allowed, and does it pass the test?
abbrev pub is_allowed : (Priced ℕ → Bool) → Option (Priced ℕ) → Bool
is_allowed t none = false
is_allowed t (some v) = t v

module _ (step : ℕ → ℕ → Option (Priced ℕ)) (start : ℕ) where
  -- each step from a listed node, by codes 0 to 33, passes the test, which is told the node's place
  unfoldable pub each_step : List ℕ → (ℕ → Priced ℕ → Bool) → Bool
  each_step nodes t = every (λ i x. each 34 (λ code. if_allowed (t i) (step x code))) nodes

  -- "the node list rises, holds the start and every successor of its members", and "holds at most 2,048 entries"
  unfoldable pub holds_all : List ℕ → Bool
  holds_all nodes = all_true (rises nodes ∷ leb (length nodes) 2048 ∷ lists nodes start ∷ each_step nodes (λ i v. lists nodes v.to) ∷ [])

  -- "no step between listed nodes has a target potential above the source's plus the weight"
  unfoldable pub keeps : ℤ → ℕ → List ℕ → List ℤ → Bool
  keeps p q nodes potentials =
      each_step nodes (λ i v. le_z (atℤ potentials (index_of nodes v.to)) (atℤ potentials i +ℤ weight p q v.cost v.reward))

  -- the cycle is walked from x back to x, and its cost and reward pass the test
  abbrev pub comes_back : (ℤ → ℕ → Bool) → List ℕ → ℕ → Bool
  comes_back t cycle x = is_allowed (λ v. all_true (eqb v.to x ∷ t v.cost v.reward ∷ [])) (chain step x cycle)

  -- "the steps walk a lasso whose cycle" passes the test: the stem is walked from the start, and the cycle from there
  unfoldable pub is_lasso : (ℤ → ℕ → Bool) → List ℕ → List ℕ → Bool
  is_lasso t stem cycle = all_true (ltb 0 (length cycle) ∷ is_allowed (λ u. comes_back t cycle u.to) (chain step start stem) ∷ [])
