-- What lists that keep the rules show of the steps.
use mathlib.Core.Path.{◌≡◌, refl, sym, ap, ◌∙◌, subst}
use mathlib.Core.Bool.{Bool, true, false, ◌&&◌, ◌||◌, not}
use mathlib.Core.List.{List, [], ◌∷◌}
use mathlib.Core.Option.{Option, none, some}
use Prim.Native.Nat.{ℕ, zero, suc, ◌-◌, ◌%◌, ◌≤◌, ◌<◌}
use native.Mathlib.Decide.{ℕ_discrete}
use native.Mathlib.Nat.{le_of_suc-le-suc, mod-eq-zero_of_dvd, le_of_dvd}
use native.Mathlib.Omega.{arith}
use borrow.Author.Tests.{ltb-true, leb-true, eqb-true, eq-eqb, not-true}
use lib.Dec.{eqb, ltb}
use lib.IntN.{ℤ, nat_abs, ◌+ℤ◌}
use lib.ListN.{length, get_or}
use lib.Signed.{le_z}
use Rattle.integers.specs.Lowest.{Lowest}
use Rattle.integers.proofs.Parts.{ext, le_of, at_most}
use Rattle.automaton.specs.Tests.{every}
use Rattle.automaton.specs.Priced.{Priced, chain}
use Rattle.automaton.specs.Walks.{Walk, Reachable, ReachableCycle}
use Rattle.automaton.specs.Weights.{weight, Feasible}
use Rattle.automaton.proofs.Tests.{&&-left, &&-right, &&-intro, clash}
use Rattle.automaton.proofs.Walks.{reach_holds}
use Rattle.sheet.specs.Questions.{each}
use Rattle.sheet.proofs.QuestionLaws.{each_at}
use Rattle.walks.specs.Walk.{at, atℤ}
use Rattle.contract.specs.Questions.{TooMany}
use Rattle.contract.specs.Accepted.{Listed}
use Rattle.contract.specs.Rules.{all_true, index_of, lists, rises, is_lowest, if_allowed, is_allowed, each_step, holds_all, keeps, is_lasso}
use Rattle.contract.proofs.Indices.{index_is}
use Rattle.contract.proofs.Counts.{few_listed}

-- ---- tests
pub or_cases {ℓ} : {X : Type ℓ} (a b : Bool) → a || b ≡ true → (a ≡ true → X) → (b ≡ true → X) → X
or_cases true b h f g = f refl
or_cases false b h f g = g h

pub every_at : (p : ℕ → ℕ → Bool) (l : List ℕ) → every p l ≡ true → (i : ℕ) → i < length l → p i (at l i) ≡ true
unfolding every
every_at p [] h i b = absurd (omega arith)
every_at p (x ∷ l) h zero b = &&-left (p 0 x) (every (λ j. p (suc j)) l) h
every_at p (x ∷ l) h (suc i) b = every_at (λ j. p (suc j)) l (&&-right (p 0 x) (every (λ j. p (suc j)) l) h) i (le_of_suc-le-suc b)

rises_at : (l : List ℕ) → rises l ≡ true → (i j : ℕ) → i < j → j < length l → at l i < at l j
unfolding rises
rises_at l h i zero b k = absurd (omega arith)
rises_at l h i (suc j) b k =
    let n : at l j < at l (suc j) = ltb-true (at l j) (at l (suc j)) (each_at (length l - 1) (λ i. ltb (at l i) (at l (suc i))) h j (omega arith)) in
    elim (ℕ_discrete i j) [ yes e ↦ rw e n | no e ↦ omega (arith, rises_at l h i j (omega arith) (omega arith)) ]

-- each of a list of tests
pub all_at : (l : List Bool) → all_true l ≡ true → (i : ℕ) → i < length l → get_or l i true ≡ true
unfolding all_true
all_at [] h i b = absurd (omega arith)
all_at (x ∷ l) h zero b = &&-left x (all_true l) h
all_at (x ∷ l) h (suc i) b = all_at l (&&-right x (all_true l) h) i (le_of_suc-le-suc b)

pub lowest_is : (p : ℤ) (q : ℕ) → is_lowest p q ≡ true → Lowest p q
unfolding is_lowest
lowest_is p q h = record {
  positive = some;
  coprime = λ d m n. (let both : Bool = eqb (nat_abs p % d) 0 && eqb (q % d) 0 in
      or_cases (eqb d 1) (not both) (each_at (suc q) _ (all_at _ h 1 (omega arith)) d (omega (arith, le_of_dvd some n)))
      (λ t. eqb-true d 1 t)
      (λ t. clash (&&-intro (eq-eqb (nat_abs p % d) 0 (mod-eq-zero_of_dvd d m)) (eq-eqb (q % d) 0 (mod-eq-zero_of_dvd d n))) (not-true both t)));
}
  where
    some : 0 < q
    some = ltb-true 0 q (all_at _ h 0 (omega arith))

pub equal : (a b : ℤ) → le_z a b ≡ true → le_z b a ≡ true → a ≡ b
equal a b h k = ext a b (omega (arith, at_most a b h, at_most b a k))

-- a walk that is allowed and passes the test
pub record Allowed (t : Priced ℕ → Bool) (o : Option (Priced ℕ)) : Type 0 where
  pub value : Priced ℕ
  pub is : o ≡ some value
  pub passes : t value ≡ true

pub allowed_is : (t : Priced ℕ → Bool) (o : Option (Priced ℕ)) → is_allowed t o ≡ true → Allowed t o
allowed_is t none h = clash h refl
allowed_is t (some v) h = record { value = v; is = refl; passes = h }

-- ---- steps, which have codes below 34
module _ (step : ℕ → ℕ → Option (Priced ℕ)) (start : ℕ) (codes : (x code : ℕ) (v : Priced ℕ) → step x code ≡ some v → code < 34) where
  -- what is tested of each step from the listed nodes
  each_step_lem : (nodes : List ℕ) (t : ℕ → Priced ℕ → Bool) → each_step step start nodes t ≡ true → (i : ℕ) → i < length nodes
      → (code : ℕ) (v : Priced ℕ) → step (at nodes i) code ≡ some v → t i v ≡ true
  unfolding each_step
  each_step_lem nodes t h i b code v e =
      sym (ap (if_allowed (t i)) e) ∙ each_at 34 (λ k. if_allowed (t i) (step (at nodes i) k))
      (every_at (λ i x. each 34 (λ k. if_allowed (t i) (step x k))) nodes h i b) code (codes (at nodes i) code v e)

  module _ (nodes : List ℕ) (all : holds_all step start nodes ≡ true) where
    -- ---- the listed nodes
    pub rising : (i j : ℕ) → i < j → j < length nodes → at nodes i < at nodes j
    unfolding holds_all
    rising = rises_at nodes (all_at _ all 0 (omega arith))

    short : length nodes ≤ 2048
    unfolding holds_all
    short = leb-true (length nodes) 2048 (all_at _ all 1 (omega arith))

    start_listed : index_of nodes start < length nodes
    unfolding holds_all
    start_listed = ltb-true (index_of nodes start) (length nodes) (all_at _ all 2 (omega arith))

    next_listed : (i : ℕ) → i < length nodes → (code : ℕ) (v : Priced ℕ) → step (at nodes i) code ≡ some v → index_of nodes v.to < length nodes
    unfolding holds_all
    next_listed i b code v e = ltb-true (index_of nodes v.to) (length nodes)
        (each_step_lem nodes (λ i v. lists nodes v.to) (all_at _ all 3 (omega arith)) i b code v e)

    -- every reachable node is listed
    index_below : (z : ℕ) → Reachable step start z → index_of nodes z < length nodes
    index_below = reach_holds step start (λ z. index_of nodes z < length nodes) start_listed
        (λ u code v e h. next_listed (index_of nodes u) h code v (ap (λ (x : ℕ). step x code) (index_is nodes u h) ∙ e))

    pub listed : (z : ℕ) → Reachable step start z → Listed nodes (length nodes) z
    listed z r = record { index = index_of nodes z; below = index_below z r; is = index_is nodes z (index_below z r) }

    pub not_many : ¬ TooMany step start
    not_many = few_listed step start nodes (length nodes) short listed

    -- what is tested of each step, at a reachable node
    at_reachable : (t : ℕ → Priced ℕ → Bool) → each_step step start nodes t ≡ true → (u code : ℕ) (v : Priced ℕ) → Reachable step start u
        → step u code ≡ some v → t (index_of nodes u) v ≡ true
    at_reachable t h u code v r e = each_step_lem nodes t h (index_of nodes u) (index_below u r) code v
        (ap (λ (x : ℕ). step x code) (index_is nodes u (index_below u r)) ∙ e)

    -- ---- potentials
    pub feasible : (p : ℤ) (q : ℕ) (potentials : List ℤ) → keeps step start p q nodes potentials ≡ true
        → Feasible step start p q (λ z. atℤ potentials (index_of nodes z))
    unfolding keeps
    feasible p q potentials h = record {
      holds = λ u code v r e. (let a : ℤ = atℤ potentials (index_of nodes v.to) in
          let b : ℤ = atℤ potentials (index_of nodes u) +ℤ weight p q v.cost v.reward in
          le_of a b (at_most a b (at_reachable _ h u code v r e)));
    }

  -- ---- the lasso
  pub record Closed (t : ℤ → ℕ → Bool) : Type 0 where
    pub cost : ℤ
    pub reward : ℕ
    pub cycle : ReachableCycle step start cost reward
    pub passes : t cost reward ≡ true

  pub lasso : (t : ℤ → ℕ → Bool) (stem cycle : List ℕ) → is_lasso step start t stem cycle ≡ true → Closed t
  unfolding is_lasso
  lasso t stem cycle h =
      let u = allowed_is _ (chain step start stem) (all_at _ h 1 (omega arith)) in
      let v = allowed_is _ (chain step u.value.to cycle) u.passes in
      let e : v.value.to ≡ u.value.to = eqb-true v.value.to u.value.to (all_at _ v.passes 0 (omega arith)) in
      record {
        cost = v.value.cost;
        reward = v.value.reward;
        cycle = record {
          node = u.value.to;
          reached = record { codes = stem; cost = u.value.cost; reward = u.value.reward; walk = record { walks = u.is } };
          cycle = record {
            codes = cycle;
            some_step = ltb-true 0 (length cycle) (all_at _ h 0 (omega arith));
            back = subst (λ (z : ℕ). Walk step u.value.to cycle z v.value.cost v.value.reward) e (record { walks = v.is });
          };
        };
        passes = all_at _ v.passes 1 (omega arith);
      }
