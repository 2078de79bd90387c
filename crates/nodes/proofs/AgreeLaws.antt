-- Two automata that agree in their locations, clocks and edges have the same nodes and the same steps.
use mathlib.Core.Path.{◌≡◌, refl, sym, ap, ap₂, ◌∙◌}
use mathlib.Core.Bool.{Bool, true, false, cond, ◌&&◌, not}
use mathlib.Core.List.{List, [], ◌∷◌}
use mathlib.Core.Option.{Option, none, map}
use Prim.Native.Nat.{ℕ, suc, ◌<◌}
use native.Mathlib.Omega.{arith}
use borrow.Author.Tests.{ltb-true}
use lib.Dec.{leb, ltb, eqb}
use lib.ListN.{length, length-map}
use Rattle.automaton.specs.Tests.{only, every}
use Rattle.automaton.specs.Bounds.{interval, upper_holds, lower_holds, if_present}
use Rattle.automaton.specs.Ranks.{rank, close_up, mask}
use Rattle.automaton.specs.Automaton.{Automaton, in_bounds, in_guards}
use Rattle.automaton.specs.Priced.{free}
use Rattle.automaton.specs.Nodes.{Region, Node, intervals, inside, largest_class, is_node, Sound}
use Rattle.automaton.specs.Steps.{edge_to, edge_allowed, edge_step, some_whole, unit_to, unit_step, rise_to, carry_whole, carry_class, carry_to, move_step, step}
use Rattle.automaton.proofs.Tests.{by_bool, same_test}
use Rattle.automaton.proofs.Lists.{length-zip}
use Rattle.automaton.proofs.Ranks.{length_close, length_mask}
use Rattle.automaton.proofs.Nodes.{Proper, proper_of, of_proper}
use Rattle.nodes.specs.Numbers.{Layout, number, node_of, is_number, step_by}
use Rattle.nodes.proofs.Carried.{named}

every_agree : (p q : ℕ → ℕ → Bool) (xs : List ℕ) → ((j x : ℕ) → j < length xs → p j x ≡ q j x) → every p xs ≡ every q xs
unfolding every
every_agree p q [] h = refl
every_agree p q (x ∷ xs) h = ap₂ ◌&&◌ (h 0 x (omega arith)) (every_agree (λ j. p (suc j)) (λ j. q (suc j)) xs (λ j y l. h (suc j) y (omega arith)))

mask_agree : (r s : ℕ → Bool) (xs : List ℕ) → ((j : ℕ) → j < length xs → r j ≡ s j) → mask r xs ≡ mask s xs
unfolding mask
mask_agree r s [] h = refl
mask_agree r s (x ∷ xs) h = ap₂ ◌∷◌ (ap (λ (b : Bool). cond b 0 x) (h 0 (omega arith))) (mask_agree (λ j. r (suc j)) (λ j. s (suc j)) xs (λ j l. h (suc j) (omega arith)))

pub record Agree (A B : Automaton) : Type 0 where
  pub locations : A.locations ≡ B.locations
  pub clocks : A.clocks ≡ B.clocks
  pub edges : A.edges ≡ B.edges
  pub bound : (l j : ℕ) → l < A.locations → j < A.clocks → A.bound l j ≡ B.bound l j
  pub cost_rate : (l : ℕ) → l < A.locations → A.cost_rate l ≡ B.cost_rate l
  pub reward_rate : (l : ℕ) → l < A.locations → A.reward_rate l ≡ B.reward_rate l
  pub source : (e : ℕ) → e < A.edges → A.source e ≡ B.source e
  pub target : (e : ℕ) → e < A.edges → A.target e ≡ B.target e
  pub lower : (e j : ℕ) → e < A.edges → j < A.clocks → A.lower e j ≡ B.lower e j
  pub upper : (e j : ℕ) → e < A.edges → j < A.clocks → A.upper e j ≡ B.upper e j
  pub reset : (e j : ℕ) → e < A.edges → j < A.clocks → A.reset e j ≡ B.reset e j
  pub cost : (e : ℕ) → e < A.edges → A.cost e ≡ B.cost e
  pub reward : (e : ℕ) → e < A.edges → A.reward e ≡ B.reward e

bounds_agree : (A B : Automaton) → Agree A B → (l : ℕ) (xs : List ℕ) → l < A.locations → length xs ≡ A.clocks
    → in_bounds upper_holds A l xs ≡ in_bounds upper_holds B l xs
unfolding in_bounds
bounds_agree A B a l xs h n = every_agree (λ j x. upper_holds (A.bound l j) x) (λ j x. upper_holds (B.bound l j) x) xs
    (λ j x i. ap (λ (u : ℕ). upper_holds u x) (a.bound l j h (omega arith)))

guards_agree : (A B : Automaton) → Agree A B → (e : ℕ) (xs : List ℕ) → e < A.edges → length xs ≡ A.clocks
    → in_guards lower_holds upper_holds A e xs ≡ in_guards lower_holds upper_holds B e xs
unfolding in_guards
guards_agree A B a e xs h n = every_agree (λ j x. lower_holds (A.lower e j) x && if_present upper_holds (A.upper e j) x)
    (λ j x. lower_holds (B.lower e j) x && if_present upper_holds (B.upper e j) x) xs
    (λ j x i. ap₂ ◌&&◌ (ap (λ (l : ℕ). lower_holds l x) (a.lower e j h (omega arith)))
    (ap (λ (o : Option ℕ). if_present upper_holds o x) (a.upper e j h (omega arith))))

-- the region's intervals are as many as the clocks
intervals_length : (n : ℕ) (R : Region) → length R.whole ≡ n → length R.class ≡ n → length (intervals R) ≡ n
intervals_length n R h k = length-zip interval R.whole R.class (h ∙ sym k) ∙ h

module _ (A B : Automaton) (a : Agree A B) where
  inside_agree : (u : Node) → u.location < A.locations → length u.region.whole ≡ A.clocks → length u.region.class ≡ A.clocks
      → inside A u ≡ inside B u
  inside_agree u h m n = bounds_agree A B a u.location (intervals u.region) h (intervals_length A.clocks u.region m n)

  proper_agree : (u : Node) → Proper A u → Proper B u
  proper_agree u h = record {
    here = omega (arith, h.here, a.locations);
    wholes = h.wholes ∙ a.clocks;
    classes = h.classes ∙ a.clocks;
    closed = h.closed;
    cornered = h.cornered;
    bounded = sym (inside_agree u h.here h.wholes h.classes) ∙ h.bounded;
  }

agree_sym : (A B : Automaton) → Agree A B → Agree B A
agree_sym A B a = record {
  locations = sym a.locations;
  clocks = sym a.clocks;
  edges = sym a.edges;
  bound = λ l j h i. sym (a.bound l j (omega (arith, a.locations)) (omega (arith, a.clocks)));
  cost_rate = λ l h. sym (a.cost_rate l (omega (arith, a.locations)));
  reward_rate = λ l h. sym (a.reward_rate l (omega (arith, a.locations)));
  source = λ e h. sym (a.source e (omega (arith, a.edges)));
  target = λ e h. sym (a.target e (omega (arith, a.edges)));
  lower = λ e j h i. sym (a.lower e j (omega (arith, a.edges)) (omega (arith, a.clocks)));
  upper = λ e j h i. sym (a.upper e j (omega (arith, a.edges)) (omega (arith, a.clocks)));
  reset = λ e j h i. sym (a.reset e j (omega (arith, a.edges)) (omega (arith, a.clocks)));
  cost = λ e h. sym (a.cost e (omega (arith, a.edges)));
  reward = λ e h. sym (a.reward e (omega (arith, a.edges)));
}

pub nodes_agree : (A B : Automaton) → Agree A B → (u : Node) → is_node A u ≡ is_node B u
nodes_agree A B a u = same_test (is_node A u) (is_node B u)
    (λ h. of_proper B u (proper_agree A B a u (proper_of A u h)))
    (λ h. of_proper A u (proper_agree B A (agree_sym A B a) u (proper_of B u h)))

module _ (A B : Automaton) (a : Agree A B) (sound : Sound A) (u : Node) (h : Proper A u) where
  edge_agree : (e : ℕ) → edge_step A u e ≡ edge_step B u e
  unfolding edge_step
  edge_agree e = by_bool (ltb e A.edges)
      (λ t. let l = ltb-true e A.edges t in λ i. only (allowed l i) (record { to = leads l i; cost = a.cost e l i; reward = a.reward e l i }))
      (λ f. none_of A f ∙ sym (none_of B (ap (ltb e) (sym a.edges) ∙ f)))
    where
      none_of : (C : Automaton) → ltb e C.edges ≡ false → edge_step C u e ≡ none
      none_of C f = ap (λ (b : Bool). only (b && (eqb (C.source e) u.location
          && (in_guards lower_holds upper_holds C e (intervals u.region) && inside C (edge_to C u e))))
          (record { to = edge_to C u e; cost = C.cost e; reward = C.reward e })) f

      masked : (xs : List ℕ) → length xs ≡ A.clocks → e < A.edges → mask (A.reset e) xs ≡ mask (B.reset e) xs
      masked xs n l = mask_agree (A.reset e) (B.reset e) xs (λ j k. a.reset e j l (omega arith))

      leads : e < A.edges → edge_to A u e ≡ edge_to B u e
      leads l = λ i. record {
        location = a.target e l i;
        region = record { whole = masked u.region.whole h.wholes l i; class = close_up (masked u.region.class h.classes l i) };
        corner = rank (masked u.region.class h.classes l i) u.corner;
      }

      landed : e < A.edges → inside A (edge_to A u e) ≡ inside B (edge_to B u e)
      landed l = inside_agree A B a (edge_to A u e) (sound.targets e l) (length_mask (A.reset e) u.region.whole ∙ h.wholes)
          (length_close (mask (A.reset e) u.region.class) ∙ length_mask (A.reset e) u.region.class ∙ h.classes) ∙ ap (inside B) (leads l)

      allowed : e < A.edges → edge_allowed A u e ≡ edge_allowed B u e
      allowed l = ap₂ ◌&&◌ (ap (ltb e) a.edges) (ap₂ ◌&&◌ (ap (λ (x : ℕ). eqb x u.location) (a.source e l))
          (ap₂ ◌&&◌ (guards_agree A B a e (intervals u.region) l (intervals_length A.clocks u.region h.wholes h.classes)) (landed l)))

  unit_agree : unit_step A u ≡ unit_step B u
  unfolding unit_step
  unit_agree = λ i. only (not (some_whole u) && eqb u.corner (largest_class u))
      (record { to = unit_to u; cost = a.cost_rate u.location h.here i; reward = a.reward_rate u.location h.here i })

  move_agree : move_step A u ≡ move_step B u
  unfolding move_step
  move_agree = λ i. cond (some_whole u) (only (rise i) (free (rise_to u)))
      (only (ltb u.corner (largest_class u) && carry i) (free (carry_to u)))
    where
      rise : inside A (rise_to u) ≡ inside B (rise_to u)
      rise = inside_agree A B a (rise_to u) h.here h.wholes (length-map u.region.class suc ∙ h.classes)

      carry : inside A (carry_to u) ≡ inside B (carry_to u)
      carry = inside_agree A B a (carry_to u) h.here
          (length-zip (carry_whole (largest_class u)) u.region.whole u.region.class (h.wholes ∙ sym h.classes) ∙ h.wholes)
          (length-map u.region.class (carry_class (largest_class u)) ∙ h.classes)

  step_agree : (code : ℕ) → step A u code ≡ step B u code
  unfolding step
  step_agree code = λ i. cond (leb code 31) (edge_agree code i) (cond (eqb code 32) (unit_agree i) (cond (eqb code 33) (move_agree i) none))

pub steps_agree : (A B : Automaton) → Agree A B → Sound A → (u : Node) (code : ℕ) → is_node A u ≡ true → step A u code ≡ step B u code
steps_agree A B a sound u code h = step_agree A B a sound u (proper_of A u h) code

-- ---- and on numbers

pub numbers_agree : (y : Layout) (A B : Automaton) → Agree A B → (x : ℕ) → is_number y A x ≡ is_number y B x
unfolding is_number
numbers_agree y A B a x = ap₂ ◌&&◌ (ap (λ (k : ℕ). eqb (number y (node_of y k x)) x) a.clocks)
    (nodes_agree A B a (node_of y A.clocks x) ∙ ap (λ (k : ℕ). is_node B (node_of y k x)) a.clocks)

pub number_steps_agree : (y : Layout) (A B : Automaton) → Agree A B → Sound A → (x code : ℕ) → is_node A (node_of y A.clocks x) ≡ true
    → step_by y A x code ≡ step_by y B x code
unfolding step_by
number_steps_agree y A B a sound x code h =
    ap (map (named (number y))) (steps_agree A B a sound (node_of y A.clocks x) code h ∙ ap (λ (k : ℕ). step B (node_of y k x) code) a.clocks)
