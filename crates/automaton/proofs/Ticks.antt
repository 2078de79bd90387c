-- One nth of delay: how the nodes of a state step.
use mathlib.Core.Path.{◌≡◌, refl, sym, ap, ◌∙◌, subst}
use mathlib.Core.Bool.{Bool, true, false}
use mathlib.Core.List.{List, map, map-map, zip_with}
use mathlib.Core.Option.{some}
use Prim.Native.Nat.{ℕ, suc, ◌+◌, ◌*◌, ◌/◌, ◌%◌, ◌≤◌, ◌<◌}
use native.Mathlib.Nat.{mod-lt, div-add-mod'}
use native.Mathlib.Omega.{arith}
use borrow.Author.Tests.{eqb-true, eqb-false, ne_eqb}
use lib.Dec.{eqb}
use lib.Arith.{digits_div, digits_mod}
use Rattle.automaton.specs.Tests.{one_more_if, occurs}
use Rattle.automaton.specs.Bounds.{interval, upper_holds, upper_holds_nths}
use Rattle.automaton.specs.Ranks.{rank, close_up, largest}
use Rattle.automaton.specs.Automaton.{Automaton, in_bounds}
use Rattle.automaton.specs.Priced.{free}
use Rattle.automaton.specs.Nodes.{Node, inside}
use Rattle.automaton.specs.Steps.{unit_step, carry_whole, carry_class, move_step}
use Rattle.automaton.specs.Runs.{State, within_bounds}
use Rattle.automaton.proofs.Tests.{by_bool, clash}
use Rattle.automaton.proofs.Lists.{occurs_tail, occurs_map, occurs_not, Each, each_all, each_map, map_cong, map_same, every_imp, zip-map}
use Rattle.automaton.proofs.Ranks.{rank_zero, rank_lt, rank_eqb, rank_suc, close_suc}
use Rattle.automaton.proofs.Largest.{largest_close, carry_at, carry_off, rank_carry, close_carry}
use Rattle.automaton.proofs.Bounds.{next_within}
use Rattle.automaton.proofs.Codes.{rises, carries, turns}
use Rattle.automaton.proofs.Thresholds.{fractions, wholes, node_at, inside_agrees}

abbrev pub tick : State → State
tick s = record { location = s.location; values = map suc s.values }

-- the fractions one nth later, n for those that come to a whole
abbrev pub risen : ℕ → State → List ℕ
risen n s = map suc (fractions n s.values)

-- the node between: some clocks have left a whole number, and none has yet come to one
unfoldable pub midway : ℕ → State → ℕ → Node
midway n s i = record { location = s.location; region = record { whole = wholes n s.values; class = close_up (risen n s) }; corner = i }

-- ---- division of one more

-- a fraction that comes to n is 0, and the whole part is then one more
suc_digits : (n x : ℕ) → 0 < n → (suc x / n ≡ one_more_if (eqb (suc (x % n)) n) (x / n)) × (suc x % n ≡ carry_class n (suc (x % n)))
suc_digits n x p = by_bool (eqb (suc (x % n)) n)
    (λ e. let q = eqb-true (suc (x % n)) n e in let k : suc x ≡ suc (x / n) * n + 0 = omega (arith, div-add-mod' x n) in (
      ap (λ (a : ℕ). a / n) k ∙ digits_div (suc (x / n)) p ∙ sym (ap (λ (b : Bool). one_more_if b (x / n)) e),
      ap (λ (a : ℕ). a % n) k ∙ digits_mod (suc (x / n)) p ∙ sym (carry_at n (suc (x % n)) q),
    ))
    (λ e. let q : (suc (x % n) ≡ n → ⊥) = eqb-false (suc (x % n)) n e in let l = mod-lt x p in
    let k : suc x ≡ x / n * n + suc (x % n) = omega (arith, div-add-mod' x n) in let m : suc (x % n) < n = omega arith in (
      ap (λ (a : ℕ). a / n) k ∙ digits_div (x / n) m ∙ sym (ap (λ (b : Bool). one_more_if b (x / n)) e),
      ap (λ (a : ℕ). a % n) k ∙ digits_mod (x / n) m ∙ sym (carry_off n (suc (x % n)) q),
    ))

module _ (A : Automaton) (n : ℕ) (p : 0 < n) (s : State) where
  tick_fractions : fractions n (map suc s.values) ≡ map (carry_class n) (risen n s)
  tick_fractions = map-map (λ v. v % n) suc s.values
      ∙ map_cong (λ x. suc x % n) (λ x. carry_class n (suc (x % n))) s.values (each_all (λ x. (suc_digits n x p).1))
      ∙ sym (map-map (carry_class n) (λ x. suc (x % n)) s.values) ∙ ap (map (carry_class n)) (sym (map-map suc (λ v. v % n) s.values))

  tick_wholes : wholes n (map suc s.values) ≡ map (λ x. one_more_if (eqb (suc (x % n)) n) (x / n)) s.values
  tick_wholes = map-map (λ v. v / n) suc s.values
      ∙ map_cong (λ x. suc x / n) (λ x. one_more_if (eqb (suc (x % n)) n) (x / n)) s.values (each_all (λ x. (suc_digits n x p).0))

  -- ---- the risen fractions and their classes

  risen_le : Each (λ y. y ≤ n) (risen n s)
  risen_le = each_map suc (fractions n s.values) (each_map (λ v. v % n) s.values (each_all (λ x. mod-lt x p)))

  risen_occurs : (x : ℕ) → occurs x s.values ≡ true → occurs (suc (x % n)) (risen n s) ≡ true
  risen_occurs x m = occurs_map suc (x % n) (fractions n s.values) (occurs_map (λ v. v % n) x s.values m)

  risen_close : close_up (risen n s) ≡ map (λ x. rank (risen n s) (suc (x % n))) s.values
  unfolding close_up
  risen_close = ap (map (rank (risen n s))) (map-map suc (λ v. v % n) s.values) ∙ map-map (rank (risen n s)) (λ v. suc (v % n)) s.values

  none_whole : occurs 0 (close_up (risen n s)) ≡ false
  unfolding close_up
  none_whole = occurs_not 0 (map (rank (risen n s)) (risen n s)) (λ m. above.at 0 m refl)
    where
      positive : Each (λ y. 0 < y) (risen n s)
      positive = each_map suc (fractions n s.values) (each_all (λ x. omega arith))

      above : Each (λ k. k ≡ 0 → ⊥) (map (rank (risen n s)) (risen n s))
      above = each_map (rank (risen n s)) (risen n s)
          (record { at = λ y m e. let l = rank_lt (risen n s) 0 y (positive.at y m) (occurs_tail y 0 (risen n s) m) in omega arith })

  -- ---- leaving the whole numbers: with no fraction 0 nothing changes

  rise_class : (b : Bool) → occurs 0 (fractions n s.values) ≡ b → close_up (risen n s) ≡ map (one_more_if b) (close_up (fractions n s.values))
  rise_class b e = close_suc (fractions n s.values) ∙ ap (λ (c : Bool). map (one_more_if c) (close_up (fractions n s.values))) e

  rise_corner : (b : Bool) → occurs 0 (fractions n s.values) ≡ b → (t : ℕ) → rank (risen n s) (suc t) ≡ one_more_if b (rank (fractions n s.values) t)
  rise_corner b e t = rank_suc (fractions n s.values) t ∙ ap (λ (c : Bool). one_more_if c (rank (fractions n s.values) t)) e

  pub leave_not : occurs 0 (fractions n s.values) ≡ false → (t : ℕ) → node_at n s t ≡ midway n s (rank (risen n s) (suc t))
  unfolding node_at midway
  leave_not e t = λ i. record {
    location = s.location;
    region = record {
      whole = wholes n s.values;
      class = sym (rise_class false e ∙ map_same (one_more_if false) (close_up (fractions n s.values)) (each_all (λ x. refl))) i;
    };
    corner = sym (rise_corner false e t) i;
  }

  -- the clocks may grow by an nth
  module _ (fit : within_bounds A n (tick s) ≡ true) where
    midway_inside : (i : ℕ) → inside A (midway n s i) ≡ true
    unfolding midway in_bounds
    midway_inside i = ap (in_bounds upper_holds A s.location)
        (ap (zip_with interval (wholes n s.values)) risen_close ∙ zip-map interval (λ v. v / n) (λ v. rank (risen n s) (suc (v % n))) s.values)
        ∙ every_imp (λ j. upper_holds (A.bound s.location j)) (λ j. upper_holds_nths n (A.bound s.location j))
        (λ v. interval (v / n) (rank (risen n s) (suc (v % n)))) suc s.values
        (λ x j. next_within n x (rank (risen n s) (suc (x % n))) (A.bound s.location j) p) fit

    pub leave : occurs 0 (fractions n s.values) ≡ true → (t : ℕ) → move_step A (node_at n s t) ≡ some (free (midway n s (rank (risen n s) (suc t))))
    unfolding node_at midway
    leave e t = rises A (node_at n s t) (midway n s (rank (risen n s) (suc t))) whole_class (λ i. record {
      location = s.location;
      region = record { whole = wholes n s.values; class = sym (rise_class true e) i };
      corner = sym (rise_corner true e t) i;
    }) (midway_inside (rank (risen n s) (suc t)))
      where
        whole_class : occurs 0 (close_up (fractions n s.values)) ≡ true
        whole_class = unfold close_up rank in occurs_map (rank (fractions n s.values)) 0 (fractions n s.values) e

    -- ---- the last threshold comes to n: a unit of delay

    pub turn : unit_step A (midway n s (rank (risen n s) n))
        ≡ some (record { to = midway n s (rank (risen n s) 0); cost = A.cost_rate s.location; reward = A.reward_rate s.location })
    unfolding midway
    turn = turns A (midway n s (rank (risen n s) n)) (midway n s (rank (risen n s) 0)) none_whole (sym (largest_close (risen n s) n risen_le))
        (λ i. record {
          location = s.location;
          region = record { whole = wholes n s.values; class = close_up (risen n s) };
          corner = sym (rank_zero (risen n s)) i;
        })

    -- ---- coming to the next whole numbers

    pub come : occurs n (risen n s) ≡ true → (t : ℕ) → t < n → move_step A (midway n s (rank (risen n s) t)) ≡ some (free (node_at n (tick s) t))
    unfolding midway node_at
    come e t h = carries A (midway n s (rank (risen n s) t)) (node_at n (tick s) t) none_whole below (λ i. record {
      location = s.location;
      region = record { whole = carried_whole i; class = carried_class i };
      corner = (sym (rank_carry n (risen n s) t h) ∙ ap (λ f. rank f t) (sym tick_fractions)) i;
    }) (inside_agrees A n (tick s) t p ∙ fit)
      where
        g : largest (close_up (risen n s)) ≡ rank (risen n s) n
        g = largest_close (risen n s) n risen_le

        below : rank (risen n s) t < largest (close_up (risen n s))
        below = rw g (rank_lt (risen n s) t n h (occurs_tail n 0 (risen n s) e))

        carried_class : map (carry_class (largest (close_up (risen n s)))) (close_up (risen n s)) ≡ close_up (fractions n (map suc s.values))
        carried_class = ap (λ (k : ℕ). map (carry_class k) (close_up (risen n s))) g
            ∙ sym (close_carry n (risen n s) risen_le e p) ∙ ap close_up (sym tick_fractions)

        φ : ℕ → ℕ → ℕ
        φ = carry_whole (largest (close_up (risen n s)))

        one : (x : ℕ) → occurs x s.values ≡ true → φ (x / n) (rank (risen n s) (suc (x % n))) ≡ one_more_if (eqb (suc (x % n)) n) (x / n)
        one x m = ap (λ (b : Bool). one_more_if b (x / n)) (ap (eqb (rank (risen n s) (suc (x % n)))) g
            ∙ rank_eqb (risen n s) (suc (x % n)) n (occurs_tail (suc (x % n)) 0 (risen n s) (risen_occurs x m)) (occurs_tail n 0 (risen n s) e))

        carried_whole : zip_with φ (wholes n s.values) (close_up (risen n s)) ≡ wholes n (map suc s.values)
        carried_whole = ap (zip_with φ (wholes n s.values)) risen_close ∙ zip-map φ (λ v. v / n) (λ v. rank (risen n s) (suc (v % n))) s.values
            ∙ map_cong (λ x. φ (x / n) (rank (risen n s) (suc (x % n)))) (λ x. one_more_if (eqb (suc (x % n)) n) (x / n)) s.values (record { at = one })
            ∙ sym tick_wholes

  pub come_not : occurs n (risen n s) ≡ false → (t : ℕ) → t < n → midway n s (rank (risen n s) t) ≡ node_at n (tick s) t
  unfolding midway node_at
  come_not e t h = λ i. record {
    location = s.location;
    region = record { whole = same_whole i; class = ap close_up same_fractions i };
    corner = ap (λ f. rank f t) same_fractions i;
  }
    where
      off : (y : ℕ) → occurs y (risen n s) ≡ true → y ≡ n → ⊥
      off y m q = clash (subst (λ (k : ℕ). occurs k (risen n s) ≡ true) q m) e

      same_fractions : risen n s ≡ fractions n (map suc s.values)
      same_fractions = sym (tick_fractions ∙ map_same (carry_class n) (risen n s) (record { at = λ y m. carry_off n y (off y m) }))

      same_whole : wholes n s.values ≡ wholes n (map suc s.values)
      same_whole = sym (tick_wholes ∙ map_cong (λ x. one_more_if (eqb (suc (x % n)) n) (x / n)) (λ x. x / n) s.values
          (record { at = λ x m. ap (λ (b : Bool). one_more_if b (x / n)) (ne_eqb (suc (x % n)) n (off (suc (x % n)) (risen_occurs x m))) }))
