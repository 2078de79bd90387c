-- One arc is relaxed, and the potential of its target falls: what the rounds keep is kept.
use mathlib.Core.Path.{◌≡◌, refl, sym, ap, subst, ◌∙◌}
use mathlib.Core.Logic.{◌≢◌}
use mathlib.Core.List.{List, [], ◌∷◌, ◌++◌}
use mathlib.Core.Bool.{true}
use Prim.Native.Nat.{ℕ, suc, ◌+◌, ◌*◌, ◌-◌, ◌≤◌, ◌<◌}
use native.Mathlib.Omega.{arith}
use native.Mathlib.Numerals.{add-one}
use native.Mathlib.Decide.{ℕ_discrete}
use borrow.Author.Count.{below_more}
use lib.ListN.{set, length-append, length-set}
use lib.Seq.{get_or-set_same, get_or-set_other}
use Rattle.walks.specs.Walk.{at}
use Rattle.walks.specs.SearchNumbers.{bias, start, inf, most, deep, per_round, stamps}
use Rattle.walks.specs.SearchTerms.{Attained, NoFall, Hangs, zero_count, RoundState, Fine, Relaxed}
use Rattle.walks.proofs.Walks.{walk_snoc}
use Rattle.walks.proofs.Weights.{total_append}
use Rattle.walks.proofs.Rounds.{Arcs}
use Rattle.walks.proofs.Zeros.{split, zeros_set, zeros_keep}
use Rattle.walks.proofs.Relaxing.{true_false, known}

-- a walk with one arc more
reach_more : (F T : List ℕ) (W : ℕ → ℕ) (m d x e : ℕ) → Attained F T W m d (at F e) → e < m → x + bias ≡ d + W e → Attained F T W m x (at T e)
reach_more F T W m d x e p h q = record {
  path = p.path ++ (e ∷ []);
  walk = walk_snoc F T m 0 p.path (at F e) e p.walk h refl;
  weighs = omega (arith, total_append W p.path (e ∷ []), length-append p.path (e ∷ []), p.weighs, q);
}

module _ (F T : List ℕ) (W : ℕ → ℕ) (m : ℕ) (D par st : List ℕ) (b n e x : ℕ)
    (g : Arcs F T W m n) (s : RoundState F T W m D par st b e n) (f : Fine D n) (he : e < m)
    (late : b + e < at st (at F e) + per_round) (less : x < at D (at T e)) (is : x + bias ≡ at D (at F e) + W e) where
  abbrev v : ℕ
  v = at T e

  abbrev D' : List ℕ
  D' = set D v x

  abbrev par' : List ℕ
  par' = set par v (e + 1)

  abbrev st' : List ℕ
  st' = set st v (b + e + 1)

  hv : v < n
  hv = g.target e he

  hu : at F e < n
  hu = g.source e he

  D_v : at D' v ≡ x
  D_v = get_or-set_same D v x 0 (omega (arith, hv, s.potential_len))

  par_v : at par' v ≡ e + 1
  par_v = get_or-set_same par v (e + 1) 0 (omega (arith, hv, s.par_len))

  st_v : at st' v ≡ b + e + 1
  st_v = get_or-set_same st v (b + e + 1) 0 (omega (arith, hv, s.st_len))

  D_o : (j : ℕ) → j ≢ v → at D' j ≡ at D j
  D_o j q = get_or-set_other D v j x 0 q

  par_o : (j : ℕ) → j ≢ v → at par' j ≡ at par j
  par_o j q = get_or-set_other par v j (e + 1) 0 q

  st_o : (j : ℕ) → j ≢ v → at st' j ≡ at st j
  st_o j q = get_or-set_other st v j (b + e + 1) 0 q

  stamped : b + e + 1 < stamps
  stamped = omega (arith, s.rounds, g.small, g.few)

  known_u : at D (at F e) < inf
  known_u = known F T W m D par st b n e g s he late

  high : at D (at F e) + most * zero_count par ≤ start + most * n
  high = s.cap (at F e) hu known_u

  x_known : x < inf
  x_known = omega (arith, high, g.small, g.light e he)

  -- potential and stamp together fall, and no stamp falls
  drops : (j : ℕ) → stamps * at D' j + at st' j ≤ stamps * at D j + at st j
  drops = split (λ j. stamps * at D' j + at st' j ≤ stamps * at D j + at st j) v
      (omega (arith, D_v, st_v, stamped))
      (λ j q. omega (arith, D_o j q, st_o j q))

  falls : (j : ℕ) → at D' j ≤ at D j
  falls = split (λ j. at D' j ≤ at D j) v (omega (arith, D_v)) (λ j q. omega (arith, D_o j q))

  rise : (j : ℕ) → at st j ≤ at st' j
  rise = split (λ j. at st j ≤ at st' j) v (omega (arith, st_v, s.stamp v hv)) (λ j q. omega (arith, st_o j q))

  stamp' : (j : ℕ) → j < n → at st' j ≤ b + (e + 1)
  stamp' = split (λ j. j < n → at st' j ≤ b + (e + 1)) v (λ h. omega (arith, st_v)) (λ j q h. omega (arith, st_o j q, s.stamp j h))

  known' : (j : ℕ) → j < n → 0 < at st' j → at D' j < inf
  known' = split (λ j. j < n → 0 < at st' j → at D' j < inf) v (λ h k. omega (arith, D_v, x_known))
      (λ j q h k. omega (arith, D_o j q, s.known j h (omega (arith, st_o j q))))

  -- the new potential's bound, and the others'
  zeros_less : at par v ≡ 0 → zero_count par ≡ suc (zero_count par')
  zeros_less p = rw (add-one e) (zeros_set par v e (omega (arith, hv, s.par_len)) p)

  zeros_kept : at par v ≢ 0 → zero_count par' ≡ zero_count par
  zeros_kept q = rw (add-one e) (zeros_keep par v e (omega (arith, hv, s.par_len)) q)

  zeros_fall : zero_count par' ≤ zero_count par
  zeros_fall = elim (ℕ_discrete (at par v) 0) [
    | yes p ↦ omega (arith, zeros_less p)
    | no q ↦ omega (arith, zeros_kept q)
  ]

  x_cap : x + most * zero_count par' ≤ start + most * n
  x_cap = elim (ℕ_discrete (at par v) 0) [
    | yes p ↦ omega (arith, zeros_less p, high, g.light e he)
    | no q ↦ omega (arith, zeros_kept q, s.cap v hv (s.hangs v hv (at par v - 1) (omega arith)).known)
  ]

  cap' : (j : ℕ) → j < n → at D' j < inf → at D' j + most * zero_count par' ≤ start + most * n
  cap' = split (λ j. j < n → at D' j < inf → at D' j + most * zero_count par' ≤ start + most * n) v
      (λ h k. omega (arith, D_v, x_cap))
      (λ j q h k. omega (arith, D_o j q, zeros_fall, s.cap j h (omega (arith, D_o j q))))

  reached' : (j : ℕ) → j < n → at D' j < inf → Attained F T W m (at D' j) j
  reached' = split (λ j. j < n → at D' j < inf → Attained F T W m (at D' j) j) v
      (λ h k. rw D_v (reach_more F T W m (at D (at F e)) x e (s.reached (at F e) hu known_u) he is))
      (λ j q h k. rw (D_o j q) (s.reached j h (omega (arith, D_o j q))))

  root' : (j : ℕ) → j < n → at par' j ≡ 0 → (at st' j ≤ per_round) × (start ≤ at D' j)
  root' = split (λ j. j < n → at par' j ≡ 0 → (at st' j ≤ per_round) × (start ≤ at D' j)) v
      (λ h z. absurd (omega (arith, par_v)))
      (λ j q h z. omega (arith, st_o j q, D_o j q, s.root j h (sym (par_o j q) ∙ z)))

  hangs' : (j : ℕ) → j < n → (a : ℕ) → at par' j ≡ a + 1 → Hangs F T W m D' st' j a
  hangs' = split (λ j. j < n → (a : ℕ) → at par' j ≡ a + 1 → Hangs F T W m D' st' j a) v
      (λ h a z. let p : e ≡ a = omega (arith, par_v) in subst (λ (a : ℕ). Hangs F T W m D' st' v a) p record {
        arc = he;
        ends = refl;
        above = omega (arith, D_v, st_v, drops (at F e), s.stamp (at F e) hu);
        near = omega (arith, st_v, rise (at F e));
        known = omega (arith, D_v, x_known);
      })
      (λ j q h a z. let k : Hangs F T W m D st j a = s.hangs j h a (sym (par_o j q) ∙ z) in record {
        arc = k.arc;
        ends = k.ends;
        above = omega (arith, D_o j q, st_o j q, drops (at F a), k.above);
        near = omega (arith, st_o j q, rise (at F a), k.near);
        known = omega (arith, D_o j q, k.known);
      })

  -- a settled arc stays so, as its source has not fallen
  settled' : (a k : ℕ) → k ≤ b + e + 1 → NoFall F T W D st a k → NoFall F T W D' st' a k
  settled' a k h d = elim (ℕ_discrete (at F a) v) [
    | yes p ↦ λ y l. absurd (let z : at st' (at F a) ≡ at st' v = ap (λ (j : ℕ). at st' j) p in omega (arith, st_v))
    | no q ↦ λ y l. omega (arith, D_o (at F a) q, falls (at T a), d (omega (arith, st_o (at F a) q)) (omega (arith, D_o (at F a) q)))
  ]

  done_e : NoFall F T W D' st' e (b + e + 1)
  done_e = elim (ℕ_discrete (at F e) v) [
    | yes p ↦ λ y l. absurd (let z : at st' (at F e) ≡ at st' v = ap (λ (j : ℕ). at st' j) p in omega (arith, st_v))
    | no q ↦ λ y l. omega (arith, D_o (at F e) q, D_v)
  ]

  relax_state : RoundState F T W m D' par' st' b (e + 1) n
  relax_state = record {
    begun = s.begun;
    rounds = s.rounds;
    within = omega arith;
    potential_len = length-set D v x ∙ s.potential_len;
    par_len = length-set par v (e + 1) ∙ s.par_len;
    st_len = length-set st v (b + e + 1) ∙ s.st_len;
    first = omega (arith, falls 0, s.first);
    stamp = stamp';
    known = known';
    top = λ j h. omega (arith, falls j, s.top j h);
    cap = cap';
    reached = reached';
    root = root';
    hangs = hangs';
    still = λ a h. settled' a (b - per_round + a + 1) (omega (arith, s.begun, g.few)) (s.still a h);
    done = below_more (λ a. NoFall F T W D' st' a (b + a + 1)) e (λ a h. settled' a (b + a + 1) (omega arith) (s.done a h)) done_e;
  }

  pub relax_changed : Relaxed F T W m D st (set D (at T e) x) (set par (at T e) (e + 1)) (set st (at T e) (b + e + 1)) b n e true
  relax_changed = record {
    state = relax_state;
    fine = λ h. split (λ j. j < n → start < at D' j + deep) v (λ _. h) (λ j q k. omega (arith, D_o j q, f j k));
    rise = rise;
    same = λ z. absurd (true_false z);
    stamped = λ _. omega (arith, st_v);
  }
