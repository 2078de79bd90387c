-- The rounds: how they begin, how one goes on and ends, and that potentials without a fall are least.
use mathlib.Core.Path.{◌≡◌, refl, ap, ◌∙◌}
use mathlib.Core.Logic.{◌≢◌, inl, inr, ⊎_elim}
use mathlib.Core.List.{List, [], ◌∷◌}
use mathlib.Core.Bool.{Bool, true, false}
use Prim.Native.Nat.{ℕ, ◌+◌, ◌*◌, ◌≤◌, ◌<◌}
use native.Mathlib.Omega.{arith}
use lib.ListN.{length, set, length-set, replicate, get_or-replicate, length-replicate}
use lib.Seq.{get_or-set_same, get_or-set_other}
use Rattle.walks.specs.Walk.{at, ArcWalk}
use Rattle.walks.specs.Weight.{total}
use Rattle.walks.specs.SearchNumbers.{bias, start, inf, most, deep, per_round}
use Rattle.walks.specs.SearchTerms.{Attained, Least, zero_count, RoundState, Fine, Relaxed, Ended}
use Rattle.walks.proofs.Rounds.{Arcs, Turn}
use Rattle.walks.proofs.Zeros.{split, zeros_replicate}

-- ---- least potentials
module _ (F T : List ℕ) (W : ℕ → ℕ) (m : ℕ) (D : List ℕ) (n : ℕ) (g : Arcs F T W m n) (l : Least F T W m D n) where
  -- along a walk no potential falls by more than the walk weighs, and each node is reached
  along : (x : ℕ) (c : List ℕ) (y : ℕ) → ArcWalk F T m x c y → at D x < inf → (at D y < inf) × (at D y + bias * length c ≤ at D x + total W c)
  along x [] y w h = let e : at D x ≡ at D y = ap (λ (k : ℕ). at D k) w in omega arith
  along x (e ∷ c) y w h =
      let s : at D (at F e) ≡ at D x = ap (λ (k : ℕ). at D k) w.1 in
      let f : at D (at T e) + bias ≤ at D (at F e) + W e = l.feasible e w.0 (omega arith) in
      let b : at D (at F e) < start + deep = l.ceiling (at F e) (g.source e w.0) (omega arith) in
      let r : (at D y < inf) × (at D y + bias * length c ≤ at D (at T e) + total W c) = along (at T e) c y w.2 (omega (arith, g.light e w.0)) in
      omega arith

  -- each potential is at most the weight of each walk, and by `reached` the weight of one: the least
  pub least : (v : ℕ) (c : List ℕ) → ArcWalk F T m 0 c v → (at D v < inf) × (at D v + bias * length c ≤ start + total W c)
  least v c w = omega (arith, along 0 c v w (omega (arith, l.first)), l.first)

-- ---- the rounds begin
module _ (F T : List ℕ) (W : ℕ → ℕ) (m : ℕ) (n : ℕ) (g : Arcs F T W m n) where
  abbrev D₀ : List ℕ
  D₀ = set (replicate n inf) 0 start

  abbrev st₀ : List ℕ
  st₀ = set (replicate n 0) 0 per_round

  D_0 : at D₀ 0 ≡ start
  D_0 = get_or-set_same (replicate n inf) 0 start 0 (omega (arith, length-replicate n inf, g.some))

  st_0 : at st₀ 0 ≡ per_round
  st_0 = get_or-set_same {A = ℕ} (replicate n 0) 0 per_round 0 (omega (arith, length-replicate {A = ℕ} n 0, g.some))

  D_o : (v : ℕ) → v ≢ 0 → v < n → at D₀ v ≡ inf
  D_o v q h = get_or-set_other (replicate n inf) 0 v start 0 q ∙ get_or-replicate n v inf 0 h

  st_o : (v : ℕ) → v ≢ 0 → v < n → at st₀ v ≡ 0
  st_o v q h = get_or-set_other {A = ℕ} (replicate n 0) 0 v per_round 0 q ∙ get_or-replicate {A = ℕ} n v 0 0 h

  none : (v : ℕ) → v < n → at (replicate n 0) v ≡ 0
  none v h = get_or-replicate {A = ℕ} n v 0 0 h

  pub begin : RoundState F T W m D₀ (replicate n 0) st₀ per_round 0 n
  begin = record {
    begun = omega arith;
    rounds = omega (arith, g.some);
    within = omega arith;
    potential_len = length-set (replicate n inf) 0 start ∙ length-replicate n inf;
    par_len = length-replicate n 0;
    st_len = length-set {A = ℕ} (replicate n 0) 0 per_round ∙ length-replicate n 0;
    first = omega (arith, D_0);
    stamp = split (λ v. v < n → at st₀ v ≤ per_round + 0) 0 (λ h. omega (arith, st_0)) (λ v q h. omega (arith, st_o v q h));
    known = split (λ v. v < n → 0 < at st₀ v → at D₀ v < inf) 0 (λ h k. omega (arith, D_0)) (λ v q h k. absurd (omega (arith, st_o v q h)));
    top = split (λ v. v < n → at D₀ v ≤ inf) 0 (λ h. omega (arith, D_0)) (λ v q h. omega (arith, D_o v q h));
    cap = split (λ v. v < n → at D₀ v < inf → at D₀ v + most * zero_count (replicate n 0) ≤ start + most * n) 0
        (λ h k. omega (arith, D_0, zeros_replicate n)) (λ v q h k. absurd (omega (arith, D_o v q h)));
    reached = split (λ v. v < n → at D₀ v < inf → Attained F T W m (at D₀ v) v) 0
        (λ h l. rw D_0 record { path = []; walk = refl; weighs = omega arith })
        (λ v q h l. absurd (omega (arith, D_o v q h)));
    root = split (λ v. v < n → at (replicate n 0) v ≡ 0 → (at st₀ v ≤ per_round) × (start ≤ at D₀ v)) 0
        (λ h z. omega (arith, st_0, D_0)) (λ v q h z. omega (arith, st_o v q h, D_o v q h));
    hangs = λ v h e p. absurd (omega (arith, none v h));
    still = λ e he k l. absurd (split (λ u. u < n → at st₀ u < e + 1 → at D₀ u < inf → ⊥) 0
        (λ h k l. omega (arith, st_0, g.few)) (λ v q h k l. omega (arith, D_o v q h)) (at F e) (g.source e he) (omega arith) l);
    done = λ e h. absurd (omega arith);
  }

  pub begin_fine : Fine D₀ n
  begin_fine = split (λ v. v < n → start < at D₀ v + 1000000000000000) 0 (λ h. omega (arith, D_0)) (λ v q h. omega (arith, D_o v q h))

-- ---- a round
pub turn_same : (F T : List ℕ) (W : ℕ → ℕ) (m : ℕ) (D par st D' par' st' : List ℕ) (b n i seen : ℕ) → Turn F T W m D par st b i n seen
    → Relaxed F T W m D st D' par' st' b n i false → Turn F T W m D' par' st' b (i + 1) n seen
turn_same F T W m D par st D' par' st' b n i seen t x = let p : (D' ≡ D) × (st' ≡ st) = x.same refl in record {
  state = x.state;
  fine = rw p.0 t.fine;
  fell = rw p.1 t.fell;
}

pub turn_more : (F T : List ℕ) (W : ℕ → ℕ) (m : ℕ) (D par st D' par' st' : List ℕ) (b n i seen : ℕ) → Arcs F T W m n → i < m
    → Relaxed F T W m D st D' par' st' b n i true → seen ≡ at T i
    → start < at D' seen + deep → Turn F T W m D' par' st' b (i + 1) n seen
turn_more F T W m D par st D' par' st' b n i seen g hi x p h = record {
  state = x.state;
  fine = x.fine (rw p at h);
  fell = inr (omega (arith, g.target i hi, p), rw p (x.stamped refl));
}

-- the round ends early
pub ended_low : (F T : List ℕ) (W : ℕ → ℕ) (m : ℕ) (D par st D' par' st' : List ℕ) (b n i seen : ℕ) (t : Bool) → Arcs F T W m n → i < m
    → Relaxed F T W m D st D' par' st' b n i t → seen ≡ at T i
    → at D' seen + deep ≤ start → Ended F T W m D' par' st' b n seen
ended_low F T W m D par st D' par' st' b n i seen t g hi x p h = record { i = i + 1; state = x.state; how = inr (omega (arith, g.target i hi, p), inr h) }

-- all arcs are relaxed
pub ended : (F T : List ℕ) (W : ℕ → ℕ) (m : ℕ) (D par st : List ℕ) (b i n seen : ℕ) → Arcs F T W m n → i ≡ m → Turn F T W m D par st b i n seen
    → Ended F T W m D par st b n seen
ended F T W m D par st b i n seen g p t = record {
  i = i;
  state = t.state;
  how = ⊎_elim (λ w. inl (
    w.0,
    record {
      first = t.state.first;
      feasible = λ e h l. t.state.done e (omega arith) (omega (arith, w.1 (at F e) (g.source e h))) l;
      reached = t.state.reached;
      floor = t.fine;
      top = t.state.top;
      ceiling = λ v h l. omega (arith, t.state.cap v h l, g.small);
    },
  )) (λ w. inr (w.0, inl (p, t.fine, w.1))) t.fell;
}

-- the next round
pub next : (F T : List ℕ) (W : ℕ → ℕ) (m : ℕ) (D par st : List ℕ) (b i n : ℕ) → Arcs F T W m n → i ≡ m → b < per_round * n
    → RoundState F T W m D par st b i n → RoundState F T W m D par st (b + per_round) 0 n
next F T W m D par st b i n g p more s = record {
  begun = omega (arith, s.begun);
  rounds = omega arith;
  within = omega arith;
  potential_len = s.potential_len;
  par_len = s.par_len;
  st_len = s.st_len;
  first = s.first;
  stamp = λ v h. omega (arith, s.stamp v h, g.few);
  known = s.known;
  top = s.top;
  cap = s.cap;
  reached = s.reached;
  root = s.root;
  hangs = s.hangs;
  still = λ e h k l. s.done e (omega arith) (omega arith) l;
  done = λ e h. absurd (omega arith);
}
