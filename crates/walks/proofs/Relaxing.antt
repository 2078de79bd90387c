-- One arc is relaxed, and no potential falls: what the rounds keep is kept.
use mathlib.Core.Path.{◌≡◌, refl, sym}
use mathlib.Core.List.{List}
use mathlib.Core.Bool.{true, false}
use Prim.Native.Nat.{ℕ, ◌+◌, ◌≤◌, ◌<◌}
use native.Mathlib.Omega.{arith}
use borrow.Author.Count.{below_more}
use Rattle.walks.specs.Walk.{at}
use Rattle.walks.specs.SearchNumbers.{start, inf, deep, per_round}
use Rattle.walks.specs.SearchTerms.{NoFall, RoundState, Fine, Relaxed}
use Rattle.walks.proofs.Rounds.{Arcs}

pub true_false : true ≡ false → ⊥
true_false p = let z : ◌≡◌ {A = ℕ} 0 1 = cc in omega arith

pub relax_same : (F T : List ℕ) (W : ℕ → ℕ) (m : ℕ) (D par st : List ℕ) (b n e : ℕ) → RoundState F T W m D par st b e n → Fine D n → e < m
    → NoFall F T W D st e (b + e + 1) → Relaxed F T W m D st D par st b n e false
relax_same F T W m D par st b n e s f he d = record {
  state = record {
    begun = s.begun;
    rounds = s.rounds;
    within = omega arith;
    potential_len = s.potential_len;
    par_len = s.par_len;
    st_len = s.st_len;
    first = s.first;
    stamp = λ v h. omega (arith, s.stamp v h);
    known = s.known;
    top = s.top;
    cap = s.cap;
    reached = s.reached;
    root = s.root;
    hangs = s.hangs;
    still = s.still;
    done = below_more (λ a. NoFall F T W D st a (b + a + 1)) e s.done d;
  };
  fine = λ _. f;
  rise = λ j. omega arith;
  same = λ _. (refl, refl);
  stamped = λ z. absurd (true_false (sym z));
}

-- an arc whose source has not fallen since the arc was relaxed last
pub relax_still : (F T : List ℕ) (W : ℕ → ℕ) (m : ℕ) (D par st : List ℕ) (b n e : ℕ) → RoundState F T W m D par st b e n → e < m
    → at st (at F e) + per_round ≤ b + e → NoFall F T W D st e (b + e + 1)
relax_still F T W m D par st b n e s h k _ l = s.still e h (omega (arith, s.begun)) l

-- the sum that relaxing the arc e compares
module _ (F T : List ℕ) (W : ℕ → ℕ) (m : ℕ) (D par st : List ℕ) (b n e : ℕ)
    (g : Arcs F T W m n) (s : RoundState F T W m D par st b e n) (he : e < m) (late : b + e < at st (at F e) + per_round) where
  pub known : at D (at F e) < inf
  known = s.known (at F e) (g.source e he) (omega (arith, s.begun))

  pub sum_high : at D (at F e) ≤ start + deep
  sum_high = omega (arith, s.cap (at F e) (g.source e he) known, g.small)
