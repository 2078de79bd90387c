-- One round and the rounds one after the other as the code has them, over plain lists: d are the signed potentials.
use mathlib.Core.Path.{◌≡◌, refl, ap, subst, ◌∙◌}
use mathlib.Core.Logic.{inl, ⊎_elim}
use mathlib.Core.List.{List}
use mathlib.Core.Bool.{Bool, true, false}
use Prim.Native.Nat.{ℕ, ◌+◌, ◌*◌, ◌≤◌, ◌<◌}
use native.Mathlib.Omega.{arith}
use lib.ListN.{length, set, replicate}
use lib.IntN.{ℤ, pos}
use Rattle.walks.specs.Walk.{at}
use Rattle.walks.specs.Form.{Graph, CoefficientsInRange}
use Rattle.walks.specs.SearchNumbers.{raised_all, TooLow, start, inf, most, per_round}
use Rattle.walks.specs.SearchTerms.{Least, RoundState, Fine, Relaxed, Ended, View, raised_weight, Running}
use Rattle.walks.proofs.Raised.{length_raised, set_raised, raised_replicate}
use Rattle.walks.proofs.Rounds.{Arcs, Turn}
use Rattle.walks.proofs.RoundLaws.{begin, begin_fine, turn_same, turn_more, ended_low, next}
use Rattle.walks.proofs.RaisedWeights.{arcs}

module _ {F T : List ℕ} {W : ℕ → ℕ} {m n b : ℕ} where
  pub turn_begun : {D par st : List ℕ} → RoundState F T W m D par st b 0 n → Fine D n → Turn F T W m D par st b 0 n n
  turn_begun s f = record { state = s; fine = f; fell = inl (refl, λ v h. omega (arith, s.stamp v h)) }

  pub turn_lengths : {par st : List ℕ} {e : ℕ} (d : List ℤ) → RoundState F T W m (raised_all start d) par st b e n
      → (length d ≡ n) × (length par ≡ n) × (length st ≡ n)
  turn_lengths d s = omega (arith, s.potential_len, s.par_len, s.st_len, length_raised start d)

  -- the arc e is relaxed: y says whether the potential of its target v fell, and z whether it is too low
  module _ {D par st D' par' st' : List ℕ} {e seen : ℕ} {y : Bool} (g : Arcs F T W m n) (t : Turn F T W m D par st b e n seen)
      (h : e < m) (x : Relaxed F T W m D st D' par' st' b n e y) where
    pub dropped : {v : ℕ} {z : Bool} → v ≡ at T e → TooLow (at D' v) z → z ≡ true → Ended F T W m D' par' st' b n v
    dropped {v} p l q = ended_low F T W m D par st D' par' st' b n e v y g h x p (l.yes q)

    relaxed : {t : Bool} → y ≡ t → Relaxed F T W m D st D' par' st' b n e t
    relaxed k = subst (λ (y : Bool). Relaxed F T W m D st D' par' st' b n e y) k x

    pub fell : {u v : ℕ} {z : Bool} → u ≡ v → y ≡ true → v ≡ at T e → TooLow (at D' v) z → z ≡ false → Turn F T W m D' par' st' b (e + 1) n u
    fell {v = v} i k p l q = rw i (turn_more F T W m D par st D' par' st' b n e v g h (relaxed k) p (l.no q))

    pub stayed : {u : ℕ} → u ≡ seen → y ≡ false → Turn F T W m D' par' st' b (e + 1) n u
    stayed i k = rw i (turn_same F T W m D par st D' par' st' b n e seen t (relaxed k))

-- ---- the round has come to an end
module _ {F T : List ℕ} {cost : List ℤ} {reward : List ℕ} {a b c : ℤ} {D par st : List ℕ} {begun v : ℕ}
    (g : Graph F T cost reward 2048) (k : CoefficientsInRange a b c) (y : Ended F T (raised_weight a b c cost reward) (length F) D par st begun 2048 v) where
  abbrev pub view : View F par 2048
  view = record {
    T = T;
    W = raised_weight a b c cost reward;
    m = length F;
    D = D;
    st = st;
    par_len = y.state.par_len;
    froms = refl;
    source = (arcs g k).source;
    heavy = (arcs g k).heavy;
    stamp = λ v h. omega (arith, y.state.stamp v h, y.state.rounds, y.state.within, g.arcs);
    reached = y.state.reached;
    root = y.state.root;
    hangs = y.state.hangs;
  }

  pub all_settled : v ≡ 2048 → Least F T (raised_weight a b c cost reward) (length F) D 2048
  all_settled p = ⊎_elim (λ z. z.1) (λ z. absurd (omega (arith, z.0))) y.how

  pub one_fell : (v ≡ 2048 → ⊥) → v < 2048
  one_fell q = ⊎_elim (λ z. absurd (q z.0)) (λ z. z.0) y.how

  -- the climb from v found no cycle: the next round
  pub go_on : (v ≡ 2048 → ⊥) → (at st v ≤ per_round * 2048) × (start ≤ at D v + most * 2048) → (d : List ℤ) → D ≡ raised_all start d
      → (begun < per_round * 2048) × Running F T cost reward a b c d par st (begun + per_round) 0
  go_on q r d e = ⊎_elim
      (λ z. absurd (q z.0))
      (λ z. ⊎_elim
      (λ w. let h : begun < per_round * 2048 = omega (arith, w.2, r.0) in (
        h,
        record {
          graph = g;
          in_range = k;
          state = rw e at (next F T (raised_weight a b c cost reward) (length F) D par st begun y.i 2048 (arcs g k) w.0 h y.state);
          fine = rw e at w.1;
        },
      ))
      (λ w. absurd (omega (arith, w, r.1)))
      z.1)
      y.how

-- ---- the first round: node 0 has the potential 0, and no other node is reached
begin_raised : (n : ℕ) → raised_all start (set (replicate n (pos 1152921504606846976)) 0 (pos 0)) ≡ set (replicate n inf) 0 start
begin_raised n = set_raised start (replicate n (pos 1152921504606846976)) 0 (pos 0)
    ∙ ap (λ (l : List ℕ). set l 0 start) (raised_replicate start n (pos 1152921504606846976))

-- n is 2048, and a variable here so that the lists stay short
pub first_round : (F T : List ℕ) (cost : List ℤ) (reward : List ℕ) (a b c : ℤ) (n : ℕ) → n ≡ 2048 → Graph F T cost reward 2048 → CoefficientsInRange a b c
    → Running F T cost reward a b c (set (replicate n (pos 1152921504606846976)) 0 (pos 0)) (replicate n 0) (set (replicate n 0) 0 per_round) per_round 0
first_round F T cost reward a b c n e g k = record {
  graph = g;
  in_range = k;
  state = rw (begin_raised n, ← e) (begin F T (raised_weight a b c cost reward) (length F) n (rw e (arcs g k)));
  fine = rw (begin_raised n, ← e) (begin_fine F T (raised_weight a b c cost reward) (length F) n (rw e (arcs g k)));
}
