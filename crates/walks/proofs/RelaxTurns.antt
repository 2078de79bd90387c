-- Relaxing one arc as the code does it, over plain lists: u and v are its source and target, d the signed potentials.
use mathlib.Core.Path.{◌≡◌, ap}
use mathlib.Core.List.{List}
use mathlib.Core.Bool.{Bool, true, false}
use Prim.Native.Nat.{ℕ, ◌+◌, ◌≤◌, ◌<◌}
use native.Mathlib.Omega.{arith}
use lib.ListN.{length, set}
use lib.IntN.{ℤ}
use mir.Syntax.{w64}
use mir.Val.{SFits}
use mir.Facts.{to_z-of_z}
use Rattle.walks.specs.Walk.{at}
use Rattle.walks.specs.SearchNumbers.{raised, raised_all, Sum, Less, bias, start, deep, per_round}
use Rattle.walks.specs.SearchTerms.{Relaxed, raised_weight, Running}
use Rattle.walks.proofs.Tests.{again}
use Rattle.walks.proofs.Raised.{length_raised}
use Rattle.walks.proofs.Rounds.{Arcs}
use Rattle.walks.proofs.Relaxing.{sum_high, relax_same, relax_still}
use Rattle.walks.proofs.Falls.{relax_changed}
use Rattle.walks.proofs.RaisedWeights.{arcs}

module _ {F T : List ℕ} {cost : List ℤ} {reward : List ℕ} {a b c : ℤ} {d : List ℤ} {par st : List ℕ} {begin e u : ℕ}
    (r : Running F T cost reward a b c d par st begin e) (he : e < length F) (pu : u ≡ at F e) where
  abbrev W : ℕ → ℕ
  W = raised_weight a b c cost reward

  abbrev D : List ℕ
  D = raised_all start d

  abbrev g : Arcs F T W (length F) 2048
  g = arcs r.graph r.in_range

  pub source : (u < length par) × (u < length st) × (u < length d)
  source = omega (arith, g.source e he, r.state.par_len, r.state.st_len, r.state.potential_len, length_raised start d)

  pub stamp : at st u + per_round < 18446744073709551616
  stamp = omega (arith, r.state.stamp u (omega (arith, g.source e he)), r.state.rounds, r.state.within, g.few)

  pub still : at st u + per_round ≤ begin + e → Relaxed F T W (length F) D st D par st begin 2048 e false
  still h = relax_same F T W (length F) D par st begin 2048 e r.state r.fine he
      (relax_still F T W (length F) D par st begin 2048 e r.state he (rw pu at h))

  pub summable : begin + e < at st u + per_round → (start < at D u + deep) × (at D u ≤ start + deep)
  summable h = (
    r.fine u (omega (arith, g.source e he)),
    rw pu (sum_high F T W (length F) D par st begin 2048 e g r.state he (rw pu at h)),
  )

  module _ {v : ℕ} (pv : v ≡ at T e) where
    pub target : (v < length par) × (v < length st) × (v < length d)
    target = omega (arith, g.target e he, r.state.par_len, r.state.st_len, r.state.potential_len, length_raised start d)

    pub positive : 0 < at D v
    positive = omega (arith, r.fine v (omega (arith, g.target e he)))

    -- x is the potential of u and the weight w, and t says whether it is below that of v
    module _ {x : ℤ} {w : ℕ} {t : Bool} (hx : SFits w64 x) (late : begin + e < at st u + per_round) (pw : w ≡ W e) (is : Sum (at D u) w x)
        (l : Less (raised start (again x)) (at D v) t) where
      is' : raised start x + bias ≡ at D (at F e) + W e
      is' = let q : at D u ≡ at D (at F e) = ap (λ (j : ℕ). at D j) pu in omega (arith, is.is)

      less : Less (raised start x) (at D v) t
      less = simp to_z-of_z at l

      pub kept : t ≡ false → Relaxed F T W (length F) D st D par st begin 2048 e false
      kept p = relax_same F T W (length F) D par st begin 2048 e r.state r.fine he
          (λ _ _. let q : at D v ≡ at D (at T e) = ap (λ (j : ℕ). at D j) pv in omega (arith, is', less.no p))

      pub changed : t ≡ true → (d' : List ℤ) → raised_all start d' ≡ set D v (raised start (again x))
          → Relaxed F T W (length F) D st (raised_all start d') (set par v (e + 1)) (set st v (begin + e + 1)) begin 2048 e true
      changed p d' q = rw q (simp to_z-of_z (rw pv
          (relax_changed F T W (length F) D par st begin 2048 e (raised start x) g r.state r.fine he (rw pu at late) (rw pv at (less.yes p)) is')))
