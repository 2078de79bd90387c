-- What the search leaves in the buffers is what it answers, over plain lists.
use mathlib.Core.Path.{◌≡◌, refl, sym, ap, ap₂, subst, ◌∙◌}
use mathlib.Core.List.{List, ◌++◌}
use Prim.Native.Nat.{ℕ, ◌+◌, ◌-◌, ◌≤◌, ◌<◌}
use native.Mathlib.Omega.{arith}
use lib.ListN.{length, take, drop, get_or-append}
use lib.Seq.{slice, take-length, length-slice, length-take-le, get_or-take, take_at, drop_at}
use lib.IntN.{ℤ, pos}
use Rattle.walks.specs.Walk.{atℤ}
use Rattle.walks.specs.Weight.{weight_of, PotentialOrMark}
use Rattle.walks.specs.Form.{Graph, CoefficientsInRange}
use Rattle.walks.specs.SearchNumbers.{raised_all, start}
use Rattle.walks.specs.SearchTerms.{Least, Negative, Ended, View, Climbed, raised_weight}
use Rattle.walks.proofs.RaisedWeights.{widen}
use Rattle.walks.proofs.RoundTurns.{view}
use Rattle.walks.proofs.Trees.{take_part}
use Rattle.walks.proofs.Answers.{negative, short, potential, none_below}
use Rattle.graph.specs.Answer.{CycleFound, PotentialsFound}

module _ {F T : List ℕ} {cost : List ℤ} {reward : List ℕ} {a b c : ℤ} {n : ℕ} (g : Graph F T cost reward n) (k : CoefficientsInRange a b c) where
  abbrev weight : ℕ → ℤ
  weight = weight_of a b c cost reward

  abbrev W : ℕ → ℕ
  W = raised_weight a b c cost reward

  -- the potentials are copied from d to the front of r, the buffer as it was lent
  pub potentials_found : {p p' r : List ℤ} {q q' : List ℕ} (d : List ℤ) → length d ≡ 2048 → Least F T W (length F) (raised_all start d) 2048
      → p' ≡ take n d ++ drop n r → r ≡ p → q' ≡ q → PotentialsFound F T weight n p p' q q'
  potentials_found {p} {p'} d l o w u f = record {
    potentials = λ v h. subst (PotentialOrMark F T (length F) weight v) (sym (entry v h)) (potential g k d l o v (omega (arith, g.nodes)));
    none = none_below g k d l o;
    rest = ap (drop n) e ∙ drop_at (take n d) (drop n p) n long;
    kept = f;
  }
    where
      e : p' ≡ take n d ++ drop n p
      e = w ∙ ap (λ (x : List ℤ). take n d ++ drop n x) u

      long : length (take n d) ≡ n
      long = length-take-le n d (omega (arith, g.nodes))

      entry : (v : ℕ) → v < n → atℤ p' v ≡ atℤ d v
      entry v h = ap (λ (x : List ℤ). atℤ x v) e ∙ get_or-append (take n d) (drop n p) (pos 0) v (omega (arith, long)) ∙ get_or-take n d v (pos 0) h

  -- the climb from v has found a cycle: it stands in climbed from i to j
  pub record Part (climbed : List ℕ) (i j : ℕ) : Type 0 where
    pub some : i < j
    pub long : length climbed ≡ 2048
    pub within : j ≤ 2048
    pub few : j - i ≤ n
    pub cycle : Negative F T W (length F) (slice i j climbed)

  pub part_of : {D par st climbed : List ℕ} {begun v i j : ℕ} → Ended F T W (length F) D par st begun 2048 v
      → ((y : View F par 2048) → (i < j) × Climbed F y.T y.W y.m y.D y.st climbed 2048 v i j) → Part climbed i j
  part_of {climbed = climbed} {i = i} {j} y h =
      let z = h (view (widen g) k y) in
      let o = z.1.cycle z.0 in
      record {
        some = z.0;
        long = z.1.climbed_len;
        within = o.0;
        few = omega (arith, short g k (slice i j climbed) o.1, length-slice i j climbed (omega (arith, o.0, z.1.climbed_len)), z.0);
        cycle = o.1;
      }

  -- its arcs are copied to the front of r, the buffer as it was lent
  module _ {climbed : List ℕ} {i j : ℕ} (o : Part climbed i j) where
    abbrev arcs : List ℕ
    arcs = take (j - i) (drop i climbed)

    is_slice : arcs ≡ slice i j climbed
    is_slice = let e : i + (j - i) ≡ j = omega (arith, o.some) in
        ap (λ (x : List ℕ). take (j - i) (drop i x)) (sym (take-length climbed))
        ∙ take_part i (j - i) (length climbed) climbed (omega (arith, o.some, o.within, o.long)) ∙ ap (λ (t : ℕ). slice i t climbed) e

    pub sized : length arcs ≡ j - i
    sized = ap length is_slice ∙ length-slice i j climbed (omega (arith, o.within, o.long))

    pub copied_whole : (r : List ℕ) → n ≤ length r → length (take (length arcs) r) ≡ length arcs
    copied_whole r h = length-take-le (length arcs) r (omega (arith, sized, o.few))

    pub cycle_found : {p p' : List ℤ} {q q' r x : List ℕ} → x ≡ arcs → p' ≡ p → q' ≡ x ++ drop (length arcs) r → r ≡ q
        → CycleFound F T weight n (length arcs) p p' q q'
    cycle_found {q = q} {q'} same f e u = record {
      short = omega (arith, sized, o.few);
      negative = rw (front, is_slice) (negative g k (slice i j climbed) o.cycle);
      rest = ap (drop (length arcs)) written ∙ drop_at arcs (drop (length arcs) q) (length arcs) refl;
      kept = f;
    }
      where
        written : q' ≡ arcs ++ drop (length arcs) q
        written = e ∙ ap₂ (λ (x r : List ℕ). x ++ drop (length arcs) r) same u

        front : take (length arcs) q' ≡ arcs
        front = ap (take (length arcs)) written ∙ take_at arcs (drop (length arcs) q) (length arcs) refl
