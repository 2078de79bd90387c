-- The climb along the parent arcs: back at a marked node, it has gone round a cycle of negative weight.
use mathlib.Core.Path.{◌≡◌, refl, sym, ap, subst, ◌∙◌}
use mathlib.Core.Logic.{◌≢◌}
use mathlib.Core.List.{List, ◌∷◌}
use Prim.Native.Nat.{ℕ, suc, ◌+◌, ◌*◌, ◌-◌, ◌≤◌, ◌<◌}
use native.Mathlib.Omega.{arith}
use lib.ListN.{length, take, set, length-set, replicate, get_or-replicate, length-replicate}
use lib.Seq.{get_or-set_same, get_or-set_other, slice, slice-cons, slice_empty, length-slice, take-set-lt, drop-set-lt, get_or-take, get_or-drop}
use Rattle.walks.specs.Walk.{at, ArcWalk}
use Rattle.walks.specs.Weight.{total}
use Rattle.walks.specs.SearchNumbers.{bias, inf, most, per_round, stamps}
use Rattle.walks.specs.SearchTerms.{Attained, Hangs, zero_count, Negative}
use Rattle.walks.proofs.Zeros.{split, zeros_le, zeros_set, zeros_replicate}

-- c leads from x to y along parents
pub record Climb (F T : List ℕ) (W : ℕ → ℕ) (m : ℕ) (D st : List ℕ) (x : ℕ) (c : List ℕ) (y : ℕ) : Type 0 where
  pub some : 0 < length c
  pub walk : ArcWalk F T m x c y
  pub known : at D y < inf
  pub above : stamps * (at D x + total W c) + at st x < stamps * (at D y + bias * length c) + at st y

-- the climb from v has come to x: the arcs passed stand in climbed from top on
pub record Climbing (F T : List ℕ) (W : ℕ → ℕ) (m : ℕ) (D st mark climbed : List ℕ) (n v x top : ℕ) : Type 0 where
  pub near : at st v + per_round * top ≤ at st x + per_round * n
  pub low : at D x + most * top ≤ at D v + most * n
  pub marked : (y : ℕ) → y < n → 0 < at mark y → Climb F T W m D st x (slice top (at mark y) climbed) y
  pub back : (i : ℕ) → top ≤ i → i < n → at mark (at T (at climbed i)) ≡ i + 1

-- the marks: of each node passed, where the arcs from there on end in climbed
pub record Marks (mark climbed : List ℕ) (n x top : ℕ) : Type 0 where
  pub here : x < n
  pub mark_len : length mark ≡ n
  pub climbed_len : length climbed ≡ n
  pub count : top ≡ zero_count mark
  pub within : (y : ℕ) → y < n → at mark y ≤ n

get_d_slice : (f t : ℕ) (l : List ℕ) (i : ℕ) → f + i < t → at (slice f t l) i ≡ at l (f + i)
get_d_slice f t l i h = rw (get_or-drop, get_or-take)

-- a cycle of parents has negative weight
pub close : (F T : List ℕ) (W : ℕ → ℕ) (m : ℕ) (D st : List ℕ) (x : ℕ) (c : List ℕ) → Climb F T W m D st x c x → total W c < bias * length c
close F T W m D st x c k = omega (arith, k.above)

module _ (F T : List ℕ) (W : ℕ → ℕ) (m : ℕ) (D st mark climbed : List ℕ) (n v x a e : ℕ) (o : Marks mark climbed n x (suc a))
    (c : Climbing F T W m D st mark climbed n v x (suc a))
    (fresh : at mark x ≡ 0) (k : Hangs F T W m D st x e) (young : at st x < stamps) (heavy : bias ≤ W e + most) where
  abbrev mark' : List ℕ
  mark' = set mark x (suc a)

  abbrev climbed' : List ℕ
  climbed' = set climbed a e

  top : suc a ≤ n
  top = omega (arith, o.count, zeros_le mark, o.mark_len)

  mark_x : at mark' x ≡ suc a
  mark_x = get_or-set_same mark x (suc a) 0 (omega (arith, o.here, o.mark_len))

  mark_o : (y : ℕ) → y ≢ x → at mark' y ≡ at mark y
  mark_o y q = get_or-set_other mark x y (suc a) 0 q

  climbed_a : at climbed' a ≡ e
  climbed_a = get_or-set_same climbed a e 0 (omega (arith, top, o.climbed_len))

  climbed_o : (i : ℕ) → i ≢ a → at climbed' i ≡ at climbed i
  climbed_o i q = get_or-set_other climbed a i e 0 q

  climbed_len' : length climbed' ≡ n
  climbed_len' = length-set climbed a e ∙ o.climbed_len

  pub climb_marks : at F e < n → Marks mark' climbed' n (at F e) a
  climb_marks h = record {
    here = h;
    mark_len = length-set mark x (suc a) ∙ o.mark_len;
    climbed_len = climbed_len';
    count = omega (arith, o.count, zeros_set mark x a (omega (arith, o.here, o.mark_len)) fresh);
    within = split (λ y. y < n → at mark' y ≤ n) x (λ h. omega (arith, mark_x, top)) (λ y q h. omega (arith, mark_o y q, o.within y h));
  }

  rest : (t : ℕ) → suc a < t → slice (suc a) t climbed' ≡ slice (suc a) t climbed
  rest t h = rw (take-set-lt t climbed a e (omega arith), drop-set-lt (suc a) (take t climbed) a e (omega arith))

  one_more : (t : ℕ) → a < t → t ≤ n → slice a t climbed' ≡ e ∷ slice (suc a) t climbed'
  one_more t h l = slice-cons a t climbed' 0 h (omega (arith, climbed_len', l)) ∙ ap (λ (z : ℕ). z ∷ slice (suc a) t climbed') climbed_a

  first : Climb F T W m D st (at F e) (slice a (suc a) climbed') x
  first = rw (one_more (suc a) (omega arith) top, slice_empty) record {
    some = omega arith;
    walk = (k.arc, refl, k.ends);
    known = k.known;
    above = omega (arith, k.above);
  }

  further : (y t : ℕ) → t ≤ n → Climb F T W m D st x (slice (suc a) t climbed) y → Climb F T W m D st (at F e) (slice a t climbed') y
  further y t l p =
      let h : suc a < t = omega (arith, p.some, length-slice (suc a) t climbed (omega (arith, o.climbed_len, l))) in
      rw (one_more t (omega arith) l, rest t h) record {
        some = omega arith;
        walk = (k.arc, refl, subst (λ (z : ℕ). ArcWalk F T m z (slice (suc a) t climbed) y) (sym k.ends) p.walk);
        known = p.known;
        above = omega (arith, k.above, p.above);
      }

  pub climb_more : Climbing F T W m D st mark' climbed' n v (at F e) a
  climb_more = record {
    near = omega (arith, k.near, c.near);
    low = omega (arith, k.above, c.low);
    marked = split (λ y. y < n → 0 < at mark' y → Climb F T W m D st (at F e) (slice a (at mark' y) climbed') y) x
        (λ h p. rw mark_x first)
        (λ y q h p. rw (mark_o y q) (further y (at mark y) (o.within y h) (c.marked y h (omega (arith, mark_o y q)))));
    back = split (λ i. a ≤ i → i < n → at mark' (at T (at climbed' i)) ≡ i + 1) a
        (λ g h. rw (climbed_a, k.ends, mark_x) (omega arith))
        (λ i q g h. rw (climbed_o i q) (let b : at mark (at T (at climbed i)) ≡ i + 1 = c.back i (omega arith) h in
        mark_o (at T (at climbed i)) (λ p. let z : at mark (at T (at climbed i)) ≡ at mark x = ap (λ (y : ℕ). at mark y) p in omega arith) ∙ b));
  }

-- the climb has come back to a marked node
pub climb_closed : (F T : List ℕ) (W : ℕ → ℕ) (m : ℕ) (D st mark climbed : List ℕ) (n v x top : ℕ) → Marks mark climbed n x top
    → Climbing F T W m D st mark climbed n v x top → (at D x < inf → Attained F T W m (at D x) x) → 0 < at mark x
    → (top < at mark x) × (at mark x ≤ n) × Negative F T W m (slice top (at mark x) climbed)
climb_closed F T W m D st mark climbed n v x top o c reach h =
    let k : Climb F T W m D st x (slice top (at mark x) climbed) x = c.marked x o.here h in
    let l : length (slice top (at mark x) climbed) ≡ at mark x - top =
    length-slice top (at mark x) climbed (omega (arith, o.within x o.here, o.climbed_len)) in (
      omega (arith, k.some),
      o.within x o.here,
      record {
        hub = x;
        path = (reach k.known).path;
        come = (reach k.known).walk;
        some = k.some;
        walk = k.walk;
        below = close F T W m D st x (slice top (at mark x) climbed) k;
        simple = λ i j hi hj p.
            let q : at T (at climbed (top + i)) ≡ at T (at climbed (top + j)) =
            rw (← get_d_slice top (at mark x) climbed i (omega arith), ← get_d_slice top (at mark x) climbed j (omega arith)) p in
            let z : at mark (at T (at climbed (top + i))) ≡ at mark (at T (at climbed (top + j))) = ap (λ (y : ℕ). at mark y) q in
            let n : at mark x ≤ n = o.within x o.here in
            omega (arith, c.back (top + i) (omega arith) (omega arith), c.back (top + j) (omega arith) (omega arith));
      },
    )

-- the climb begins
pub climb_none : (F T : List ℕ) (W : ℕ → ℕ) (m : ℕ) (D st climbed : List ℕ) (n v : ℕ) → v < n → length climbed ≡ n
    → Marks (replicate n 0) climbed n v n × Climbing F T W m D st (replicate n 0) climbed n v v n
climb_none F T W m D st climbed n v h l = (
  record {
    here = h;
    mark_len = length-replicate n 0;
    climbed_len = l;
    count = sym (zeros_replicate n);
    within = λ y k. omega (arith, get_or-replicate {A = ℕ} n y 0 0 k);
  },
  record {
    near = omega arith;
    low = omega arith;
    marked = λ y k p. absurd (let z : at (replicate n 0) y ≡ 0 = get_or-replicate n y 0 0 k in omega arith);
    back = λ i p q. absurd (omega arith);
  },
)
