-- The turns of the climb's loop, over plain lists. `par` holds for each node its parent arc and 1, or 0.
use mathlib.Core.Path.{◌≡◌}
use mathlib.Core.List.{List}
use Prim.Native.Nat.{ℕ, zero, suc, ◌+◌, ◌-◌, ◌≤◌, ◌<◌}
use native.Mathlib.Omega.{arith}
use native.Mathlib.Numerals.{add-one}
use lib.ListN.{length, set, replicate}
use Rattle.walks.specs.Walk.{at}
use Rattle.walks.specs.SearchTerms.{View, Climbed}
use Rattle.walks.proofs.Zeros.{zeros_le, zeros_set}
use Rattle.walks.proofs.Climbs.{Climbing, Marks, climb_marks, climb_more, climb_closed, climb_none}

-- the climb, whatever the graph's other parts are
abbrev pub Climbs : List ℕ → List ℕ → List ℕ → List ℕ → ℕ → ℕ → ℕ → ℕ → Type 0
Climbs F par mark climbed n v x top = (g : View F par n) → Climbing F g.T g.W g.m g.D g.st mark climbed n v x top

module _ {mark climbed : List ℕ} {n x top : ℕ} (o : Marks mark climbed n x top) where
  pub top_some : at mark x ≡ 0 → 1 ≤ top
  top_some z = omega (arith, o.count, zeros_set mark x 0 (omega (arith, o.here, o.mark_len)) z)

  pub top_most : top ≤ n
  top_most = omega (arith, o.count, zeros_le mark, o.mark_len)

  pub arc_of : {F par : List ℕ} → View F par n → (at par x ≡ 0 → ⊥) → (at par x - 1 < length F) × (at F (at par x - 1) < n)
  arc_of {par = par} g q = let k : at par x - 1 < g.m = (g.hangs x o.here (at par x - 1) (omega arith)).arc in
      omega (arith, g.froms, g.source (at par x - 1) k)

-- one arc further
pub climb_again : {F par mark climbed : List ℕ} {n v x top y : ℕ} → View F par n → Marks mark climbed n x top → Climbs F par mark climbed n v x top
    → at mark x ≡ 0 → (at par x ≡ 0 → ⊥) → y ≡ at F (at par x - 1)
    → Marks (set mark x (top - 1 + 1)) (set climbed (top - 1) (at par x - 1)) n y (top - 1)
    × Climbs F par (set mark x (top - 1 + 1)) (set climbed (top - 1) (at par x - 1)) n v y (top - 1)
climb_again {top = zero} g o k z q p = absurd (omega (arith, top_some o z))
climb_again {F} {par} {mark} {climbed} {n} {v} {x} {top = suc a} g o k z q p =
    let s : suc a - 1 ≡ a = omega arith in
    let e : at par x ≡ at par x - 1 + 1 = omega arith in
    rw (p, s, add-one a) (
      climb_marks F g.T g.W g.m g.D g.st mark climbed n v x a (at par x - 1) o (k g) z
          (g.hangs x o.here (at par x - 1) e) (g.stamp x o.here) (g.heavy (at par x - 1) (g.hangs x o.here (at par x - 1) e).arc)
          (arc_of o g q).1,
      λ g. climb_more F g.T g.W g.m g.D g.st mark climbed n v x a (at par x - 1) o (k g) z
          (g.hangs x o.here (at par x - 1) e) (g.stamp x o.here) (g.heavy (at par x - 1) (g.hangs x o.here (at par x - 1) e).arc),
    )

pub climb_begun : (F par mark climbed : List ℕ) (n v : ℕ) → v < n → mark ≡ replicate n 0 → length climbed ≡ n
    → Marks mark climbed n v n × Climbs F par mark climbed n v v n
climb_begun F par mark climbed n v h p l = rw p (
  (climb_none F par (at par) n par par climbed n v h l).0,
  λ g. (climb_none F g.T g.W g.m g.D g.st climbed n v h l).1,
)

module _ {F par mark climbed : List ℕ} {n v x top : ℕ} (o : Marks mark climbed n x top) (k : Climbs F par mark climbed n v x top) (g : View F par n) where
  -- at a node without a parent
  pub climb_rooted : at mark x ≡ 0 → at par x ≡ 0 → (a : ℕ) → Climbed F g.T g.W g.m g.D g.st climbed n v a a
  climb_rooted z p a = record {
    climbed_len = o.climbed_len;
    cycle = λ h. absurd (omega arith);
    root = λ _. omega (arith, (k g).near, (k g).low, g.root x o.here p, top_some o z);
  }

  -- back at a marked node
  pub climb_round : (at mark x ≡ 0 → ⊥) → (top < at mark x) × Climbed F g.T g.W g.m g.D g.st climbed n v top (at mark x)
  climb_round z = let c = climb_closed F g.T g.W g.m g.D g.st mark climbed n v x top o (k g) (g.reached x o.here) (omega arith) in (
    omega (arith, c.0),
    record {
      climbed_len = o.climbed_len;
      cycle = λ _. (c.1, c.2);
      root = λ h. absurd (omega (arith, c.0));
    },
  )
