-- What a look-up and an insertion do to the index.
use mathlib.Core.Path.{◌≡◌, refl, sym, ap, subst, ◌∙◌}
use mathlib.Core.List.{List}
use mathlib.Core.Logic.{inl, inr}
use Prim.Native.Nat.{ℕ, ◌+◌, ◌-◌, ◌≤◌, ◌<◌}
use native.Mathlib.Omega.{arith}
use native.Mathlib.Decide.{ℕ_discrete, dec_lt}
use lib.ListN.{length, set}
use lib.Seq.{get_or-set_same, get_or-set_other}
use Rattle.std.specs.Prelude.{Some, None}
use Rattle.walks.specs.Walk.{at}
use Rattle.rising.specs.Place.{Place}
use Rattle.explore.specs.Index.{Inserted, Stands, Index, Entered}

-- ---- the index
pub one : (N K I : List ℕ) → at K 0 ≡ at N 0 → at I 0 ≡ 0 → Index N K I 1
one N K I p q = record {
  rising = record { rises = λ a b h l. absurd (omega arith) };
  below = λ k h. let e : k ≡ 0 = omega arith in omega (arith, ap (at I) e, q);
  is = λ k h. let e : 0 ≡ k = omega arith in subst (λ (k : ℕ). at K k ≡ at N (at I k)) e (p ∙ sym (ap (at N) q));
  onto = λ v h. record { place = 0; below = omega arith; is = omega (arith, q) };
}

module _ (N K I : List ℕ) (n x p : ℕ) (g : Index N K I n) (w : Place K n x p) (q : p < n → at K p ≡ x → ⊥) where
  -- not there
  pub absent : (a : ℕ) → a < n → at N a ≡ x → ⊥
  absent a h e =
      let s = g.onto a h in
      let k : at K s.place ≡ x = g.is s.place s.below ∙ ap (at N) s.is ∙ e in
      elim (dec_lt s.place p) [
        | yes l ↦ omega (arith, w.below s.place l)
        | no l ↦ elim (ℕ_discrete p s.place) [
          | yes z ↦ q (omega (arith, s.below)) (ap (at K) z ∙ k)
          | no z ↦ omega (arith, w.above p (omega arith) (omega (arith, s.below)), g.rising.rises p s.place (omega arith) s.below)
        ]
      ]

  -- so what stands from its place on is above
  above : (a : ℕ) → p ≤ a → a < n → x < at K a
  above a h l = elim (ℕ_discrete (at K a) x) [
    | yes e ↦ absurd (absent (at I a) (g.below a l) (sym (g.is a l) ∙ e))
    | no z ↦ omega (arith, w.above a h l)
  ]

-- before place p, at it, or after it
data Where (n p k : ℕ) : Type 0 where
  before : k < p → Where n p k
  here : k ≡ p → Where n p k
  after : (j : ℕ) → k ≡ j + 1 → p ≤ j → j < n → Where n p k

where_is : (n p k : ℕ) → p ≤ n → k < n + 1 → Where n p k
where_is n p k h l = elim (dec_lt k p) [
  | yes q ↦ before q
  | no q ↦ elim (ℕ_discrete k p) [ yes e ↦ here e | no z ↦ after (k - 1) (omega arith) (omega arith) (omega arith) ]
]

-- x, which is not there, is put in at place p, for the place n of the list
module _ (N K I N' K' I' : List ℕ) (n x p : ℕ) (g : Index N K I n) (w : Place K n x p) (q : p < n → at K p ≡ x → ⊥)
    (k : Inserted K K' n p x) (i : Inserted I I' n p n) (same : (a : ℕ) → a < n → at N' a ≡ at N a) (last : at N' n ≡ x) where
  rise : (a b : ℕ) → a < b → b < n + 1 → Where n p a → Where n p b → at K' a < at K' b
  rise a b h l (before u) (before v) = omega (arith, k.low a 0 u, k.low b 0 v, g.rising.rises a b h (omega (arith, w.within)))
  rise a b h l (before u) (here v) = omega (arith, k.low a 0 u, ap (at K') v, k.mid 0, w.below a u)
  rise a b h l (before u) (after j e m v) = omega (arith, k.low a 0 u, ap (at K') e, k.high j 0 m v, w.below a u, w.above j m v)
  rise a b h l (here u) (before v) = absurd (omega arith)
  rise a b h l (here u) (here v) = absurd (omega arith)
  rise a b h l (here u) (after j e m v) = omega (arith, ap (at K') u, k.mid 0, ap (at K') e, k.high j 0 m v, above N K I n x p g w q j m v)
  rise a b h l (after j e m v) (before u) = absurd (omega arith)
  rise a b h l (after j e m v) (here u) = absurd (omega arith)
  rise a b h l (after j e m v) (after j' e' m' v') =
      omega (arith, ap (at K') e, k.high j 0 m v, ap (at K') e', k.high j' 0 m' v', g.rising.rises j j' (omega arith) v')

  beneath : (a : ℕ) → Where n p a → at I' a < n + 1
  beneath a (before u) = omega (arith, i.low a 0 u, g.below a (omega (arith, w.within)))
  beneath a (here u) = omega (arith, ap (at I') u, i.mid 0)
  beneath a (after j e m v) = omega (arith, ap (at I') e, i.high j 0 m v, g.below j v)

  stays : (j : ℕ) → j < n → at N' (at I j) ≡ at K j
  stays j l = same (at I j) (g.below j l) ∙ sym (g.is j l)

  names : (a : ℕ) → Where n p a → at K' a ≡ at N' (at I' a)
  names a (before u) = let l : a < n = omega (arith, w.within) in sym (ap (at N') (i.low a 0 u) ∙ stays a l ∙ sym (k.low a 0 u))
  names a (here u) = sym (ap (λ (a : ℕ). at N' (at I' a)) u ∙ ap (at N') (i.mid 0) ∙ last ∙ sym (k.mid 0) ∙ sym (ap (at K') u))
  names a (after j e m v) =
      sym (ap (λ (a : ℕ). at N' (at I' a)) e ∙ ap (at N') (i.high j 0 m v) ∙ stays j v ∙ sym (k.high j 0 m v) ∙ sym (ap (at K') e))

  stand : (v : ℕ) → v < n + 1 → Stands I' (n + 1) v
  stand v h = elim (ℕ_discrete v n) [
    | yes e ↦ record { place = p; below = omega (arith, w.within); is = i.mid 0 ∙ sym e }
    | no z ↦
        let s : Stands I n v = g.onto v (omega arith) in
        elim (dec_lt s.place p) [
          | yes l ↦ record { place = s.place; below = omega (arith, s.below); is = i.low s.place 0 l ∙ s.is }
          | no l ↦ record { place = s.place + 1; below = omega (arith, s.below); is = i.high s.place 0 (omega arith) s.below ∙ s.is }
        ]
  ]

  put : Index N' K' I' (n + 1)
  put = record {
    rising = record { rises = λ a b h l. rise a b h l (where_is n p a w.within (omega arith)) (where_is n p b w.within l) };
    below = λ a h. beneath a (where_is n p a w.within h);
    is = λ a h. names a (where_is n p a w.within h);
    onto = stand;
  }

-- ---- what `enter` comes to

-- docs/PORT.md names this; no proof cites it
pub guessed : (N K I P : List ℕ) (n x m g : ℕ) → g < n → at N g ≡ x → Entered N K I P N K I P n x m (Some g)
guessed N K I P n x m g h e = inl record { below = h; is = e; nodes = refl; sorted = refl; order = refl; tree = refl }

module _ (N K I P : List ℕ) (n x m p : ℕ) (g : Index N K I n) (w : Place K n x p) where
  pub stood : {j : ℕ} → p < n → at K p ≡ x → j ≡ at I p → Entered N K I P N K I P n x m (Some j)
  stood h e f = subst (λ (j : ℕ). Entered N K I P N K I P n x m (Some j)) (sym f) (inl record {
    below = g.below p h;
    is = sym (g.is p h) ∙ e;
    nodes = refl;
    sorted = refl;
    order = refl;
    tree = refl;
  })

  pub filled : (p < n → at K p ≡ x → ⊥) → n ≡ 2048 → Entered N K I P N K I P n x m None
  filled q e = record {
    full = e;
    fresh = absent N K I n x p g w q;
    nodes = refl;
    sorted = refl;
    order = refl;
    tree = refl;
  }

  pub joins : (K' I' : List ℕ) → (p < n → at K p ≡ x → ⊥) → n < 2048 → 2048 ≤ length N → Inserted K K' n p x → Inserted I I' n p n
      → Entered N K I P (set N n x) K' I' (set P n m) n x m (Some n)
  joins K' I' q r h k i = inr record {
    last = refl;
    room = r;
    fresh = absent N K I n x p g w q;
    nodes = refl;
    tree = refl;
    index = put N K I (set N n x) K' I' n x p g w q k i (λ a l. get_or-set_other N n a x 0 (λ e. omega arith)) (get_or-set_same N n x 0 (omega arith));
    sorted_rest = k.rest;
    order_rest = i.rest;
  }
