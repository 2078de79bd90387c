-- Two searches of the same steps go the same way, arc by arc, as far as both go.
use mathlib.Core.Path.{◌≡◌, sym, ap, subst, ◌∙◌}
use mathlib.Core.List.{List}
use mathlib.Core.Option.{Option, some}
use Prim.Native.Nat.{ℕ, zero, suc, ◌≤◌, ◌<◌}
use native.Mathlib.Omega.{arith}
use native.Mathlib.Decide.{dec_lt}
use Rattle.automaton.specs.Priced.{Priced}
use Rattle.automaton.proofs.Chains.{some_inj}
use Rattle.automaton.proofs.Tests.{by_order}
use Rattle.walks.specs.Walk.{at, atℤ}
use Rattle.contract.specs.Explored.{ArcOf}
use Rattle.explore.specs.Buffers.{GraphBuffers, found}
use Rattle.explore.specs.Answer.{turn_of_arc}
use Rattle.explore.proofs.SearchLaws.{Searched, up_to}

-- where the arc d leads, by number, with its cost and reward
abbrev pub priced : GraphBuffers → ℕ → Priced ℕ
priced b d = record { to = at b.node (at b.to d); cost = atℤ b.cost d; reward = at b.reward d }

pub record SameArc (b b' : GraphBuffers) (d : ℕ) : Type 0 where
  pub from : at b.from d ≡ at b'.from d
  pub to : at b.to d ≡ at b'.to d
  pub code : at b.code d ≡ at b'.code d
  pub leads : priced b d ≡ priced b' d

-- the node v is one of the n' nodes of b' too
pub record SameNode (b b' : GraphBuffers) (n' v : ℕ) : Type 0 where
  pub below : v < n'
  pub number : at b.node v ≡ at b'.node v
  pub tree : 0 < v → at b.tree v ≡ at b'.tree v

mirrored : {b b' : GraphBuffers} {d : ℕ} → SameArc b b' d → SameArc b' b d
mirrored s = record { from = sym s.from; to = sym s.to; code = sym s.code; leads = sym s.leads }

-- the node v is the start or was discovered by an arc before e, or it was not
by_age : {X : Type 0} (tree : List ℕ) (e v : ℕ) → ((0 < v → at tree v < e) → X) → (0 < v → e ≤ at tree v → X) → X
by_age tree e v old new = elim (dec_lt 0 v) [
  | yes p ↦ elim (dec_lt (at tree v) e) [ yes k ↦ old (λ q. k) | no k ↦ new p (omega arith) ]
  | no p ↦ old (λ q. absurd (p q))
]

-- ---- the arcs before e are the same
module _ {step : ℕ → ℕ → Option (Priced ℕ)} {start : ℕ} {before before' b b' : GraphBuffers} {n n' m m' t t' : ℕ}
    (g : Searched step start before b n m t) (g' : Searched step start before' b' n' m' t') (e : ℕ) (short : e ≤ m) (short' : e ≤ m')
    (same : (d : ℕ) → d < e → SameArc b b' d) where
  -- and so are the nodes that they discover
  discovered : (v : ℕ) → v < n → (0 < v → at b.tree v < e) → SameNode b b' n' v
  discovered v h k = elim (dec_lt 0 v) [
    | yes p ↦
        let d = at b.tree v in
        let s = same d (k p) in
        let to' : at b'.to d ≡ v = sym s.to ∙ g.tree.ends v h p in
        let below : v < n' = omega (arith, to', (g'.steps d (omega (arith, k p))).target) in
        let early : at b'.tree v ≤ d = omega (arith, ap (at b'.tree) to', g'.tree.first d (omega (arith, k p)) (omega (arith, to'))) in
        let c = at b'.tree v in
        let to : at b.to c ≡ v = (same c (omega (arith, early, k p))).to ∙ g'.tree.ends v below p in
        record {
          below = below;
          number = ap (at b.node) (sym (g.tree.ends v h p)) ∙ ap (λ (x : Priced ℕ). x.to) s.leads ∙ ap (at b'.node) to';
          tree = λ q. omega (arith, early, ap (at b.tree) to, g.tree.first c (omega (arith, early, k p)) (omega (arith, to)));
        }
    | no p ↦
        let z : v ≡ 0 = omega arith in
        record {
          below = omega (arith, g'.some_node);
          number = ap (at b.node) z ∙ g.first ∙ sym g'.first ∙ ap (at b'.node) (sym z);
          tree = λ q. absurd (omega arith);
        }
  ]

  module _ (h : e < m) where
    -- among them is the source of the arc e
    same_source : SameNode b b' n' (at b.from e)
    same_source = discovered v in_n (λ p. by_order (at b.tree v) e (λ l. l)
        (λ q. absurd (omega (arith, ap (at b.from) q, g.tree.earlier v in_n p)))
        (λ l. absurd (omega (
          arith,
          g.by_source e (at b.tree v) l (g.tree.arc v in_n p),
          g.tree.earlier v in_n p,
          g.codes (at b.tree v) (g.tree.arc v in_n p),
        ))))
      where
        v : ℕ
        v = at b.from e

        in_n : at b.from e < n
        in_n = (g.steps e h).source

    -- its step is allowed in the other search: if its turn has come there, it is an arc, and not one of those before e
    no_later : turn_of_arc b e < t' → (e < m') × (turn_of_arc b' e ≤ turn_of_arc b e)
    no_later l = by_order c e
        (λ k. absurd (omega (arith, (same c k).from, (same c k).code, a.source, a.code_is, g.by_source c e k h)))
        (λ q. (omega (arith, a.below), omega (arith, ap (at b'.from) q, ap (at b'.code) q, a.source, a.code_is)))
        (λ k. (omega (arith, a.below), omega (arith, a.source, a.code_is, g'.by_source e c k a.below)))
      where
        a : ArcOf (found b' n' m') (at b.from e) (at b.code e)
        a = g'.complete (at b.from e) (at b.code e) (priced b e) (g.codes e h) l
            (subst (λ (x : ℕ). step x (at b.code e) ≡ some (priced b e)) same_source.number (g.steps e h).sound)

        c : ℕ
        c = a.arc

-- ---- and so is the arc e
module _ {step : ℕ → ℕ → Option (Priced ℕ)} {start : ℕ} {before before' b b' : GraphBuffers} {n n' m m' t t' : ℕ}
    (g : Searched step start before b n m t) (g' : Searched step start before' b' n' m' t') (e : ℕ) (h : e < m) (h' : e < m')
    (same : (d : ℕ) → d < e → SameArc b b' d) (leads : at b.node (at b.to e) ≡ at b'.node (at b'.to e)) where
  -- a target that was known stands where it stood
  old_target : (0 < at b.to e → at b.tree (at b.to e) < e) → at b.to e ≡ at b'.to e
  old_target k =
      let s = discovered g g' e (omega arith) (omega arith) same (at b.to e) (g.steps e h).target k in
      g'.distinct (at b.to e) (at b'.to e) s.below (g'.steps e h').target (sym s.number ∙ leads)

  -- and a new one is the next: a place before it was known
  no_higher : 0 < at b.to e → e ≤ at b.tree (at b.to e) → at b.to e < at b'.to e → ⊥
  no_higher p k l =
      let x = at b.to e in
      let early : at b'.tree x < e = omega (
        arith,
        g'.tree.rising x (at b'.to e) l (g'.steps e h').target p,
        g'.tree.first e h' (omega arith),
      ) in
      let s = discovered g' g e (omega arith) (omega arith) (λ d w. mirrored (same d w)) x (omega (arith, (g'.steps e h').target)) (λ q. early) in
      omega (arith, s.tree p)

module _ {step : ℕ → ℕ → Option (Priced ℕ)} {start : ℕ} {before before' b b' : GraphBuffers} {n n' m m' t t' : ℕ}
    (g : Searched step start before b n m t) (g' : Searched step start before' b' n' m' t') where
  next : (e : ℕ) → e < m → e < m' → ((d : ℕ) → d < e → SameArc b b' d) → SameArc b b' e
  next e h h' same = record { from = from; to = to; code = code; leads = leads }
    where
      back : (d : ℕ) → d < e → SameArc b' b d
      back d w = mirrored (same d w)

      turns : turn_of_arc b e ≡ turn_of_arc b' e
      turns = by_order (turn_of_arc b e) (turn_of_arc b' e)
          (λ l. absurd (omega (arith, (no_later g g' e (omega arith) (omega arith) same h (omega (arith, g'.passed e h'))).1)))
          (λ q. q)
          (λ l. absurd (omega (arith, (no_later g' g e (omega arith) (omega arith) back h' (omega (arith, g.passed e h))).1)))

      from : at b.from e ≡ at b'.from e
      from = omega (arith, turns, g.codes e h, g'.codes e h')

      code : at b.code e ≡ at b'.code e
      code = omega (arith, turns, from)

      leads : priced b e ≡ priced b' e
      leads = some_inj (sym (g.steps e h).sound ∙ ap (λ (x : ℕ). step x (at b.code e)) (same_source g g' e (omega arith) (omega arith) same h).number
          ∙ ap (λ (v : ℕ). step (at b'.node v) (at b.code e)) from ∙ ap (step (at b'.node (at b'.from e))) code ∙ (g'.steps e h').sound)

      number : at b.node (at b.to e) ≡ at b'.node (at b'.to e)
      number = ap (λ (x : Priced ℕ). x.to) leads

      to : at b.to e ≡ at b'.to e
      to = by_age b.tree e (at b.to e) (old_target g g' e h h' same number) (λ p k. by_age b'.tree e (at b'.to e)
          (λ o. sym (old_target g' g e h' h back (sym number) o))
          (λ p' k'. by_order (at b.to e) (at b'.to e) (λ l. absurd (no_higher g g' e h h' same number p k l)) (λ q. q)
          (λ l. absurd (no_higher g' g e h' h back (sym number) p' k' l))))

  pub same_arcs : (e : ℕ) → e ≤ m → e ≤ m' → (d : ℕ) → d < e → SameArc b b' d
  same_arcs zero l l' d h = absurd (omega arith)
  same_arcs (suc e) l l' d h =
      let ih = same_arcs e (omega arith) (omega arith) in
      up_to (SameArc b b') e ih (next e (omega arith) (omega arith) ih) d (omega arith)

  -- the nodes of the search that finds no more arcs
  pub same_nodes : m ≤ m' → (v : ℕ) → v < n → SameNode b b' n' v
  same_nodes l v h = discovered g g' m (omega arith) l (same_arcs m (omega arith) l) v h (g.tree.arc v h)

  -- a search that finds more arcs goes on, from a node of the other, at a turn that has not come there
  pub goes_on : m < m' → (at b'.from m < n) × (t ≤ turn_of_arc b' m)
  goes_on l = (
    (same_source g' g m (omega arith) (omega arith) same l).below,
    elim (dec_lt (turn_of_arc b' m) t) [
      | yes w ↦ absurd (omega (arith, (no_later g' g m (omega arith) (omega arith) same l w).0))
      | no w ↦ omega arith
    ],
  )
    where
      same : (d : ℕ) → d < m → SameArc b' b d
      same d h = mirrored (same_arcs m (omega arith) (omega arith) d h)
