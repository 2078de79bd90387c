-- A lasso of arcs is a lasso of steps.
use mathlib.Core.Path.{◌≡◌, refl, sym, ap, ◌∙◌, subst}
use mathlib.Core.List.{List, [], ◌∷◌, ◌++◌, map, map-append}
use mathlib.Core.Option.{Option}
use Prim.Native.Nat.{ℕ, zero, suc, ◌+◌, ◌≤◌, ◌<◌}
use native.Mathlib.Nat.{le_of_suc-le-suc}
use native.Mathlib.Omega.{arith}
use lib.IntN.{ℤ, pos, ◌*ℤ◌}
use lib.ListN.{length, take, drop, length-append, length-map}
use lib.Seq.{slice, take-take, take-append_seam, drop-append_seam, get_or-take, ext_get_or, length-take-le}
use Rattle.automaton.specs.Priced.{Priced}
use Rattle.automaton.specs.Walks.{Walk}
use Rattle.automaton.specs.Times.{units_along}
use Rattle.automaton.proofs.Walks.{same_walk}
use Rattle.walks.specs.Walk as Graph
use Rattle.walks.specs.Walk.{at}
use Rattle.walks.specs.Lasso.{ArcLasso}
use Rattle.walks.proofs.Lassos as GraphLassos
use Rattle.contract.specs.Accepted.{Lasso, CycleSums}
use Rattle.contract.specs.Explored.{Found, Explored}
use Rattle.contract.proofs.Arcs.{units_over, cost_of, reward_of, codes_of, units_arcs, walk_of, start_walk}

map-take : (f : ℕ → ℕ) (i : ℕ) (l : List ℕ) → take i (map f l) ≡ map f (take i l)
map-take f zero l = refl
map-take f (suc i) [] = refl
map-take f (suc i) (x ∷ l) = ap (λ (k : List ℕ). f x ∷ k) (map-take f i l)

at_map : (f : ℕ → ℕ) (l : List ℕ) (i : ℕ) → i < length l → at (map f l) i ≡ f (at l i)
at_map f [] i h = absurd (omega arith)
at_map f (x ∷ l) zero h = refl
at_map f (x ∷ l) (suc i) h = at_map f l i (le_of_suc-le-suc h)

-- the walk along the first i arcs leads to where arc i begins
front_walk : (F T : List ℕ) (m a : ℕ) (l : List ℕ) (b i : ℕ) → Graph.ArcWalk F T m a l b → i < length l
    → Graph.ArcWalk F T m a (take i l) (at F (at l i))
front_walk F T m a [] b i w h = absurd (omega arith)
front_walk F T m a (e ∷ l) b zero w h = sym w.1
front_walk F T m a (e ∷ l) b (suc i) w h = (w.0, w.1, front_walk F T m (at T e) l b i w.2 (le_of_suc-le-suc h))

module _ {step : ℕ → ℕ → Option (Priced ℕ)} {start : ℕ} {g : Found} (x : Explored step start g) (stem cycle : List ℕ)
    (o : ArcLasso g.from g.to g.m stem cycle) where
  abbrev arcs : List ℕ
  arcs = stem ++ cycle

  abbrev size : ℕ
  size = length stem + length cycle

  all : length (stem ++ cycle) ≡ size
  all = length-append stem cycle

  whole : Graph.ArcWalk g.from g.to g.m 0 arcs o.hub
  whole = GraphLassos.lasso_walk g.from g.to g.m stem cycle o

  source_below : (i : ℕ) → i < size → at g.from (at arcs i) < g.n
  source_below i h = x.source (at arcs i) (GraphLassos.lasso_arc g.from g.to g.m stem cycle o i h)

  pub short : size ≤ g.n
  short = GraphLassos.lasso_short g.from g.to g.m stem cycle o g.n x.source

  module _ (steps : List ℕ) (room : size ≤ length steps) (codes : (i : ℕ) → i < size → at steps i ≡ at g.code (at arcs i)) where
    whole_codes : take size steps ≡ codes_of g arcs
    whole_codes = ext_get_or 0 (take size steps) (codes_of g arcs)
        (length-take-le size steps room ∙ sym (length-map arcs (at g.code) ∙ all))
        (λ i h. let l : i < size = omega (arith, length-take-le size steps room) in
        get_or-take size steps i 0 l ∙ codes i l ∙ sym (at_map (at g.code) arcs i (omega (arith, all))))

    -- the first i codes are those of the first i arcs
    front : (i : ℕ) → i ≤ size → take i steps ≡ codes_of g (take i arcs)
    front i h = sym (take-take i size steps h) ∙ ap (take i) whole_codes ∙ map-take (at g.code) i arcs

    -- and they lead to where arc i begins
    leads : (i : ℕ) → i < size → (z : ℕ) (c : ℤ) (r : ℕ) → Walk step start (take i steps) z c r → z ≡ at g.node (at g.from (at arcs i))
    leads i h z c r w =
        let v = start_walk x (take i arcs) (at g.from (at arcs i))
        (front_walk g.from g.to g.m 0 arcs o.hub i whole (omega (arith, all))) in
        ap (λ (u : Priced ℕ). u.to) (same_walk step w v refl (front i (omega arith)))

    stem_codes : take (length stem) steps ≡ codes_of g stem
    stem_codes = front (length stem) (omega arith) ∙ ap (codes_of g) (take-append_seam stem cycle)

    cycle_codes : slice (length stem) size steps ≡ codes_of g cycle
    cycle_codes = ap (drop (length stem)) (whole_codes ∙ map-append (at g.code) stem cycle)
        ∙ ap (λ (i : ℕ). drop i (codes_of g stem ++ codes_of g cycle)) (sym (length-map stem (at g.code)))
        ∙ drop-append_seam (codes_of g stem) (codes_of g cycle)

    pub lasso_steps : (p : ℤ) (q : ℕ) → 0 < reward_of g cycle → pos q *ℤ cost_of g cycle ≡ p *ℤ pos (reward_of g cycle)
        → ((i : ℕ) → size ≤ i → i < length steps → at steps i ≡ 0) → Lasso step start p q (length stem) (length cycle) steps
    lasso_steps p q earns exact rest = record {
      node = at g.node o.hub;
      stem_cost = cost_of g stem;
      stem_reward = reward_of g stem;
      stem = subst (λ (l : List ℕ). Walk step start l (at g.node o.hub) (cost_of g stem) (reward_of g stem)) (sym stem_codes)
          (start_walk x stem o.hub o.stem);
      some_step = o.some;
      cost = cost_of g cycle;
      reward = reward_of g cycle;
      cycle = subst (λ (l : List ℕ). Walk step (at g.node o.hub) l (at g.node o.hub) (cost_of g cycle) (reward_of g cycle)) (sym cycle_codes)
          (walk_of x o.hub cycle o.hub o.cycle);
      simple = λ i j h l z c d r t u v. (let e : i ≡ j = o.simple i j (omega (arith, all)) (omega (arith, all))
          (x.distinct (at g.from (at arcs i)) (at g.from (at arcs j)) (source_below i (omega arith)) (source_below j l)
          (sym (leads i (omega arith) z c r u) ∙ leads j l z d t v)) in omega arith);
      earns = earns;
      exact = exact;
      rest = rest;
    }

    -- with the sums over the cycle's arcs
    pub lasso_sums : (p : ℤ) (q : ℕ) (earns : 0 < reward_of g cycle) (exact : pos q *ℤ cost_of g cycle ≡ p *ℤ pos (reward_of g cycle))
        (rest : (i : ℕ) → size ≤ i → i < length steps → at steps i ≡ 0)
        → CycleSums step start p q (lasso_steps p q earns exact rest) (units_over g cycle) (cost_of g cycle) (reward_of g cycle)
    unfolding lasso_steps
    lasso_sums p q earns exact rest = record { units_are = sym (ap units_along cycle_codes ∙ units_arcs g cycle); cost_is = refl; reward_is = refl }
