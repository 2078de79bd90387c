-- A cycle has an edge: delays alone never come back.
use mathlib.Core.Path.{◌≡◌, refl, ap}
use mathlib.Core.Bool.{Bool, true, false, ◌||◌}
use mathlib.Core.List.{List, [], ◌∷◌}
use mathlib.Core.Option.{some}
use Prim.Native.Nat.{ℕ, ◌+◌, ◌*◌, ◌≤◌, ◌<◌}
use native.Mathlib.Omega.{arith}
use borrow.Author.Tests.{leb-false}
use lib.IntN.{ℤ}
use lib.ListN.{length}
use Rattle.automaton.specs.Automaton.{Automaton}
use Rattle.automaton.specs.Priced.{Priced, chain}
use Rattle.automaton.specs.Nodes.{Node, is_node, Sound}
use Rattle.automaton.specs.Steps.{step}
use Rattle.automaton.specs.Walks.{Walk}
use Rattle.automaton.proofs.Tests.{by_bool}
use Rattle.automaton.proofs.Chains.{some_inj, then_split}
use Rattle.automaton.proofs.Nodes.{proper_of}
use Rattle.automaton.proofs.Reached.{step_to_node}
use Rattle.schedules.specs.Pairs.{is_edge}
use Rattle.schedules.proofs.DelaysRise.{height, delay_rises}

-- is one of the codes an edge?
unfoldable pub has_edge : List ℕ → Bool
has_edge [] = false
has_edge (code ∷ codes) = is_edge code || has_edge codes

no_edge : (a b : Bool) → a || b ≡ false → (a ≡ false) × (b ≡ false)
no_edge true b e = absurd (let z : ◌≡◌ {A = ℕ} 0 1 = cc in omega arith)
no_edge false b e = (refl, e)

module _ (A : Automaton) (o : Sound A) (clock : 0 < A.clocks) where
  rises_along : (codes : List ℕ) (u : Node) (x : Priced Node) → is_node A u ≡ true → has_edge codes ≡ false → chain (step A) u codes ≡ some x
      → 2 * height u + x.to.corner + length codes ≤ 2 * height x.to + u.corner
  unfolding chain has_edge
  rises_along [] u x h n e = let q : u ≡ x.to = ap (λ (y : Priced Node). y.to) (some_inj e) in
      omega (arith, ap height q, ap (λ (v : Node). v.corner) q)
  rises_along (code ∷ codes) u x h n e =
      let t = then_split (step A u code) (λ y. chain (step A) y codes) x e in
      let q : t.second.to ≡ x.to = ap (λ (y : Priced Node). y.to) t.total in
      let m = no_edge (is_edge code) (has_edge codes) n in
      let f = delay_rises A u code t.first (proper_of A u h) clock (leb-false code 31 m.0) t.took in
      let g = rises_along codes t.first.to t.second (step_to_node A o u code t.first t.took h) m.1 t.went in
      omega (arith, f.rises, ap height q, ap (λ (v : Node). v.corner) q)

  pub edge_in_cycle : {u : Node} {codes : List ℕ} {c : ℤ} {r : ℕ} → is_node A u ≡ true → 0 < length codes → Walk (step A) u codes u c r → has_edge codes ≡ true
  edge_in_cycle {u} {codes} {c} {r} h l w = by_bool (has_edge codes) (λ e. e)
      (λ e. absurd (omega (arith, rises_along codes u (record { to = u; cost = c; reward = r }) h e w.walks)))
