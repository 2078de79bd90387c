-- A turn of the search, by the answers of the step and of `enter`.
use mathlib.Core.Path.{◌≡◌, subst}
use mathlib.Core.List.{List}
use mathlib.Core.Logic.{inl, inr}
use mathlib.Core.Option.{Option, some}
use Prim.Native.Nat.{ℕ, ◌+◌, ◌*◌, ◌<◌}
use native.Mathlib.Omega.{arith}
use Rattle.automaton.specs.Priced.{Priced}
use Rattle.std.specs.Prelude.{Option as Answer, Some, None}
use Rattle.walks.specs.Walk.{at}
use Rattle.region.specs.Answers.{stepped_of, answered}
use Rattle.region.specs.declared.Step.{Step}
use Rattle.explore.specs.Buffers.{GraphBuffers, graph_buffers, HasRoom}
use Rattle.explore.specs.Index.{Known, Added, Entered}
use Rattle.explore.specs.Answer.{Stopped}
use Rattle.explore.proofs.ArcLaws.{led, allowed, refused, Pushed}
use Rattle.explore.proofs.SearchLaws.{Searched, seeded, skip, stop}
use Rattle.explore.proofs.TurnLaws.{known_turn, new_turn}

-- ---- which of its answers `enter` gave
module _ (N K I P N' K' I' P' : List ℕ) (n y m j : ℕ) (e : Entered N K I P N' K' I' P' n y m (Some j)) where
  old : (j ≡ n → ⊥) → Known N K I P N' K' I' P' n y j
  old q = elim e [ inl a ↦ a | inr a ↦ absurd (q a.last) ]

  new : j ≡ n → Added N K I P N' K' I' P' n y m n
  new q = elim e [ inl a ↦ absurd (omega (arith, a.below)) | inr a ↦ subst (λ (j : ℕ). Added N K I P N' K' I' P' n y m j) q a ]

-- ---- turn t: the step with code k at node i is answered by o
pub record Taken (step : ℕ → ℕ → Option (Priced ℕ)) (start : ℕ) (b₀ b : GraphBuffers) (n m i k t : ℕ) (o : Answer Step) : Type 0 where
  pub searched : Searched step start (seeded b₀) b n m t
  pub long : HasRoom b
  pub node : i < n
  pub code : k < 34
  pub turn : t ≡ 34 * i + k
  pub left : t < 34 * n
  pub told : stepped_of o ≡ answered k (step (at b.node i) k)

module _ {step : ℕ → ℕ → Option (Priced ℕ)} {start : ℕ} {b₀ b : GraphBuffers} {n m i k t : ℕ} where
  pub no_arc : Taken step start b₀ b n m i k t None → Searched step start (seeded b₀) b n m (t + 1)
  no_arc w = skip step start (seeded b₀) b n m i k t w.searched w.code w.turn w.left (refused k (step (at b.node i) k) w.told)

  module _ {s : Step} (w : Taken step start b₀ b n m i k t (Some s)) where
    leads : step (at b.node i) k ≡ some (led s)
    leads = allowed k (step (at b.node i) k) s w.told

    pub stopped : (N K I P : List ℕ) → Entered b.node b.sorted b.order b.tree N K I P n s.number m None
        → Stopped step start b₀ (graph_buffers N K I P b.from b.to b.code b.cost b.reward)
    stopped N K I P a =
        rw (a.nodes, a.sorted, a.order, a.tree) (stop step start b₀ b n m i k t (led s) w.searched w.node w.code w.turn a.full leads a.fresh)

    module _ (b' : GraphBuffers) (j : ℕ) (e : Entered b.node b.sorted b.order b.tree b'.node b'.sorted b'.order b'.tree n s.number m (Some j))
        (arc : Pushed b b' m i j k s) where
      pub known_node : (j ≡ n → ⊥) → Searched step start (seeded b₀) b' n (m + 1) (t + 1)
      known_node z = known_turn step start (seeded b₀) b b' n m i k t s w.searched w.long w.node w.code w.turn leads j w.left
          (old b.node b.sorted b.order b.tree b'.node b'.sorted b'.order b'.tree n s.number m j e z) arc

      pub new_node : j ≡ n → Searched step start (seeded b₀) b' (n + 1) (m + 1) (t + 1)
      new_node z = new_turn step start (seeded b₀) b b' n m i k t s w.searched w.long w.node w.code w.turn leads
          (new b.node b.sorted b.order b.tree b'.node b'.sorted b'.order b'.tree n s.number m j e z)
          (subst (λ (j : ℕ). Pushed b b' m i j k s) z arc) w.left
