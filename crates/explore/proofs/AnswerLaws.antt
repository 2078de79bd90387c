-- What each way out of the search comes to.
use mathlib.Core.Path.{refl}
use Prim.Native.Nat.{ℕ}
use Rattle.std.specs.Prelude.{Ok, Err}
use Rattle.sheet.specs.declared.Sheet.{Sheet}
use Rattle.contract.specs.Explored.{Explored, step_read, start_read}
use Rattle.contract.proofs.Counts.{too_many, few_listed}
use Rattle.contract.proofs.Arcs.{listed}
use Rattle.explore.specs.Buffers.{GraphBuffers, found}
use Rattle.explore.specs.Explorable.{Explorable}
use Rattle.explore.specs.Answer.{Filled, Stopped, answered_no, answered_yes, ExploreAnswered}
use Rattle.explore.specs.declared.Unexplored.TheVariants.{Malformed, TooMany}

-- docs/PORT.md names this; no proof cites it
pub malformed_answered : (s : Sheet) (b : GraphBuffers) → (Explorable s b → ⊥) → ExploreAnswered s b b (Err Malformed)
malformed_answered s b n = (n, refl)

module _ (s : Sheet) (before after : GraphBuffers) (w : Explorable s before) where
  pub too_many_answered : Stopped (step_read s) (start_read s) before after → ExploreAnswered s before after (Err TooMany)
  too_many_answered o = ((w, answered_no refl (too_many (step_read s) (start_read s) after.node o.overfull)), o)

  pub graph_answered : (n m : ℕ) → Explored (step_read s) (start_read s) (found after n m) → Filled before after n m
      → ExploreAnswered s before after (Ok record { nodes = n; arcs = m })
  graph_answered n m x f = ((w, answered_yes refl (few_listed (step_read s) (start_read s) after.node n x.few (listed x))), (x, f))
