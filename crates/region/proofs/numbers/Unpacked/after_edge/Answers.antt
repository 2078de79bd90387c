-- The masked parts, closed up.
use mathlib.Core.Path.{◌≡◌, sym, subst}
use mathlib.Core.List.{List}
use Prim.Native.Nat.{ℕ, ◌<◌}
use lib.ListN.{get_or}
use Rattle.automaton.specs.Ranks.{mask}
use Rattle.sheet.specs.Maps.{stands}
use Rattle.region.proofs.ClockLaws.{mask_below}
use Rattle.region.proofs.numbers.Unpacked.after_edge.Goals as goal

-- a reset raises no class
ranks_low : (ranks class : List ℕ) (reset : ℕ) → ranks ≡ mask (stands reset) class → ((j : ℕ) → get_or class j 0 < 8) → (j : ℕ) → get_or ranks j 0 < 8
ranks_low ranks class reset is low j = subst (λ (ks : List ℕ). get_or ks j 0 < 8) (sym is) (mask_below 8 (stands reset) class low j)

pub of-ranks-requires : goal.of-ranks-requires
of-ranks-requires c = ranks_low _ c.args.self.node.region.class c.args.reset c.reset_parts.ensures c.args.self.classes_low
