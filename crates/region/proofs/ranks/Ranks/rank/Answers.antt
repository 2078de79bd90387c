-- The digit of t.
use mathlib.Core.Path.{ap₂, ◌∙◌}
use Prim.Native.Nat.{ℕ, ◌*◌}
use Rattle.nodes.specs.Numbers.{bits_of}
use Rattle.region.proofs.DigitLaws.{rank_at}
use Rattle.region.proofs.ranks.Ranks.rank.Goals as goal

pub returns : goal.returns
returns c =
    let ranks = c.args.self in
    c.bits.ensures ∙ ap₂ (λ (d t : ℕ). bits_of d 4 (4 * t)) c.from.ensures c.from-2.ensures
    ∙ rank_at ranks.class ranks.digits ranks.ranked c.args.t c.requires
