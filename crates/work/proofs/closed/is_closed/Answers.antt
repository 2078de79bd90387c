-- The bounds, and then the guards.
use mathlib.Core.Path.{◌≡◌, sym, ap, ◌∙◌}
use mathlib.Core.Bool.{Bool, ◌&&◌}
use Prim.Native.Nat.{ℕ}
use native.Mathlib.Omega.{arith}
use lib.ListN.{length, take}
use Rattle.std.proofs.Common.{rules}
use Rattle.sheet.specs.declared.Sheet.{Sheet}
use Rattle.nodes.specs.Decoded.{decoded_meaning}
use Rattle.explore.specs.Explorable.{CountsInRange}
use Rattle.schedules.specs.Closed.{bounds_closed, guards_closed, is_closed}
use Rattle.work.specs.PrivatePromises.{bounds_odd}
use Rattle.work.proofs.ClosedSheet.{bounds_are, guards_are}
use Rattle.work.proofs.closed.is_closed.Goals as goal

-- what is told of the first locations
told : (s : Sheet) (fit : CountsInRange s.edition s.locations s.clocks s.edges) {n k : ℕ} {r : Bool} → r ≡ bounds_odd (take n s.location) k
    → length s.location ≡ 12 → n ≡ s.locations → k ≡ s.clocks → bounds_closed (decoded_meaning s) ≡ r
told s fit e long is_n is_k = bounds_are s fit long is_n is_k ∙ sym e

pub returns-else-bounds_closed : goal.returns-else-bounds_closed
unfolding is_closed
returns-else-bounds_closed c =
    let bounds = told c.args.read c.requires c.bounds_closed.ensures (search rules) (omega (arith, c.from.ensures)) c.from-clocks.ensures in
    c.if-bounds_closed.false ∙ sym (ap (λ (b : Bool). b && guards_closed (decoded_meaning c.args.read)) (bounds ∙ c.if-bounds_closed.false))

pub returns-then-bounds_closed : goal.returns-then-bounds_closed
unfolding is_closed
returns-then-bounds_closed c =
    let bounds = told c.args.read c.requires c.bounds_closed.ensures (search rules) (omega (arith, c.from.ensures)) c.from-clocks.ensures in
    sym (ap (λ (b : Bool). b && guards_closed (decoded_meaning c.args.read)) (bounds ∙ c.if-bounds_closed.true)
    ∙ guards_are c.args.read c.requires (search rules) c.from-then-bounds_closed.ensures c.from-clocks.ensures ∙ sym c.guards_closed.ensures)
