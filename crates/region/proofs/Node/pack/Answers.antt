-- Part by part, from the lowest.
use mathlib.Core.Path.{◌≡◌, ap, ap₂, ◌∙◌}
use Prim.Native.Nat.{ℕ, ◌+◌}
use native.Mathlib.Omega.{arith}
use lib.ListN.{get_or}
use Rattle.sheet.specs.Fields.{edition_at}
use Rattle.nodes.specs.Numbers.{layout_at, put}
use Rattle.region.proofs.PackLaws.{packed_none, class_fits, packed_more, packed_all}
use Rattle.std.proofs.Common.{rules}
use Rattle.region.proofs.Node.pack.Goals as goal

pub loop-j-init : goal.loop-j-init
loop-j-init g c =
    packed_none (layout_at g.row.EDITION) c.args.self c.with_part-x.result
    (omega (arith, c.with_part-x.ensures, ap (λ (w : ℕ). put c.args.self.corner w 0) c.class_bits-width.ensures.0))

pub with_part-x-requires-in-loop-j-2 : goal.with_part-x-requires-in-loop-j-2
with_part-x-requires-in-loop-j-2 g c =
    let y = layout_at g.row.EDITION in
    let K = get_or c.args.self.region.class c.loop-j.j 0 in
    let e = c.with_part-x-in-loop-j.ensures ∙ ap₂ (λ (w a : ℕ). c.loop-j.x + put K w a) c.class_bits-width.ensures.0 c.class_at.ensures.0 in
    (rw (e, c.whole_at.ensures.0) (class_fits y c.args.self c.loop-j.j c.loop-j.x c.loop-j.invariant), search rules)

pub loop-j-preserved : goal.loop-j-preserved
loop-j-preserved g c =
    let y = layout_at g.row.EDITION in
    let j = c.loop-j.j in
    let K = get_or c.args.self.region.class j 0 in
    let H = get_or c.args.self.region.whole j 0 in
    let e = c.with_part-x-in-loop-j.ensures ∙ ap₂ (λ (w a : ℕ). c.loop-j.x + put K w a) c.class_bits-width.ensures.0 c.class_at.ensures.0 in
    let d = c.with_part-x-in-loop-j-2.ensures ∙ ap₂ (λ (x a : ℕ). x + put H 4 a) e c.whole_at.ensures.0 in
    rw d (packed_more y c.args.self j c.loop-j.x (search rules) (search rules) c.loop-j.invariant)

pub returns : goal.returns
returns g c =
    let k = (edition_at g.row.EDITION).clocks in
    let y = layout_at g.row.EDITION in
    let all : c.loop-j.j ≡ k = omega (arith, c.from-j-end.ensures, c.most_clocks.ensures) in
    c.with_part.ensures ∙ ap (λ (a : ℕ). c.loop-j.x + put c.args.self.location 4 a) c.location_at.ensures.0
    ∙ packed_all y c.args.self k c.loop-j.x (rw all at c.loop-j.invariant)
