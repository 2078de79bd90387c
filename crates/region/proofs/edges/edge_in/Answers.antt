-- The three tests of an edge, in turn.
use mathlib.Core.Path.{sym, ◌∙◌}
use mir.Syntax.{w16}
use mir.ValLaws.{to_z-of_z}
use Rattle.region.proofs.EdgeLaws.{elsewhere, unguarded, outside, taken}
use Rattle.std.proofs.Common.{rules}
use Rattle.region.proofs.edges.edge_in.Goals as goal

pub returns-then-edge-location_in : goal.returns-then-edge-location_in
returns-then-edge-location_in g c =
    let args = c.args in
    let if1 = c.if-edge-location_in in
    let location_in = c.location_in in
    elsewhere g.row.EDITION args.clocks args.edge args.target args.number (λ q. if1.true (q ∙ sym location_in.ensures))

pub returns-then-not-guards_hold : goal.returns-then-not-guards_hold
returns-then-not-guards_hold g c =
    let args = c.args in
    let few = c.few-k in
    let unpack = c.unpack-from in
    let guards_hold = c.guards_hold in
    let if2 = c.if-not-guards_hold in
    unguarded g.row.EDITION args.clocks args.edge args.target args.number few.result unpack.result.node few.ensures
    unpack.ensures (sym guards_hold.ensures ∙ if2.true)

pub returns-then-not-inside : goal.returns-then-not-inside
returns-then-not-inside g c =
    let args = c.args in
    let few = c.few-k in
    let unpack = c.unpack-from in
    let after_edge = c.after_edge-next in
    let inside = c.inside in
    let if3 = c.if-not-inside in
    outside g.row.EDITION args.clocks args.edge args.target args.number few.result unpack.result.node few.ensures
    unpack.ensures after_edge.result after_edge.ensures (sym inside.ensures ∙ if3.true)

pub returns : goal.returns
returns g c =
    let args = c.args in
    let few = c.few-k in
    let unpack = c.unpack-from in
    let after_edge = c.after_edge-next in
    let if1 = c.if-edge-location_in in
    let location_in = c.location_in in
    let guards_hold = c.guards_hold in
    let if2 = c.if-not-guards_hold in
    let inside = c.inside in
    let if3 = c.if-not-inside in
    let pack = c.pack in
    taken g.row.EDITION args.clocks args.edge args.target args.number few.result unpack.result.node few.ensures unpack.ensures after_edge.result
    after_edge.ensures _ (to_z-of_z w16 args.edge.cost (search rules)) (if1.false ∙ location_in.ensures)
    guards_hold.result guards_hold.ensures
    (if2.false) inside.result inside.ensures (if3.false)
    pack.result pack.ensures
