-- Turn by turn; the lists stay.
use mathlib.Core.List.{List}
use mathlib.Core.Path.{◌≡◌, refl, sym, ap, ◌∙◌}
use Prim.Native.Nat.{ℕ, ◌/◌, ◌%◌}
use borrow.Author.Rules.{rules}
use lib.IntN.{ℤ}
use lib.ListN.{length, set, length-set}
use mir.Syntax.{w16}
use mir.ValLaws.{to_z-of_z}
use Rattle.std.specs.Prelude.{Some, None}
use Rattle.sheet.specs.declared.Edge.{Edge}
use Rattle.nodes.specs.Decoded.{decoded_meaning, layout_in}
use Rattle.nodes.proofs.LayoutLaws.{start_zero}
use Rattle.walks.specs.Walk.{at}
use Rattle.stepper.proofs.RecordLaws.{not_here}
use Rattle.contract.proofs.Graphs.{code_below}
use Rattle.explore.specs.Lists.{buffers_of}
use Rattle.explore.proofs.CountLaws.{Counts, counts}
use Rattle.explore.proofs.SearchLaws.{begin, skip, done, filled}
use Rattle.explore.proofs.LengthLaws.{long_kept, same_nodes, same_arcs}
use Rattle.explore.proofs.EnterLaws.{no_arc, stopped, known_node, new_node}
use Rattle.explore.proofs.TakenLaws.{record_is, taken}
use Rattle.explore.proofs.AnswerLaws.{too_many_answered, graph_answered}
use Rattle.explore.proofs.search.search.Goals as goal

pub loop-t-init : goal.loop-t-init
loop-t-init c =
    let set : (l : List ℕ) → length (set l 0 0) ≡ length l = λ l. length-set l 0 0 in record {
      searched = begin _ _ (buffers_of c.args.nodes.now c.args.arcs.now) c.requires.room (start_zero (layout_in c.args.sheet) (decoded_meaning c.args.sheet));
      nodes = record {
        numbers = record { name = refl; long = set _ };
        sorted = record { name = refl; long = set _ };
        order = record { name = refl; long = set _ };
        tree = record { name = refl; long = refl };
      };
      arcs = record {
        from = record { name = refl; long = refl };
        to = record { name = refl; long = refl };
        code = record { name = refl; long = refl };
        cost = record { name = refl; long = refl };
        reward = record { name = refl; long = refl };
      };
    }

pub loop-t-preserved-then-elsewhere : goal.loop-t-preserved-then-elsewhere
loop-t-preserved-then-elsewhere c =
    let l = c.loop-t in
    let i = l.invariant in
    let k : Counts l.n l.t = counts l.n l.t c.loop-t-test.true in
    let p = not_here c.args.sheet (at l.nodes.numbers.now (l.t / 34)) (l.t % 34) _
    (λ h. ap (λ (r : Edge). r.source) (record_is c.args.sheet c.edge_records-edges.ensures l.t _ h)) (sym c.elsewhere.ensures ∙ c.if-elsewhere.true) in record {
      searched = skip _ _ _ (buffers_of l.nodes l.arcs) _ _ (l.t / 34) (l.t % 34) l.t i.searched k.code k.turn c.loop-t-test.true p;
      nodes = i.nodes;
      arcs = i.arcs;
    }

pub loop-t-preserved-in_default : goal.loop-t-preserved-in_default
loop-t-preserved-in_default c =
    let i = c.loop-t.invariant in
    let turn = taken c.args.sheet c.edge_records-edges.ensures _ c.location_records-locations.ensures.room c.location_records-locations.ensures.copied {o = None}
    _ _ i.searched (long_kept i.nodes i.arcs c.requires.room) c.loop-t-test.true c.location_needed-l.ensures.value c.location_needed-l.ensures.small c.in_default.ensures in
    record { searched = no_arc turn; nodes = i.nodes; arcs = i.arcs }

pub returns-in_default-enter-clause-answered : goal.returns-in_default-enter-clause-answered
returns-in_default-enter-clause-answered c =
    let i = c.loop-t.invariant in
    let turn = taken c.args.sheet c.edge_records-edges.ensures _ c.location_records-locations.ensures.room c.location_records-locations.ensures.copied {o = Some c.in-Some.s}
    _ _ i.searched (long_kept i.nodes i.arcs c.requires.room) c.loop-t-test.true c.location_needed-l.ensures.value c.location_needed-l.ensures.small c.in-Some.ensures in
    too_many_answered c.args.sheet (buffers_of c.args.nodes.now c.args.arcs.now) _ c.requires (stopped turn _ _ _ _ c.in_default-enter.ensures.entered)

pub loop-t-preserved-then-j-n : goal.loop-t-preserved-then-j-n
loop-t-preserved-then-j-n c =
    let i = c.loop-t.invariant in
    let turn = taken c.args.sheet c.edge_records-edges.ensures _ c.location_records-locations.ensures.room c.location_records-locations.ensures.copied {o = Some c.in-Some.s}
    _ _ i.searched (long_kept i.nodes i.arcs c.requires.room) c.loop-t-test.true c.location_needed-l.ensures.value c.location_needed-l.ensures.small c.in-Some.ensures in
    let w = c.set.ensures in record {
      searched = new_node turn (buffers_of c.enter.new.self c.set.new.self) _ c.in-Some-enter.ensures.entered
          (record {
            from = w.from;
            to = w.to;
            code = w.code;
            cost = w.cost ∙ ap (λ (z : ℤ). set c.loop-t.arcs.cost.now c.loop-t.m z) (to_z-of_z w16 c.in-Some.s.cost (search rules));
            reward = w.reward;
          }) c.if-j-n.true;
      nodes = same_nodes i.nodes c.enter.ensures.same;
      arcs = same_arcs i.arcs w.same;
    }

pub loop-t-preserved : goal.loop-t-preserved
loop-t-preserved c =
    let i = c.loop-t.invariant in
    let turn = taken c.args.sheet c.edge_records-edges.ensures _ c.location_records-locations.ensures.room c.location_records-locations.ensures.copied {o = Some c.in-Some.s}
    _ _ i.searched (long_kept i.nodes i.arcs c.requires.room) c.loop-t-test.true c.location_needed-l.ensures.value c.location_needed-l.ensures.small c.in-Some.ensures in
    let w = c.set.ensures in record {
      searched = known_node turn (buffers_of c.enter.new.self c.set.new.self) _ c.in-Some-enter.ensures.entered
          (record {
            from = w.from;
            to = w.to;
            code = w.code;
            cost = w.cost ∙ ap (λ (z : ℤ). set c.loop-t.arcs.cost.now c.loop-t.m z) (to_z-of_z w16 c.in-Some.s.cost (search rules));
            reward = w.reward;
          }) c.if-j-n.false;
      nodes = same_nodes i.nodes c.enter.ensures.same;
      arcs = same_arcs i.arcs w.same;
    }

pub returns-clause-answered : goal.returns-clause-answered
returns-clause-answered c =
    let l = c.loop-t in
    let i = l.invariant in
    graph_answered c.args.sheet (buffers_of c.args.nodes.now c.args.arcs.now) (buffers_of l.nodes l.arcs) c.requires _ _
    (done _ _ _ _ _ _ _ (code_below (layout_in c.args.sheet) (decoded_meaning c.args.sheet)) i.searched c.loop-t-test.false)
    (filled _ _ (buffers_of c.args.nodes.now c.args.arcs.now) _ _ _ _ i.searched)
