-- The four parts, one after another.
use mathlib.Core.Path.{refl, ◌∙◌}
use native.Mathlib.Omega.{arith}
use borrow.Author.Rules.{rules}
use Rattle.work.proofs.LassoSteps.{first_room, second_room, third_room, fourth_room, lasso_written}
use Rattle.work.proofs.turn.write_lasso.Goals as goal

pub write-requires : goal.write-requires
write-requires c = let t = c.past_edge-turn.ensures in
    first_room _ _ c.requires.few t.within (record { until = t.until; past = t.past }) c.requires.long_enough

pub write-requires-2 : goal.write-requires-2
write-requires-2 c = let t = c.past_edge-turn.ensures in
    second_room _ _ c.requires.few t.within (record { until = t.until; past = t.past }) c.requires.long_enough c.write.ensures.written

pub write-requires-3 : goal.write-requires-3
write-requires-3 c = let t = c.past_edge-turn.ensures in
    third_room _ _ c.requires.few t.within (record { until = t.until; past = t.past }) c.requires.long_enough c.write.ensures.written c.write-2.ensures.written

pub write-requires-4 : goal.write-requires-4
write-requires-4 c = let t = c.past_edge-turn.ensures in
    fourth_room _ _ c.requires.few t.within (record { until = t.until; past = t.past }) c.requires.long_enough c.write.ensures.written c.write-2.ensures.written
    c.write-3.ensures.written

pub overflow_cast-result : goal.overflow_cast-result
overflow_cast-result c = let t = c.past_edge-turn.ensures in
    let w = lasso_written _ _ c.requires.few t.within (record { until = t.until; past = t.past }) c.requires.long_enough c.write.ensures.written c.write-2.ensures.written
    c.write-3.ensures.written c.write-4.ensures.written refl refl in
    omega (arith, w.stem_length, w.few)

pub overflow_cast-result-2 : goal.overflow_cast-result-2
overflow_cast-result-2 c = let t = c.past_edge-turn.ensures in
    let w = lasso_written _ _ c.requires.few t.within (record { until = t.until; past = t.past }) c.requires.long_enough c.write.ensures.written c.write-2.ensures.written
    c.write-3.ensures.written c.write-4.ensures.written refl refl in
    omega (arith, w.cycle_length, w.few)

pub returns : goal.returns
returns c = let t = c.past_edge-turn.ensures in
    let waits = c.write-4.ensures.same.waits ∙ c.write-3.ensures.same.waits ∙ c.write-2.ensures.same.waits ∙ c.write.ensures.same.waits in
    let edges = c.write-4.ensures.same.edges ∙ c.write-3.ensures.same.edges ∙ c.write-2.ensures.same.edges ∙ c.write.ensures.same.edges in
    lasso_written _ _ c.requires.few t.within (record { until = t.until; past = t.past }) c.requires.long_enough c.write.ensures.written c.write-2.ensures.written
    c.write-3.ensures.written c.write-4.ensures.written (search rules) (search rules)
