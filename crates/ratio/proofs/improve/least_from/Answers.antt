-- The loop, and what it comes to.
use mathlib.Core.Path.{refl, ap}
use mathlib.Core.List.{List, ◌++◌}
use Prim.Native.Nat.{◌≤◌}
use native.Mathlib.Omega.{arith}
use lib.IntN.{neg_ℤ}
use lib.ListN.{length, drop}
use Prim.Native.Nat.{ℕ}
use Rattle.ratio.specs.Answer.{yes_to_both}
use Rattle.ratio.proofs.Searches.{no_idle_gain}
use Rattle.ratio.proofs.RatioAnswerLaws.{copied_front, copied_rest}
use Rattle.ratio.proofs.improve.least_from.Goals as goal

pub returns : goal.returns
returns c =
    let a = c.args in
    let l = c.in-Some.ensures in
    let h = l.in_hand in
    let k = c.in-Some.ratio.arcs in
    let cycle = a.cycle.now in
    let hand = c.settle.new.hand in
    let copied = ap (λ (x : List ℕ). x ++ drop k cycle) c.copy_from_slice.ensures.after in
    let fits : k ≤ length hand = omega (arith, h.short, h.room) in
    let front = copied_front hand cycle _ k fits copied in (
      (
        c.requires.ratio_arguments,
        yes_to_both refl (record { arcs = _; cycle = h.cycle; earns = l.earns })
            (no_idle_gain c.in-Some.ratio.q (neg_ℤ c.in-Some.ratio.p) a.arcs.cost.now a.arcs.reward.now a.arcs.from.now a.arcs.to.now
            l.ratio.lowest.positive l.none_below),
      ),
      record {
        short = h.short;
        attained = rw front h.cycle;
        earns = rw front l.earns;
        ratio = record { exact = rw front l.ratio.exact; lowest = l.ratio.lowest };
        p_small = l.p_small;
        q_small = l.q_small;
        none_below = l.none_below;
        potentials = l.potentials;
        rest_potential = l.rest;
        rest_cycle = copied_rest hand cycle _ k fits copied;
      },
    )
