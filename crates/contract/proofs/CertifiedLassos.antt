-- The lassos of a certificate that passes its test: one whose cycle earns, and one whose cycle makes money without reward.
use mathlib.Core.Path.{◌≡◌, subst}
use mathlib.Core.Bool.{Bool, true}
use mathlib.Core.List.{List}
use mathlib.Core.Option.{some}
use Prim.Native.Nat.{ℕ, ◌<◌}
use native.Mathlib.Omega.{arith}
use borrow.Author.Tests.{ltb-true, eqb-true}
use lib.IntN.{ℤ, pos}
use Rattle.integers.proofs.Parts.{lt_of, less}
use Rattle.automaton.specs.Priced.{Priced}
use Rattle.automaton.specs.Walks.{ReachableCycle}
use Rattle.nodes.specs.Meaning.{meaning, layout_of}
use Rattle.contract.specs.Questions.{EarningCycle, IdleGain}
use Rattle.contract.specs.Plan.{step_on, start_of}
use Rattle.contract.specs.Rules.{earns, is_lasso}
use Rattle.contract.specs.Certificate.{Certificate, gains_idle, shows_idle_gain}
use Rattle.contract.proofs.Graphs.{code_below}
use Rattle.contract.proofs.Rules as Rules
use Rattle.contract.proofs.Rules.{Closed, all_at}

module _ (bytes : List ℕ) where
  pub codes : (x code : ℕ) (v : Priced ℕ) → step_on bytes x code ≡ some v → code < 34
  codes = code_below (layout_of bytes) (meaning bytes)

  -- a lasso whose cycle is as tested
  pub lasso : (t : ℤ → ℕ → Bool) (stem cycle : List ℕ) → is_lasso (step_on bytes) (start_of bytes) t stem cycle ≡ true
      → Closed (step_on bytes) (start_of bytes) codes t
  lasso = Rules.lasso (step_on bytes) (start_of bytes) codes

  pub earning : (t : ℤ → ℕ → Bool) (o : Closed (step_on bytes) (start_of bytes) codes t) → 0 < o.reward → EarningCycle (step_on bytes) (start_of bytes)
  earning t o h = record { cost = o.cost; reward = o.reward; cycle = o.cycle; earns = h }

  pub gaining : (c : Certificate) → shows_idle_gain (step_on bytes) (start_of bytes) c ≡ true
      → EarningCycle (step_on bytes) (start_of bytes) × IdleGain (step_on bytes) (start_of bytes)
  unfolding shows_idle_gain
  gaining c h =
      let o = lasso earns c.stem c.cycle (all_at _ h 0 (omega arith)) in
      let i = lasso gains_idle c.idle_stem c.idle_cycle (all_at _ h 1 (omega arith)) in
      let e : i.reward ≡ 0 = eqb-true i.reward 0 (all_at _ i.passes 0 (omega arith)) in (
        earning earns o (ltb-true 0 o.reward o.passes),
        record {
          cost = i.cost;
          cycle = subst (ReachableCycle (step_on bytes) (start_of bytes) i.cost) e i.cycle;
          gains = lt_of i.cost (pos 0) (less i.cost (pos 0) (all_at _ i.passes 1 (omega arith)));
        },
      )
