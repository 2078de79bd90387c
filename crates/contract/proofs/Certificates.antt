-- A certificate that passes its test shows what the rules say of the sheet, and so what every plan that meets the contract answers.
use mathlib.Core.Path.{◌≡◌, refl, sym, ap, ◌∙◌, subst}
use mathlib.Core.Bool.{true, ◌&&◌}
use mathlib.Core.List.{List}
use Prim.Native.Nat.{ℕ, ◌<◌}
use native.Mathlib.Omega.{arith}
use borrow.Author.Tests.{ltb-true, eqb-true, eqb-false}
use lib.Dec.{eqb}
use lib.IntN.{ℤ, pos, ◌*ℤ◌}
use lib.ListN.{length}
use Rattle.automaton.proofs.Tests.{by_bool, &&-left, &&-right}
use Rattle.automaton.proofs.Ratios.{least_ratio, ratio_unique}
use Rattle.sheet.specs.Questions.{check_of}
use Rattle.walks.specs.Walk.{at, atℤ}
use Rattle.contract.specs.Questions.{EarningCycle, none_earns, idle_gain, all_yes}
use Rattle.contract.specs.Accepted.{NodeList}
use Rattle.contract.specs.Plan as Plan
use Rattle.contract.specs.Plan.{Answer, Buffers, LongEnough, SameLengths, step_on, start_of, faulty, explored, Planned}
use Rattle.contract.specs.Answers.{Says, accepts, refuses, AcceptedAs, RefusedAs, Holds, Given}
use Rattle.contract.specs.Rules.{index_of, has_ratio, holds_all}
use Rattle.contract.specs.Certificate.{Certificate, shows_accepted, shows_none_earns, shows_idle_gain, shows_refused, certifies}
use Rattle.contract.proofs.Feasible.{none_earning, no_idle_gain}
use Rattle.contract.proofs.Rules as Rules
use Rattle.contract.proofs.Rules.{Closed, or_cases, all_at, lowest_is, equal}
use Rattle.contract.proofs.PassedNodes.{node_list}
use Rattle.contract.proofs.CertifiedLassos.{codes, lasso, earning, gaining}
use Rattle.contract.proofs.JustWhen.{refusal_unique}
use Rattle.contract.proofs.Rising.{same_count}

module _ (bytes : List ℕ) where
  accepted : (p : ℤ) (q n : ℕ) (c : Certificate) → check_of bytes ≡ 0 → shows_accepted (step_on bytes) (start_of bytes) p q n c ≡ true
      → AcceptedAs bytes p q n
  unfolding shows_accepted
  accepted p q n c ok h =
      let step = step_on bytes in
      let start = start_of bytes in
      let all = all_at _ h 0 (omega arith) in
      let lowest = lowest_is p q (all_at _ h 3 (omega arith)) in
      let π : ℕ → ℤ = λ z. atℤ c.potentials (index_of c.nodes z) in
      let feasible = Rules.feasible step start (codes bytes) c.nodes all p q c.potentials (all_at _ h 4 (omega arith)) in
      let o = lasso bytes (has_ratio p q) c.stem c.cycle (all_at _ h 5 (omega arith)) in
      let earned : 0 < o.reward = ltb-true 0 o.reward (all_at _ o.passes 0 (omega arith)) in
      record {
        judged = λ b l. explored l ok (all_yes refl (Rules.not_many step start (codes bytes) c.nodes all) (earning bytes (has_ratio p q) o earned)
            (no_idle_gain step start p q lowest.positive π feasible));
        ratio = least_ratio step start p q π feasible lowest o.cost o.reward o.cycle earned
            (equal (pos q *ℤ o.cost) (p *ℤ pos o.reward) (all_at _ o.passes 1 (omega arith)) (all_at _ o.passes 2 (omega arith)));
        nodes = c.nodes;
        node_list = subst (λ (k : ℕ). NodeList step start k c.nodes) (eqb-true (length c.nodes) n (all_at _ h 1 (omega arith)))
            (node_list step start (codes bytes) c.nodes all c.walks (all_at _ h 2 (omega arith)));
      }

  no_earning : (c : Certificate) → holds_all (step_on bytes) (start_of bytes) c.nodes ≡ true → shows_none_earns (step_on bytes) (start_of bytes) c ≡ true
      → ¬ EarningCycle (step_on bytes) (start_of bytes)
  unfolding shows_none_earns
  no_earning c all h = none_earning (step_on bytes) (start_of bytes) (λ z. atℤ c.potentials (index_of c.nodes z))
      (Rules.feasible (step_on bytes) (start_of bytes) (codes bytes) c.nodes all (pos 1) 0 c.potentials h)

  refused : (r : ℕ) (c : Certificate) → check_of bytes ≡ 0 → shows_refused (step_on bytes) (start_of bytes) r c ≡ true → RefusedAs bytes r
  unfolding shows_refused
  refused r c ok h =
      let step = step_on bytes in
      let start = start_of bytes in
      let all = all_at _ h 0 (omega arith) in
      let none = shows_none_earns step start c in
      let gain = shows_idle_gain step start c in
      let few = Rules.not_many step start (codes bytes) c.nodes all in
      or_cases (eqb r 13 && none) (eqb r 14 && gain) (all_at _ h 1 (omega arith))
      (λ t. let e : r ≡ 13 = eqb-true r 13 (&&-left (eqb r 13) none t) in
      record { some_number = omega arith; judged = λ b l. explored l ok (none_earns e few (no_earning c all (&&-right (eqb r 13) none t))) })
      (λ t. let e : r ≡ 14 = eqb-true r 14 (&&-left (eqb r 14) gain t) in
      let k = gaining bytes c (&&-right (eqb r 14) gain t) in
      record { some_number = omega arith; judged = λ b l. explored l ok (idle_gain e few k.0 k.1) })

  pub certified : (a : Says) (c : Certificate) → certifies bytes a c ≡ true → Holds bytes a
  unfolding certifies
  certified (accepts p q n) c h = accepted p q n c (eqb-true (check_of bytes) 0 (all_at _ h 0 (omega arith))) (all_at _ h 1 (omega arith))
  certified (refuses r) c h = by_bool (eqb (check_of bytes) 0)
      (λ t. refused r c (eqb-true (check_of bytes) 0 t) (rw t at h))
      (λ f. let e : r ≡ check_of bytes = eqb-true r (check_of bytes) (rw f at h) in let z = eqb-false (check_of bytes) 0 f in
      record { some_number = positive r (λ q. z (sym e ∙ q)); judged = λ b l. faulty e l z })
    where
      positive : (r : ℕ) → (r ≡ 0 → ⊥) → 0 < r
      positive r q = omega arith

-- ---- whatever plan meets the contract answers what the rules say
module _ (bytes : List ℕ) (before after : Buffers) (x : Answer) (long : LongEnough before) (h : Planned bytes before after x) where
  same_lengths : SameLengths before before
  same_lengths = record { nodes = refl; potentials = refl; steps = refl }

  pub plan_answers : (a : Says) → Holds bytes a → Given a x
  plan_answers (accepts p q n) o =
      let e = refusal_unique bytes before before same_lengths x.refusal 0 h.judged (o.judged before long) in
      let y = h.accepted e in
      let r = ratio_unique (step_on bytes) (start_of bytes) x.p p x.q q y.ratio o.ratio in (
        e,
        r.0,
        r.1,
        same_count x.n after.nodes n o.nodes y.node_list.rising o.node_list.rising
            (λ i b. o.node_list.complete (at after.nodes i) (y.node_list.reachable i b))
            (λ i b. y.node_list.complete (at o.nodes i) (o.node_list.reachable i b)),
      )
  plan_answers (refuses r) o =
      let e = refusal_unique bytes before before same_lengths x.refusal r h.judged (o.judged before long) in
      h.numbers (omega (arith, o.some_number)) ∙ ap Plan.refused_plan e
