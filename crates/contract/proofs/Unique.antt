-- The contract leaves nothing open but the lasso: two answers that meet it for the same sheet, and buffers of the same lengths, agree in the
-- refusal, the ratio, the number of nodes, the node list and the potentials; and what they tell of the same lasso is the same.
use mathlib.Core.Path.{◌≡◌, refl, sym, ap, ap₂, ◌∙◌}
use mathlib.Core.List.{List}
use mathlib.Core.Option.{Option}
use Prim.Native.Nat.{ℕ, ◌+◌, ◌≤◌, ◌<◌}
use native.Mathlib.Decide.{dec_lt}
use native.Mathlib.Omega.{arith}
use lib.IntN.{ℤ, pos}
use lib.ListN.{length, get_or, take}
use lib.Seq.{slice, ext_get_or}
use Rattle.automaton.specs.Priced.{Priced}
use Rattle.automaton.specs.Times.{units_along}
use Rattle.automaton.specs.Weights.{Potential}
use Rattle.automaton.proofs.Walks.{same_walk}
use Rattle.automaton.proofs.LeastPotentials.{least_unique}
use Rattle.automaton.proofs.Ratios.{ratio_unique}
use Rattle.walks.specs.Walk.{at, atℤ}
use Rattle.contract.specs.Accepted.{Accepted}
use Rattle.contract.specs.Plan.{Answer, refused_plan, Buffers, SameLengths, Passed, step_on, Judged, too_short, faulty, explored, Planned}
use Rattle.contract.specs.Answers.{Agree}
use Rattle.contract.proofs.JustWhen.{refusal_unique}
use Rattle.contract.proofs.Rising.{same_count, same_entry}

-- ---- accepted
module _ {step : ℕ → ℕ → Option (Priced ℕ)} {start : ℕ} {p p' : ℤ} {q q' n n' s s' m m' u u' : ℕ} {c c' : ℤ} {r r' : ℕ} {N N' : List ℕ} {P P' : List ℤ}
    {S S' : List ℕ} (a : Accepted step start p q n s m u c r N P S) (b : Accepted step start p' q' n' s' m' u' c' r' N' P' S') where
  ratio : (p ≡ p') × (q ≡ q')
  ratio = ratio_unique step start p p' q q' a.ratio b.ratio

  count : n ≡ n'
  count = same_count n N n' N' a.node_list.rising b.node_list.rising
      (λ i h. b.node_list.complete (at N i) (a.node_list.reachable i h)) (λ i h. a.node_list.complete (at N' i) (b.node_list.reachable i h))

  entry : (i : ℕ) → i < n → at N i ≡ at N' i
  entry = same_entry n N n' N' a.node_list.rising b.node_list.rising
      (λ i h. b.node_list.complete (at N i) (a.node_list.reachable i h)) (λ i h. a.node_list.complete (at N' i) (b.node_list.reachable i h))

  value : (i : ℕ) → i < n → atℤ P i ≡ atℤ P' i
  value i h = least_unique step start p q (a.potential_list.least i h) moved
    where
      moved : Potential step start p q (at N i) (atℤ P' i)
      moved = rw (ratio.0, ratio.1, entry i h) (b.potential_list.least i (omega (arith, count)))

module _ {bytes : List ℕ} {before before' after after' : Buffers} {a a' : Answer} (same : SameLengths before before')
    (h : Planned bytes before after a) (k : Planned bytes before' after' a') where
  same_refusal : a.refusal ≡ a'.refusal
  same_refusal = refusal_unique bytes before before' same a.refusal a'.refusal h.judged k.judged

  pub unique : Agree after after' a a'
  unique = elim (dec_lt 0 a.refusal) [
    | yes l ↦ (let e : a ≡ a' = h.numbers l ∙ ap refused_plan same_refusal ∙ sym (k.numbers (omega (arith, same_refusal))) in record {
      refusal = same_refusal;
      p = ap (λ (a : Answer). a.p) e;
      q = ap (λ (a : Answer). a.q) e;
      n = ap (λ (a : Answer). a.n) e;
      nodes = λ i w. absurd (omega (arith, ap (λ (a : Answer). a.n) (h.numbers l)));
      potentials = λ i w. absurd (omega (arith, ap (λ (a : Answer). a.n) (h.numbers l)));
    })
    | no l ↦ (let z : a.refusal ≡ 0 = omega arith in
        let x = h.accepted z in
        let y = k.accepted (sym same_refusal ∙ z) in
        record { refusal = same_refusal; p = (ratio x y).0; q = (ratio x y).1; n = count x y; nodes = entry x y; potentials = value x y })
  ]

-- lent the same buffers, they leave the same in the first two
module _ {bytes : List ℕ} {before after after' : Buffers} {a a' : Answer}
    (h : Planned bytes before after a) (k : Planned bytes before after' a') where
  agree : Agree after after' a a'
  agree = unique (record { nodes = refl; potentials = refl; steps = refl }) h k

  -- one of the lists, whose first n entries agree and whose others are 0
  filled : {X : Type 0} (d : X) (n n' : ℕ) (l l' : List X) → length l ≡ length l' → n ≡ n' → ((i : ℕ) → i < n → get_or l i d ≡ get_or l' i d)
      → ((i : ℕ) → n ≤ i → i < length l → get_or l i d ≡ d) → ((i : ℕ) → n' ≤ i → i < length l' → get_or l' i d ≡ d) → l ≡ l'
  filled d n n' l l' e q same rest rest' = ext_get_or d l l' e (λ i w. elim (dec_lt i n) [
    | yes u ↦ same i u
    | no u ↦ rest i (omega arith) w ∙ sym (rest' i (omega arith) (omega arith))
  ])

  -- refused, all three are the same: by the cause, they are left alone or cleared in both
  same_refused : 0 < a.refusal → after ≡ after'
  same_refused l = by_cause h.judged
    where
      left_alone : ¬ Passed bytes before → after ≡ after'
      left_alone f = h.kept f ∙ sym (k.kept f)

      by_cause : Judged bytes before a.refusal → after ≡ after'
      by_cause (too_short e f) = left_alone (λ p. f p.0)
      by_cause (faulty e long c) = left_alone (λ p. c p.1)
      by_cause (explored long c v) = h.cleared (long, c) l ∙ sym (k.cleared (long, c) (omega (arith, agree.refusal)))

  pub same_buffers : (after.nodes ≡ after'.nodes) × (after.potentials ≡ after'.potentials)
  same_buffers = elim (dec_lt 0 a.refusal) [
    | yes l ↦ (ap (λ (b : Buffers). b.nodes) (same_refused l), ap (λ (b : Buffers). b.potentials) (same_refused l))
    | no l ↦ (let z : a.refusal ≡ 0 = omega arith in
        let x = h.accepted z in
        let y = k.accepted (sym agree.refusal ∙ z) in (
          filled 0 a.n a'.n after.nodes after'.nodes (h.lengths.nodes ∙ sym k.lengths.nodes) agree.n agree.nodes
              x.node_list.rest y.node_list.rest,
          filled (pos 0) a.n a'.n after.potentials after'.potentials (h.lengths.potentials ∙ sym k.lengths.potentials) agree.n
              agree.potentials x.potential_list.rest y.potential_list.rest,
        ))
  ]

-- ---- the lasso

-- plans with the same lasso tell the same of it
module _ {bytes : List ℕ} {before before' after after' : Buffers} {a a' : Answer} (h : Planned bytes before after a) (k : Planned bytes before' after' a')
    (ok : a.refusal ≡ 0) (ok' : a'.refusal ≡ 0) (s : a.s ≡ a'.s) (m : a.m ≡ a'.m) (steps : after.steps ≡ after'.steps) where
  cycle : slice a.s (a.s + a.m) after.steps ≡ slice a'.s (a'.s + a'.m) after'.steps
  cycle = λ i. slice (s i) (s i + m i) (steps i)

  node : (h.accepted ok).lasso.node ≡ (k.accepted ok').lasso.node
  node = ap (λ (v : Priced ℕ). v.to) (same_walk (step_on bytes) (h.accepted ok).lasso.stem (k.accepted ok').lasso.stem refl (ap₂ take s steps))

  priced : let l = (h.accepted ok).lasso in let l' = (k.accepted ok').lasso in
      ◌≡◌ {A = Priced ℕ} (record { to = l.node; cost = l.cost; reward = l.reward }) (record { to = l'.node; cost = l'.cost; reward = l'.reward })
  priced = same_walk (step_on bytes) (h.accepted ok).lasso.cycle (k.accepted ok').lasso.cycle node cycle

  pub sums_fixed : (a.units ≡ a'.units) × (a.cost ≡ a'.cost) × (a.reward ≡ a'.reward)
  sums_fixed = let x = (h.accepted ok).sums in let y = (k.accepted ok').sums in (
    x.units_are ∙ ap units_along cycle ∙ sym y.units_are,
    x.cost_is ∙ ap (λ (v : Priced ℕ). v.cost) priced ∙ sym y.cost_is,
    x.reward_is ∙ ap (λ (v : Priced ℕ). v.reward) priced ∙ sym y.reward_is,
  )
