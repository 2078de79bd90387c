-- Each number is told if and only if its own case holds: the cases of a verdict, and of all questions, exclude each other.
use mathlib.Core.Path.{◌≡◌, refl, sym, ap, ◌∙◌}
use mathlib.Core.Logic.{◌≢◌}
use mathlib.Core.Bool.{Bool, true, false, not, ◌||◌}
use mathlib.Core.List.{List}
use mathlib.Core.Option.{Option}
use Prim.Native.Nat.{ℕ}
use native.Mathlib.Omega.{arith}
use borrow.Author.Tests.{eqb-true}
use lib.Dec.{eqb}
use Rattle.automaton.specs.Tests.{occurs, every}
use Rattle.automaton.proofs.Tests.{clash}
use Rattle.automaton.specs.Priced.{Priced}
use Rattle.sheet.specs.Questions.{check_of, check_numbers}
use Rattle.nodes.proofs.CheckNumberLaws.{check_number, passes, absent}
use Rattle.contract.specs.Questions.{TooMany, EarningCycle, IdleGain, Verdict, too_many, none_earns, idle_gain, all_yes}
use Rattle.contract.specs.Plan.{Buffers, LongEnough, SameLengths, Passed, step_on, start_of, Judged, too_short, faulty, explored}
use Rattle.contract.specs.Conditions.{plan_numbers, OnItsCondition}

-- ---- the verdict
module _ (step : ℕ → ℕ → Option (Priced ℕ)) (start r : ℕ) where
  verdict_12 : TooMany step start → Verdict step start r → r ≡ 12
  verdict_12 t (too_many e h) = e
  verdict_12 t (none_earns e h k) = absurd (h t)
  verdict_12 t (idle_gain e h k l) = absurd (h t)
  verdict_12 t (all_yes e h k l) = absurd (h t)

  verdict_13 : ¬ TooMany step start → ¬ EarningCycle step start → Verdict step start r → r ≡ 13
  verdict_13 t c (too_many e h) = absurd (t h)
  verdict_13 t c (none_earns e h k) = e
  verdict_13 t c (idle_gain e h k l) = absurd (c k)
  verdict_13 t c (all_yes e h k l) = absurd (c k)

  verdict_14 : ¬ TooMany step start → EarningCycle step start → IdleGain step start → Verdict step start r → r ≡ 14
  verdict_14 t c i (too_many e h) = absurd (t h)
  verdict_14 t c i (none_earns e h k) = absurd (k c)
  verdict_14 t c i (idle_gain e h k l) = e
  verdict_14 t c i (all_yes e h k l) = absurd (l i)

  verdict_0 : ¬ TooMany step start → EarningCycle step start → ¬ IdleGain step start → Verdict step start r → r ≡ 0
  verdict_0 t c i (too_many e h) = absurd (t h)
  verdict_0 t c i (none_earns e h k) = absurd (k c)
  verdict_0 t c i (idle_gain e h k l) = absurd (i l)
  verdict_0 t c i (all_yes e h k l) = e

  -- and back
  of_12 : r ≡ 12 → Verdict step start r → TooMany step start
  of_12 q (too_many e h) = h
  of_12 q (none_earns e h k) = absurd (omega arith)
  of_12 q (idle_gain e h k l) = absurd (omega arith)
  of_12 q (all_yes e h k l) = absurd (omega arith)

  of_13 : r ≡ 13 → Verdict step start r → (¬ TooMany step start) × (¬ EarningCycle step start)
  of_13 q (too_many e h) = absurd (omega arith)
  of_13 q (none_earns e h k) = (h, k)
  of_13 q (idle_gain e h k l) = absurd (omega arith)
  of_13 q (all_yes e h k l) = absurd (omega arith)

  of_14 : r ≡ 14 → Verdict step start r → (¬ TooMany step start) × EarningCycle step start × IdleGain step start
  of_14 q (too_many e h) = absurd (omega arith)
  of_14 q (none_earns e h k) = absurd (omega arith)
  of_14 q (idle_gain e h k l) = (h, k, l)
  of_14 q (all_yes e h k l) = absurd (omega arith)

  of_0 : r ≡ 0 → Verdict step start r → (¬ TooMany step start) × EarningCycle step start × (¬ IdleGain step start)
  of_0 q (too_many e h) = absurd (omega arith)
  of_0 q (none_earns e h k) = absurd (omega arith)
  of_0 q (idle_gain e h k l) = absurd (omega arith)
  of_0 q (all_yes e h k l) = (h, k, l)

  -- it is one of these four numbers
  pub verdict_number : (t : ℕ → Bool) → t 12 ≡ true → t 13 ≡ true → t 14 ≡ true → t 0 ≡ true → Verdict step start r → t r ≡ true
  verdict_number t a b c d (too_many e h) = ap t e ∙ a
  verdict_number t a b c d (none_earns e h k) = ap t e ∙ b
  verdict_number t a b c d (idle_gain e h k l) = ap t e ∙ c
  verdict_number t a b c d (all_yes e h k l) = ap t e ∙ d

verdict_unique : (step : ℕ → ℕ → Option (Priced ℕ)) (start r t : ℕ) → Verdict step start r → Verdict step start t → r ≡ t
verdict_unique step start r t (too_many e h) w = e ∙ sym (verdict_12 step start t h w)
verdict_unique step start r t (none_earns e h k) w = e ∙ sym (verdict_13 step start t h k w)
verdict_unique step start r t (idle_gain e h k l) w = e ∙ sym (verdict_14 step start t h k l w)
verdict_unique step start r t (all_yes e h k l) w = e ∙ sym (verdict_0 step start t h k l w)

long_alike : (a b : Buffers) → SameLengths a b → LongEnough a → LongEnough b
long_alike a b same h = record {
  nodes = omega (arith, h.nodes, same.nodes);
  potentials = omega (arith, h.potentials, same.potentials);
  steps = omega (arith, h.steps, same.steps);
}

-- the refusal depends on the sheet and the buffers' lengths alone
module _ (bytes : List ℕ) (a b : Buffers) (same : SameLengths a b) (r t : ℕ) where
  over : LongEnough a → LongEnough b
  over = long_alike a b same

  back : LongEnough b → LongEnough a
  back = long_alike b a (record { nodes = sym same.nodes; potentials = sym same.potentials; steps = sym same.steps })

  pub refusal_unique : Judged bytes a r → Judged bytes b t → r ≡ t
  refusal_unique (too_short e h) (too_short f k) = e ∙ sym f
  refusal_unique (too_short e h) (faulty f k l) = absurd (h (back k))
  refusal_unique (too_short e h) (explored k l v) = absurd (h (back k))
  refusal_unique (faulty e h k) (too_short f l) = absurd (l (over h))
  refusal_unique (faulty e h k) (faulty f l m) = e ∙ sym f
  refusal_unique (faulty e h k) (explored l m v) = absurd (k m)
  refusal_unique (explored h k v) (too_short f l) = absurd (l (over h))
  refusal_unique (explored h k v) (faulty f l m) = absurd (m k)
  refusal_unique (explored h k v) (explored l m w) = verdict_unique (step_on bytes) (start_of bytes) r t v w

-- ---- all questions
module _ (bytes : List ℕ) (b : Buffers) (r : ℕ) where
  one_of_these : Judged bytes b r → occurs r plan_numbers ≡ true
  unfolding every
  one_of_these (too_short e h) = ap (λ (x : ℕ). occurs x plan_numbers) e
  one_of_these (faulty e l c) = ap (λ (x : ℕ). occurs x plan_numbers) e
      ∙ passes (λ x. occurs x plan_numbers) check_numbers refl (check_of bytes) (check_number bytes)
  one_of_these (explored l c v) = verdict_number (step_on bytes) (start_of bytes) r (λ x. occurs x plan_numbers) refl refl refl refl v

  short_of : r ≡ 1 → Judged bytes b r → ¬ LongEnough b
  short_of q (too_short e h) = h
  short_of q (faulty e l c) = absurd (absent (check_of bytes) 1 refl (sym e ∙ q) (check_number bytes))
  short_of q (explored l c v) =
      let t = verdict_number (step_on bytes) (start_of bytes) r (λ x. not (eqb x 1)) refl refl refl refl v in
      clash (ap (λ (x : ℕ). not (eqb x 1)) (sym q) ∙ t) refl

  short_told : ¬ LongEnough b → Judged bytes b r → r ≡ 1
  short_told h (too_short e k) = e
  short_told h (faulty e l c) = absurd (h l)
  short_told h (explored l c v) = absurd (h l)

  module _ (k : ℕ) (o : occurs k check_numbers ≡ true) (some : k ≢ 0) where
    checked_of : r ≡ k → Judged bytes b r → LongEnough b × (check_of bytes ≡ k)
    checked_of q (too_short e h) = absurd (absent k 1 refl (sym q ∙ e) o)
    checked_of q (faulty e l c) = (l, sym e ∙ q)
    checked_of q (explored l c v) =
        let t = verdict_number (step_on bytes) (start_of bytes) r (λ x. not (occurs x check_numbers) || eqb x 0) refl refl refl refl v in
        absurd (some (eqb-true k 0 (ap (λ (x : Bool). not x || eqb k 0) (sym o) ∙ ap (λ (x : ℕ). not (occurs x check_numbers) || eqb x 0) (sym q) ∙ t)))

    checked_told : LongEnough b × (check_of bytes ≡ k) → Judged bytes b r → r ≡ k
    checked_told h (too_short e l) = absurd (l h.0)
    checked_told h (faulty e l c) = e ∙ h.1
    checked_told h (explored l c v) = absurd (some (sym h.1 ∙ c))

  -- past question 1 and the check, by a number that is none of theirs, or by the answers
  past : (n : ℕ) → occurs n check_numbers ≡ false → n ≢ 1 → r ≡ n → Judged bytes b r → Passed bytes b × Verdict (step_on bytes) (start_of bytes) r
  past n f u q (too_short e h) = absurd (u (sym q ∙ e))
  past n f u q (faulty e l c) = absurd (absent (check_of bytes) n f (sym e ∙ q) (check_number bytes))
  past n f u q (explored l c v) = ((l, c), v)

  past_0 : r ≡ 0 → Judged bytes b r → Passed bytes b × Verdict (step_on bytes) (start_of bytes) r
  past_0 q (too_short e h) = absurd (omega arith)
  past_0 q (faulty e l c) = absurd (c (sym e ∙ q))
  past_0 q (explored l c v) = ((l, c), v)

  asked : Passed bytes b → Judged bytes b r → Verdict (step_on bytes) (start_of bytes) r
  asked p (too_short e h) = absurd (h p.0)
  asked p (faulty e l c) = absurd (c p.1)
  asked p (explored l c v) = v

  pub on_its_condition : Judged bytes b r → OnItsCondition bytes b r
  on_its_condition j = let step = step_on bytes in let start = start_of bytes in record {
    one_of = one_of_these j;
    just_1 = (λ q. short_of q j, λ h. short_told h j);
    just_checked = λ k o some. (λ q. checked_of k o some q j, λ h. checked_told k o some h j);
    just_12 = (λ q. let p = past 12 refl (λ e. omega arith) q j in (p.0, of_12 step start r q p.1), λ h. verdict_12 step start r h.1 (asked h.0 j));
    just_13 = (
      λ q. let p = past 13 refl (λ e. omega arith) q j in let v = of_13 step start r q p.1 in (p.0, v.0, v.1),
      λ h. verdict_13 step start r h.1 h.2 (asked h.0 j),
    );
    just_14 = (
      λ q. let p = past 14 refl (λ e. omega arith) q j in let v = of_14 step start r q p.1 in (p.0, v.0, v.1, v.2),
      λ h. verdict_14 step start r h.1 h.2 h.3 (asked h.0 j),
    );
    just_0 = (
      λ q. let p = past_0 q j in let v = of_0 step start r q p.1 in (p.0, v.0, v.1, v.2),
      λ h. verdict_0 step start r h.1 h.2 h.3 (asked h.0 j),
    );
  }
