-- Asked from the start with each code of a walk in turn, the public step answers as the walk goes; and whatever it answers is a walk.
use mathlib.Core.Path.{◌≡◌, refl, ap, subst, ◌∙◌}
use mathlib.Core.Bool.{Bool, true, cond}
use mathlib.Core.List.{List}
use mathlib.Core.Option.{Option, none, some, map}
use Prim.Native.Nat.{ℕ}
use borrow.Author.Tests.{eq-eqb}
use lib.Dec.{eqb}
use lib.IntN.{ℤ}
use Rattle.automaton.specs.Tests.{only}
use Rattle.automaton.specs.Priced.{Priced}
use Rattle.automaton.specs.Walks.{Walk, Reachable}
use Rattle.sheet.specs.Questions.{check_of}
use Rattle.nodes.specs.Numbers.{is_number, step_by, start_number}
use Rattle.nodes.specs.Meaning.{meaning, layout_of}
use Rattle.nodes.proofs.CheckedLaws.{sound, room}
use Rattle.nodes.proofs.Carried.{named, walk_named, walk_back}
use Rattle.nodes.proofs.NumberLaws.{step_to_number, reached_is_number}
use Rattle.region.specs.Answers.{Stepped, refused_step, answered}
use Rattle.step.specs.Step.{answer_at, step_of, asked}

-- what an answer says is the step that it tells
told : (code : ℕ) (o : Option (Priced ℕ))
    → only (eqb (answered code o).refusal 0) (record { to = (answered code o).number; cost = (answered code o).cost; reward = (answered code o).reward }) ≡ o
told code none = refl
told code (some v) = refl

named_same : (o : Option (Priced ℕ)) → o ≡ map (named (λ (x : ℕ). x)) o
named_same none = refl
named_same (some v) = refl

module _ (s : List ℕ) (ok : check_of s ≡ 0) where
  abbrev P : ℕ → Type 0
  P x = is_number (layout_of s) (meaning s) x ≡ true

  abbrev step : ℕ → ℕ → Option (Priced ℕ)
  step = step_by (layout_of s) (meaning s)

  abbrev start : ℕ
  start = start_number (layout_of s) (meaning s)

  -- at a node's number the answer is the step that walks are made of
  step_is : (x code : ℕ) → P x → step_of s x code ≡ answered code (step x code)
  unfolding step_of answer_at
  step_is x code h = ap (λ (b : Bool). cond b (answer_at (layout_of s) (meaning s) x code) (refused_step (check_of s))) (eq-eqb (check_of s) 0 ok)
      ∙ ap (λ (b : Bool). cond b (answered code (step x code)) (refused_step 15)) h

  keeps : (x code : ℕ) (v : Priced ℕ) → step x code ≡ some v → P x → P v.to
  keeps = step_to_number (layout_of s) (meaning s) (room s ok) (sound s ok)

  same : (x code : ℕ) → P x → asked s x code ≡ map (named (λ (x : ℕ). x)) (step x code)
  same x code h =
      ap (λ (a : Stepped). only (eqb a.refusal 0) (record { to = a.number; cost = a.cost; reward = a.reward })) (step_is x code h)
      ∙ told code (step x code) ∙ named_same (step x code)

  module _ {x : ℕ} (reached : Reachable step start x) where
    holds : P x
    holds = reached_is_number (layout_of s) (meaning s) (room s ok) (sound s ok) reached

    pub walk_asked : {codes : List ℕ} {z : ℕ} {c : ℤ} {r : ℕ} → Walk step x codes z c r → Walk (asked s) x codes z c r
    walk_asked = walk_named step (asked s) (λ x. x) P keeps same holds

    pub asked_walk : {codes : List ℕ} {z : ℕ} {c : ℤ} {r : ℕ} → Walk (asked s) x codes z c r → Walk step x codes z c r
    asked_walk {codes} {z} {c} {r} w = let b = walk_back step (asked s) (λ x. x) P keeps same holds w in
        subst (λ (z : ℕ). Walk step x codes z c r) b.is b.walk
