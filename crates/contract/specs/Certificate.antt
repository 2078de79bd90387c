-- A proof device, and no part of a contract: nothing here has to be believed. Certificates of what a plan answers, and the test of one, by the rules of
-- Rules.antt. That a certificate which passes shows what it is said to show is proved (Certificates.antt).
use Rattle.std.specs.Prelude.{Bool, false, cond, ◌&&◌, ◌||◌, List, [], ◌∷◌, ℕ, eqb, ℤ, pos, length}
use Rattle.std.proofs.Math.Option.{Option, none, some}
use Rattle.std.specs.Int.Signed.{lt_z}
use Rattle.automaton.specs.Tests.{occurs, every}
use Rattle.automaton.specs.Priced.{Priced}
use Rattle.sheet.specs.Questions.{check_of}
use Rattle.contract.specs.Plan.{step_on, start_of}
use Rattle.contract.specs.Answers.{Says, accepts, refuses}
use Rattle.contract.specs.Rules.{all_true, is_lowest, earns, has_ratio, holds_all, keeps, is_lasso}

-- what is not asked for is left empty
pub record Certificate : Type 0 where
  -- the reachable nodes, and in the same order their potentials
  pub nodes : List ℕ
  pub potentials : List ℤ
  -- the lasso, whose cycle earns
  pub stem : List ℕ
  pub cycle : List ℕ
  -- a lasso whose cycle earns nothing and costs less than 0
  pub idle_stem : List ℕ
  pub idle_cycle : List ℕ
  -- walks from the start that pass every listed node
  pub walks : List (List ℕ)

-- a cycle with this cost and reward earns nothing and costs less than 0
abbrev pub gains_idle : ℤ → ℕ → Bool
gains_idle c r = all_true (eqb r 0 ∷ lt_z c (pos 0) ∷ [])

-- what f lists from where an allowed step leads
abbrev pub thence : (ℕ → List ℕ) → Option (Priced ℕ) → List ℕ
thence f none = []
thence f (some v) = f v.to

module _ (step : ℕ → ℕ → Option (Priced ℕ)) (start : ℕ) where
  -- the nodes that a walk from x passes
  unfoldable pub passed : List ℕ → ℕ → List ℕ
  passed [] x = x ∷ []
  passed (code ∷ codes) x = x ∷ thence (passed codes) (step x code)

  -- does one of the walks from the start pass x?
  unfoldable pub is_passed : List (List ℕ) → ℕ → Bool
  is_passed [] x = false
  is_passed (codes ∷ walks) x = occurs x (passed codes start) || is_passed walks x

  -- accepted, with the ratio p/q and n nodes
  unfoldable pub shows_accepted : ℤ → ℕ → ℕ → Certificate → Bool
  shows_accepted p q n c = all_true
      (holds_all step start c.nodes
      ∷ eqb (length c.nodes) n
      ∷ every (λ i. is_passed c.walks) c.nodes
      ∷ is_lowest p q
      ∷ keeps step start p q c.nodes c.potentials
      ∷ is_lasso step start (has_ratio p q) c.stem c.cycle
      ∷ [])

  -- 13: at p = 1 and q = 0 a step weighs minus its reward, so where it earns the potential falls, and it never rises
  unfoldable pub shows_none_earns : Certificate → Bool
  shows_none_earns c = keeps step start (pos 1) 0 c.nodes c.potentials

  -- 14: a cycle earns, and another makes money without reward
  unfoldable pub shows_idle_gain : Certificate → Bool
  shows_idle_gain c = all_true (is_lasso step start earns c.stem c.cycle ∷ is_lasso step start gains_idle c.idle_stem c.idle_cycle ∷ [])

  -- refused with this number
  unfoldable pub shows_refused : ℕ → Certificate → Bool
  shows_refused refusal c = all_true
      (holds_all step start c.nodes
      ∷ ((eqb refusal 13 && shows_none_earns c) || (eqb refusal 14 && shows_idle_gain c))
      ∷ [])

-- where the check refuses the sheet, no certificate is needed
unfoldable pub certifies : List ℕ → Says → Certificate → Bool
certifies bytes (accepts p q n) c = all_true (eqb (check_of bytes) 0 ∷ shows_accepted (step_on bytes) (start_of bytes) p q n c ∷ [])
certifies bytes (refuses refusal) c =
    cond (eqb (check_of bytes) 0) (shows_refused (step_on bytes) (start_of bytes) refusal c) (eqb refusal (check_of bytes))
