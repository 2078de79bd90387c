-- Answers: what the rules say of a sheet, lent buffers long enough, and what two answers agree in.
use Rattle.std.specs.Prelude.{◌≡◌, List, ℕ, ◌<◌, ℤ}
use Rattle.automaton.specs.Ratios.{LeastRatio}
use Rattle.walks.specs.Walk.{at, atℤ}
use Rattle.contract.specs.Accepted.{NodeList}
use Rattle.contract.specs.Plan.{Answer, refused_plan, Buffers, LongEnough, step_on, start_of, Judged}

-- the ratio and the number of reachable nodes, or the refusal
pub data Says : Type 0 where
  accepts : (p : ℤ) (q n : ℕ) → Says
  refuses : (refusal : ℕ) → Says

-- what a plan answers to a sheet, lent buffers long enough: its refusal, or 0
abbrev pub PlanAnswers : List ℕ → ℕ → Type 0
PlanAnswers bytes r = (b : Buffers) → LongEnough b → Judged bytes b r

-- "A sheet is accepted where every question of a plan but the first is answered yes; its ratio is the p/q that the plan then returns"
pub record AcceptedAs (bytes : List ℕ) (p : ℤ) (q n : ℕ) : Type 0 where
  pub judged : PlanAnswers bytes 0
  pub ratio : LeastRatio (step_on bytes) (start_of bytes) p q
  pub nodes : List ℕ
  pub node_list : NodeList (step_on bytes) (start_of bytes) n nodes

pub record RefusedAs (bytes : List ℕ) (refusal : ℕ) : Type 0 where
  pub some_number : 0 < refusal
  pub judged : PlanAnswers bytes refusal

abbrev pub Holds : List ℕ → Says → Type 0
Holds bytes (accepts p q n) = AcceptedAs bytes p q n
Holds bytes (refuses refusal) = RefusedAs bytes refusal

-- an answer of `plan` that says so
abbrev pub Given : Says → Answer → Type 0
Given (accepts p q n) a = (a.refusal ≡ 0) × (a.p ≡ p) × (a.q ≡ q) × (a.n ≡ n)
Given (refuses refusal) a = a ≡ refused_plan refusal

-- two answers with the buffers that they leave, whatever lassos these hold
pub record Agree (after after' : Buffers) (a a' : Answer) : Type 0 where
  pub refusal : a.refusal ≡ a'.refusal
  pub p : a.p ≡ a'.p
  pub q : a.q ≡ a'.q
  pub n : a.n ≡ a'.n
  pub nodes : (i : ℕ) → i < a.n → at after.nodes i ≡ at after'.nodes i
  pub potentials : (i : ℕ) → i < a.n → atℤ after.potentials i ≡ atℤ after'.potentials i
