-- The answer and the lent buffers in the words of the contract.
use Rattle.std.specs.Prelude.{List, ℕ, ℤ, Result, Ok, Err}
use Rattle.refusals.specs.Numbers.{number_of}
use Rattle.refusals.specs.declared.Refusal.{Refusal}
use Rattle.contract.specs.Plan as Contract
use Rattle.planner.specs.declared.output.Plan.{Plan}

abbrev pub lent_buffers : List ℕ → List ℤ → List ℕ → Contract.Buffers
lent_buffers nodes potentials steps = record { nodes = nodes; potentials = potentials; steps = steps }

abbrev pub accepted : ℤ → ℕ → ℕ → ℕ → ℕ → ℕ → ℤ → ℕ → Contract.Answer
accepted p q n s m units cost reward =
    record { refusal = 0; p = p; q = q; n = n; s = s; m = m; units = units; cost = cost; reward = reward }

-- a plan, or the number of the refusal and zeros beside it
abbrev pub answer_of : Result Plan Refusal → Contract.Answer
answer_of (Ok a) = accepted a.p a.q a.n a.s a.m a.units a.cost a.reward
answer_of (Err r) = Contract.refused_plan (number_of r)
