-- The answer that a number stands for. A cycle has 1 to 2048 arcs.
use Rattle.std.specs.Prelude.{cond, ℕ, eqb, Option, Some, None, Result, Ok, Err}
use Rattle.walks.specs.declared.Malformed.{Malformed}

abbrev pub search_answer : ℕ → Result (Option ℕ) Malformed
search_answer r = cond (eqb r 0) (Ok None) (cond (eqb r 2049) (Err record {}) (Ok (Some r)))
