-- Every row of the table of Bench holds: a certificate for each, and one computation that tests them all.
use mathlib.Core.Path.{◌≡◌, refl}
use mathlib.Core.Bool.{Bool, true, false, ◌&&◌}
use mathlib.Core.List.{List, [], ◌∷◌, ◌++◌, map, zip_with}
use Prim.Native.Nat.{ℕ, zero, suc, ◌+◌, ◌*◌}
use lib.IntN.{ℤ, pos, negsuc, ◌+ℤ◌}
use lib.ListN.{take}
use Rattle.automaton.specs.Tests.{every}
use Rattle.automaton.specs.Ranks.{rank, close_up, mask, largest}
use Rattle.automaton.specs.Automaton.{in_bounds, in_guards}
use Rattle.automaton.specs.Priced.{chain}
use Rattle.automaton.specs.Nodes.{start_node}
use Rattle.automaton.specs.Steps.{edge_step, unit_step, move_step, step}
use Rattle.automaton.specs.Weights.{weight}
use Rattle.automaton.proofs.Tests.{&&-left, &&-right, clash}
use Rattle.sheet.specs.Bytes.{signed_of}
use Rattle.sheet.specs.Maps.{place_of}
use Rattle.sheet.specs.Fields.{field_of, permitted_field, cost_in_range, in_range}
use Rattle.sheet.specs.Records.{field_place, value_at, field_at, record_length, record_at}
use Rattle.sheet.specs.Questions.{each, first_of, bit_good, map_refusal, field_good, fields_refusal, bounds_refusal, ends_refusal, location_refusal, edge_refusal}
use Rattle.sheet.specs.Questions.{same_record, distinct_refusal, start_refusal, rest_refusal, records_refusal, check_of}
use Rattle.nodes.specs.Numbers.{clocks_from, number, list_from, node_of, step_by}
use Rattle.nodes.specs.Meaning.{meaning}
use Rattle.contract.specs.Answers.{AcceptedAs}
use Rattle.contract.specs.Rules.{all_true, index_of, rises, is_lowest, each_step, holds_all, keeps, is_lasso}
use Rattle.contract.specs.Certificate.{Certificate, passed, is_passed, shows_accepted, shows_none_earns, shows_idle_gain, shows_refused, certifies}
use Rattle.contract.proofs.Certificates.{certified}
use Rattle.contract.specs.BenchTable.{Row, AllHold, bench, bench_table}

-- ---- the nodes of Bench, for whole parts from h on and k units more: at h, and strictly between h and h + 1 at the corners 0 and 1

-- by what a number grows by for a unit, and for the class 1
ladder : ℕ → ℕ → ℕ → ℕ → List ℕ
ladder unit class h zero = (unit * h) ∷ []
ladder unit class h (suc k) = (unit * h) ∷ (unit * h + class) ∷ (unit * h + class + 1) ∷ ladder unit class (suc h) k

-- in edition 1, in edition 2, and in edition 2 with four clocks that are always equal
first : ℕ → List ℕ
first = ladder 16 4 0

second : ℕ → List ℕ
second = ladder 64 8 0

four : ℕ → List ℕ
four = ladder 135274560 16909320 0

-- their potentials where a unit weighs w
heights : ℕ → ℕ → ℕ → List ℤ
heights w h zero = pos (w * h) ∷ []
heights w h (suc k) = pos (w * h) ∷ pos (w * suc h) ∷ pos (w * h) ∷ heights w (suc h) k

-- the walk up: a move, a unit and a move for each unit
upward : ℕ → List ℕ
upward zero = []
upward (suc k) = 33 ∷ 32 ∷ 33 ∷ upward k

-- the first n of these nodes, and from the start a cycle that earns and one without reward that makes money
abbrev showing : (ℕ → List ℕ) → ℕ → ℕ → ℕ → List ℕ → List ℕ → Certificate
showing nodes n k w cycle idle = record {
  nodes = take n (nodes k);
  potentials = take n (heights w 0 k);
  stem = [];
  cycle = cycle;
  idle_stem = [];
  idle_cycle = idle;
  walks = upward k ∷ [];
}

-- accepted
abbrev climbing : (ℕ → List ℕ) → ℕ → ℕ → ℕ → List ℕ → Certificate
climbing nodes n k w cycle = showing nodes n k w cycle []

-- 13: no step earns, so 0 will do for every potential
abbrev idling : (ℕ → List ℕ) → ℕ → ℕ → Certificate
idling nodes n k = showing nodes n k 0 [] []

-- where the check refuses the sheet
abbrev nothing : Certificate
nothing = record { nodes = []; potentials = []; stem = []; cycle = []; idle_stem = []; idle_cycle = []; walks = [] }

-- a unit of delay, and the edge with this code from clock 1
abbrev around : ℕ → List ℕ
around edge = 33 ∷ 32 ∷ 33 ∷ edge ∷ []

-- 13: clock 3 is never reset, so each round leaves it higher than the others, and the potentials fall by what the edge earns
apart : ℕ → ℕ → ℕ → ℕ → ℕ → ℕ
apart h k h3 k3 corner = corner + 16513 * (64 * h + 8 * k) + 2097152 * (64 * h3 + 8 * k3)

falling : Certificate
falling = record {
  nodes = apart 0 0 0 0 0 ∷ apart 0 1 0 1 0 ∷ apart 0 1 0 1 1
      ∷ apart 0 0 1 0 0 ∷ apart 1 0 1 0 0 ∷ apart 0 0 1 1 0 ∷ apart 0 0 1 1 1 ∷ apart 0 1 1 1 0 ∷ apart 0 1 1 1 1 ∷ apart 1 1 1 1 0 ∷ apart 1 1 1 1 1
      ∷ apart 0 1 1 2 0 ∷ apart 0 1 1 2 1 ∷ apart 0 1 1 2 2
      ∷ apart 0 0 2 0 0 ∷ apart 0 1 2 0 0 ∷ apart 0 1 2 0 1 ∷ apart 1 0 2 0 0 ∷ apart 2 0 2 0 0 ∷ [];
  potentials = pos 0 ∷ pos 0 ∷ pos 0
      ∷ negsuc 1 ∷ pos 0 ∷ negsuc 1 ∷ negsuc 1 ∷ negsuc 1 ∷ negsuc 1 ∷ pos 0 ∷ pos 0
      ∷ negsuc 1 ∷ negsuc 1 ∷ negsuc 1
      ∷ negsuc 3 ∷ negsuc 1 ∷ negsuc 1 ∷ negsuc 1 ∷ pos 0 ∷ [];
  stem = [];
  cycle = [];
  idle_stem = [];
  idle_cycle = [];
  walks = [];
}

-- accepted: the ladder of two units in location 0, and that of three in location 1
in_turn : Certificate
in_turn = record {
  nodes = second 2 ++ map (λ x. 2147483648 + x) (second 3);
  potentials = heights 3 0 2 ++ map (λ z. pos 3 +ℤ z) (heights 6 0 3);
  stem = [];
  cycle = around 0 ++ upward 1 ++ 33 ∷ 32 ∷ 33 ∷ 1 ∷ [];
  idle_stem = [];
  idle_cycle = [];
  walks = upward 2 ∷ (around 0 ++ upward 3) ∷ [];
}

-- in the order of the table
certificates : List Certificate
certificates = climbing first 7 2 1 (around 0)
    ∷ climbing first 7 2 1 (33 ∷ 32 ∷ 33 ∷ 33 ∷ 0 ∷ [])
    ∷ climbing first 6 2 1 (around 0)
    ∷ idling first 3 1
    ∷ idling first 1 0
    ∷ nothing
    ∷ climbing first 7 2 2 (around 0)
    ∷ climbing first 7 2 1 (around 1)
    ∷ idling first 7 2
    ∷ idling first 7 2
    ∷ nothing
    ∷ nothing
    ∷ climbing first 37 12 1 (around 0)
    ∷ nothing
    ∷ idling first 4 1
    ∷ climbing first 7 2 1 (around 0)
    ∷ nothing
    ∷ nothing
    ∷ nothing
    ∷ climbing first 7 2 1 (around 0)
    ∷ showing first 7 2 0 (around 0) (around 1)
    ∷ idling first 7 2
    ∷ nothing
    ∷ nothing
    ∷ nothing
    ∷ nothing
    ∷ climbing second 7 2 1 (around 0)
    ∷ nothing
    ∷ nothing
    ∷ nothing
    ∷ climbing first 7 2 1 (around 0)
    ∷ nothing
    ∷ climbing four 7 2 1 (around 0)
    ∷ climbing four 7 2 1 (around 0)
    ∷ idling four 7 2
    ∷ falling
    ∷ in_turn
    ∷ nothing
    ∷ nothing
    ∷ nothing
    ∷ []

-- each row has its certificate
all_certified : List Row → List Certificate → Bool
all_certified [] cs = true
all_certified (r ∷ rows) [] = false
all_certified (r ∷ rows) (c ∷ cs) = certifies r.bytes r.says c && all_certified rows cs

computed : all_certified bench_table certificates ≡ true
unfolding all_certified certificates first second four apart falling in_turn ladder heights upward bench_table certifies
    shows_accepted shows_none_earns shows_idle_gain shows_refused is_passed passed is_lasso keeps holds_all each_step is_lowest rises index_of all_true
    meaning step_by node_of list_from number clocks_from
    check_of records_refusal rest_refusal start_refusal distinct_refusal same_record edge_refusal location_refusal ends_refusal bounds_refusal fields_refusal field_good map_refusal bit_good first_of each
    record_at record_length field_at value_at field_place in_range cost_in_range permitted_field field_of place_of signed_of
    weight step move_step unit_step edge_step start_node chain in_guards in_bounds largest mask close_up rank every zip_with
computed = refl

all_hold : (rows : List Row) (cs : List Certificate) → all_certified rows cs ≡ true → AllHold rows
unfolding all_certified AllHold
all_hold [] cs h = tt
all_hold (r ∷ rows) [] h = clash h refl
all_hold (r ∷ rows) (c ∷ cs) h = (
  certified r.bytes r.says c (&&-left (certifies r.bytes r.says c) (all_certified rows cs) h),
  all_hold rows cs (&&-right (certifies r.bytes r.says c) (all_certified rows cs) h),
)

-- the lone theorem about the rules
pub bench_table_holds : AllHold bench_table
bench_table_holds = all_hold bench_table certificates computed

-- of Bench itself
pub bench_accepted : AcceptedAs bench (pos 3) 1 7
unfolding AllHold bench_table
bench_accepted = bench_table_holds.0
