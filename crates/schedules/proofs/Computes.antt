-- The definitions compute: small cases, each by computation alone.
use mathlib.Core.Path.{◌≡◌, refl}
use mathlib.Core.List.{[], ◌∷◌}
use Rattle.automaton.specs.Runs.{delay, edge}
use Rattle.schedules.specs.Pairs.{members, pairs_from}
use Rattle.schedules.specs.Turning.{until_edge, past_edge, stem_pairs, cycle_pairs}
use Rattle.schedules.specs.WalkTerms.{rest_from, members_from, members_of}

-- "Bench gives stem (1, 0), cycle (1, 0)": of its lassos with no stem and a cycle of a move, a unit, a move and edge 0, or with one move more before the edge.
-- It has no others (contract/proofs/BenchLassos.antt).
pub bench_stem : stem_pairs [] (33 ∷ 32 ∷ 33 ∷ 0 ∷ []) ≡ record { wait = 1; edge = 0 } ∷ []
unfolding until_edge pairs_from
bench_stem = refl

pub bench_cycle : cycle_pairs (33 ∷ 32 ∷ 33 ∷ 0 ∷ []) ≡ record { wait = 1; edge = 0 } ∷ []
unfolding until_edge past_edge pairs_from
bench_cycle = refl

pub bench_late_stem : stem_pairs [] (33 ∷ 32 ∷ 33 ∷ 33 ∷ 0 ∷ []) ≡ record { wait = 1; edge = 0 } ∷ []
unfolding until_edge pairs_from
bench_late_stem = refl

pub bench_late_cycle : cycle_pairs (33 ∷ 32 ∷ 33 ∷ 33 ∷ 0 ∷ []) ≡ record { wait = 1; edge = 0 } ∷ []
unfolding until_edge past_edge pairs_from
bench_late_cycle = refl

-- a cycle that waits, takes edge 3, waits twice, takes edge 5 and waits: turned, the last wait and the first become one
turned_stem : stem_pairs (33 ∷ 4 ∷ 33 ∷ 32 ∷ []) (32 ∷ 3 ∷ 32 ∷ 32 ∷ 5 ∷ 32 ∷ []) ≡ record { wait = 0; edge = 4 } ∷ record { wait = 2; edge = 3 } ∷ []
unfolding until_edge pairs_from
turned_stem = refl

turned_cycle : cycle_pairs (32 ∷ 3 ∷ 32 ∷ 32 ∷ 5 ∷ 32 ∷ []) ≡ record { wait = 2; edge = 5 } ∷ record { wait = 2; edge = 3 } ∷ []
unfolding until_edge past_edge pairs_from
turned_cycle = refl

-- what a walk stands for that ends with two units
walked : members_of (32 ∷ 33 ∷ 7 ∷ 33 ∷ 32 ∷ 32 ∷ []) ≡ delay 1 ∷ edge 7 ∷ delay 2 ∷ []
unfolding members_from members pairs_from rest_from
walked = refl
