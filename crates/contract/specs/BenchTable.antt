-- The table of Bench: Bench and the changes to it, each sheet with what a plan answers, lent buffers long enough.
use Rattle.std.specs.Prelude.{List, [], ◌∷◌, ◌++◌, ℕ, pos, negsuc, set, take, replicate}
use Rattle.contract.specs.Answers.{Says, accepts, refuses, Holds}

pub record Row : Type 0 where
  pub bytes : List ℕ
  pub says : Says

-- every row of a table holds
unfoldable pub AllHold : List Row → Type 0
AllHold [] = Unit {0}
AllHold (r ∷ rows) = Holds r.bytes r.says × AllHold rows

-- edition, L, K and E; the location: map 05, cost rate 1, bound 05; the edge: map 0F 00, from 0 to 0, cost 5, reward 2, reset mask 1, lower byte 2
abbrev pub header : List ℕ
header = 1 ∷ 1 ∷ 1 ∷ 1 ∷ []

abbrev pub location : List ℕ
location = 5 ∷ 1 ∷ 0 ∷ 5 ∷ []

abbrev pub edge : List ℕ
edge = 15 ∷ 0 ∷ 0 ∷ 0 ∷ 5 ∷ 0 ∷ 2 ∷ 0 ∷ 1 ∷ 2 ∷ []

-- the edge without its reward: map 0D 00, and these two bytes of cost
abbrev pub idle_edge : ℕ → ℕ → List ℕ
idle_edge low high = 13 ∷ 0 ∷ 0 ∷ 0 ∷ low ∷ high ∷ 1 ∷ 2 ∷ []

-- "01 01 01 01 05 01 00 05 0F 00 00 00 05 00 02 00 01 02"
abbrev pub bench : List ℕ
bench = header ++ location ++ edge

abbrev pub with_bound : ℕ → List ℕ → List ℕ
with_bound b s = set s 7 b

abbrev pub with_lower : ℕ → List ℕ → List ℕ
with_lower b s = set s 17 b

-- the edge's cost, by its two bytes
abbrev pub with_cost : ℕ → ℕ → List ℕ → List ℕ
with_cost low high s = set (set s 12 low) 13 high

-- Bench in edition 2 with four clocks, each with the bound 05: edition, L, K and E; the location's map 3D, cost rate 1 and bounds
abbrev pub four_clocks : List ℕ
four_clocks = 2 ∷ 1 ∷ 4 ∷ 1 ∷ 61 ∷ 1 ∷ 0 ∷ 5 ∷ 5 ∷ 5 ∷ 5 ∷ []

-- its edge, by the map's two bytes, the reset mask and the guards
abbrev pub four_edge : ℕ → ℕ → ℕ → List ℕ → List ℕ
four_edge low high mask guards = low ∷ high ∷ 0 ∷ 0 ∷ 5 ∷ 0 ∷ 2 ∷ 0 ∷ mask ∷ guards

abbrev pub row : List ℕ → Says → Row
row s a = record { bytes = s; says = a }

-- "Changes to Bench (* marks the cases to be proved; where a field or record comes or goes, its map and E follow)"
unfoldable pub bench_table : List Row
bench_table =
    -- those with a mark: as given
    row bench (accepts (pos 3) 1 7)
    -- lower byte 03
    ∷ row (with_lower 3 bench) (accepts (pos 3) 1 7)
    -- bound 04
    ∷ row (with_bound 4 bench) (accepts (pos 3) 1 6)
    -- bounds 02, 01 and 00
    ∷ row (with_bound 2 bench) (refuses 13)
    ∷ row (with_bound 1 bench) (refuses 13)
    ∷ row (with_bound 0 bench) (refuses 11)
    -- edge cost FC FF
    ∷ row (with_cost 252 255 bench) (accepts (negsuc 2) 2 7)
    -- a second edge equal but for reward 3
    ∷ row (set header 3 2 ++ location ++ edge ++ set edge 6 3) (accepts (pos 2) 1 7)
    -- no edge, eight bytes
    ∷ row (set header 3 0 ++ location) (refuses 13)
    -- reward left out
    ∷ row (header ++ location ++ idle_edge 5 0) (refuses 13)
    -- a byte more
    ∷ row (bench ++ 0 ∷ []) (refuses 10)
    -- a byte less
    ∷ row (take 17 bench) (refuses 5)
    -- and those without: bounds 19 and 1A
    ∷ row (with_bound 25 bench) (accepts (pos 3) 1 37)
    ∷ row (with_bound 26 bench) (refuses 8)
    -- bound 03 with lower byte 03
    ∷ row (with_bound 3 (with_lower 3 bench)) (refuses 13)
    -- edge cost FB FF
    ∷ row (with_cost 251 255 bench) (accepts (negsuc 1) 1 7)
    -- lower byte 00
    ∷ row (with_lower 0 bench) (refuses 8)
    -- edition 2 with L 0, which "now gives 4"
    ∷ row (set (set bench 0 2) 1 0) (refuses 4)
    -- empty
    ∷ row [] (refuses 2)
    -- these are not 01's: a second edge equal but without reward, whose cycle costs 6
    ∷ row (set header 3 2 ++ location ++ edge ++ idle_edge 5 0) (accepts (pos 3) 1 7)
    -- a second edge without reward and cost FC FF: its cycle costs −3
    ∷ row (set header 3 2 ++ location ++ edge ++ idle_edge 252 255) (refuses 14)
    -- reward left out and edge cost FC FF: only that cycle
    ∷ row (header ++ location ++ idle_edge 252 255) (refuses 13)
    -- the edge entered twice: refused after a byte more is, and before a bound 00
    ∷ row (set header 3 2 ++ location ++ edge ++ edge) (refuses 17)
    ∷ row (set header 3 2 ++ location ++ edge ++ edge ++ 0 ∷ []) (refuses 10)
    ∷ row (with_bound 0 (set header 3 2 ++ location ++ edge ++ edge)) (refuses 17)
    -- entered twice, with another edge between
    ∷ row (set header 3 3 ++ location ++ edge ++ set edge 6 3 ++ edge) (refuses 17)
    -- edition 2, and 3
    ∷ row (set bench 0 2) (accepts (pos 3) 1 7)
    ∷ row (set bench 0 3) (refuses 3)
    -- four clocks in edition 1, and five in edition 2
    ∷ row (set bench 2 4) (refuses 4)
    ∷ row (set (set bench 0 2) 2 5) (refuses 4)
    -- bit 6 of the edge: in edition 1 the upper guard of clock 0, and in edition 2 the lower guard of clock 3
    ∷ row (set bench 8 79 ++ 5 ∷ []) (accepts (pos 3) 1 7)
    ∷ row (set (set bench 0 2) 8 79 ++ 5 ∷ []) (refuses 6)
    -- four clocks: the edge resets all of them, and has the lower guard of clock 0; or that of clock 3; or an upper guard of clock 3 too, at most 0
    ∷ row (four_clocks ++ four_edge 15 0 15 (2 ∷ [])) (accepts (pos 3) 1 7)
    ∷ row (four_clocks ++ four_edge 71 0 15 (2 ∷ [])) (accepts (pos 3) 1 7)
    ∷ row (four_clocks ++ four_edge 15 4 15 (2 ∷ 1 ∷ [])) (refuses 13)
    -- clock 3 is not reset
    ∷ row (four_clocks ++ four_edge 15 0 7 (2 ∷ [])) (refuses 13)
    -- two locations in edition 2, left in turn after 1 unit and after 2
    ∷ row (2 ∷ 2 ∷ 1 ∷ 2 ∷ location ++ 5 ∷ 2 ∷ 0 ∷ 7 ∷ 12 ∷ 0 ∷ 0 ∷ 1 ∷ 1 ∷ 2 ∷ 14 ∷ 0 ∷ 1 ∷ 0 ∷ 3 ∷ 0 ∷ 1 ∷ 4 ∷ []) (accepts (pos 5) 3 17)
    -- a bit beyond those of edition 2
    ∷ row (four_clocks ++ four_edge 15 8 15 (2 ∷ 5 ∷ [])) (refuses 6)
    -- as long as a sheet may be, and a byte more
    ∷ row (replicate 656 0) (refuses 3)
    ∷ row (replicate 657 0) (refuses 2)
    ∷ []
