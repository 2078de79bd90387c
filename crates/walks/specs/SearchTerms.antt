-- What the rounds of the search keep, and what the climb along the parent arcs finds. Only private functions go by this file.
-- The arc e weighs `W e` less `bias`, m is the number of arcs, n that of nodes. A potential d stands as `start` + d in the list D, and as
-- `inf` where no walk is known: see SearchNumbers. `par` holds for each node its parent arc and 1, or 0; `st` the stamp of its last fall, or 0.
use Rattle.std.specs.Prelude.{◌≡◌, ◌⊎◌, List, [], ◌∷◌, Bool, true, false, ℕ, zero, suc, ◌+◌, ◌*◌, ◌-◌, ◌≤◌, ◌<◌, length, ℤ}
use Rattle.std.proofs.Math.Seq.{slice}
use Rattle.walks.specs.Walk.{at, ArcWalk, Distinct}
use Rattle.walks.specs.Weight.{weight_of, total}
use Rattle.walks.specs.Form.{Graph, CoefficientsInRange}
use Rattle.walks.specs.SearchNumbers.{raised, raised_all, bias, start, inf, most, deep, per_round, stamps}

-- the weights of the arcs, raised
unfoldable pub raised_weight : ℤ → ℤ → ℤ → List ℤ → List ℕ → ℕ → ℕ
raised_weight a b c cost reward e = raised bias (weight_of a b c cost reward e)

-- ---- the rounds

-- d stands for the weight of a walk from node 0 to v
pub record Attained (F T : List ℕ) (W : ℕ → ℕ) (m d v : ℕ) : Type 0 where
  pub path : List ℕ
  pub walk : ArcWalk F T m 0 path v
  pub weighs : d + bias * length path ≡ start + total W path

-- no arc leads below a potential, each is the weight of a walk, and lies strictly between −10^15 and 10^15
pub record Least (F T : List ℕ) (W : ℕ → ℕ) (m : ℕ) (D : List ℕ) (n : ℕ) : Type 0 where
  pub first : at D 0 ≤ start
  pub feasible : (e : ℕ) → e < m → at D (at F e) < inf → at D (at T e) + bias ≤ at D (at F e) + W e
  pub reached : (v : ℕ) → v < n → at D v < inf → Attained F T W m (at D v) v
  pub top : (v : ℕ) → v < n → at D v ≤ inf
  pub floor : (v : ℕ) → v < n → start < at D v + deep
  pub ceiling : (v : ℕ) → v < n → at D v < inf → at D v < start + deep

-- relaxing the arc e makes no potential fall, where its source's stamp is below k
abbrev pub NoFall : List ℕ → List ℕ → (ℕ → ℕ) → List ℕ → List ℕ → ℕ → ℕ → Type 0
NoFall F T W D st e k = at st (at F e) < k → at D (at F e) < inf → at D (at T e) + bias ≤ at D (at F e) + W e

-- e, the parent of v: the potential of v is at least that of e's source and the weight of e, and more where that source fell later
pub record Hangs (F T : List ℕ) (W : ℕ → ℕ) (m : ℕ) (D st : List ℕ) (v e : ℕ) : Type 0 where
  pub arc : e < m
  pub ends : at T e ≡ v
  pub above : stamps * (at D (at F e) + W e) + at st (at F e) < stamps * (at D v + bias) + at st v
  pub near : at st v ≤ at st (at F e) + per_round
  pub known : at D v < inf

-- how many entries are 0: of the parents, how many nodes have none
abbrev pub zero_count : List ℕ → ℕ
zero_count [] = 0
zero_count (zero ∷ l) = suc (zero_count l)
zero_count (suc a ∷ l) = zero_count l

-- the round whose stamps begin above b, after i arcs; the arc e is relaxed with the stamp b + e + 1
pub record RoundState (F T : List ℕ) (W : ℕ → ℕ) (m : ℕ) (D par st : List ℕ) (b i n : ℕ) : Type 0 where
  pub begun : per_round ≤ b
  pub rounds : b < per_round * (n + 1)
  pub within : i ≤ m
  pub potential_len : length D ≡ n
  pub par_len : length par ≡ n
  pub st_len : length st ≡ n
  pub first : at D 0 ≤ start
  pub stamp : (v : ℕ) → v < n → at st v ≤ b + i
  pub known : (v : ℕ) → v < n → 0 < at st v → at D v < inf
  pub top : (v : ℕ) → v < n → at D v ≤ inf
  pub cap : (v : ℕ) → v < n → at D v < inf → at D v + most * zero_count par ≤ start + most * n
  pub reached : (v : ℕ) → v < n → at D v < inf → Attained F T W m (at D v) v
  pub root : (v : ℕ) → v < n → at par v ≡ 0 → (at st v ≤ per_round) × (start ≤ at D v)
  pub hangs : (v : ℕ) → v < n → (e : ℕ) → at par v ≡ e + 1 → Hangs F T W m D st v e
  pub still : (e : ℕ) → e < m → NoFall F T W D st e (b - per_round + e + 1)
  pub done : (e : ℕ) → e < i → NoFall F T W D st e (b + e + 1)

-- no potential is too low
abbrev pub Fine : List ℕ → ℕ → Type 0
Fine D n = (v : ℕ) → v < n → start < at D v + deep

-- what the search has in hand: the round whose stamps begin above b, after i arcs; d are the potentials. There is room for 2048 nodes
pub record Running (F T : List ℕ) (cost : List ℤ) (reward : List ℕ) (a b c : ℤ) (d : List ℤ) (par st : List ℕ) (begin i : ℕ) : Type 0 where
  pub graph : Graph F T cost reward 2048
  pub in_range : CoefficientsInRange a b c
  pub state : RoundState F T (raised_weight a b c cost reward) (length F) (raised_all start d) par st begin i 2048
  pub fine : Fine (raised_all start d) 2048

-- what relaxing the arc e comes to; t says whether a potential fell
pub record Relaxed (F T : List ℕ) (W : ℕ → ℕ) (m : ℕ) (D st D' par' st' : List ℕ) (b n e : ℕ) (t : Bool) : Type 0 where
  pub state : RoundState F T W m D' par' st' b (e + 1) n
  pub fine : start < at D' (at T e) + deep → Fine D' n
  pub rise : (j : ℕ) → at st j ≤ at st' j
  pub same : t ≡ false → (D' ≡ D) × (st' ≡ st)
  pub stamped : t ≡ true → b < at st' (at T e)

-- the round has come to an end: nothing fell, or v fell and all arcs are relaxed, or v fell too low
pub record Ended (F T : List ℕ) (W : ℕ → ℕ) (m : ℕ) (D par st : List ℕ) (b n v : ℕ) : Type 0 where
  pub i : ℕ
  pub state : RoundState F T W m D par st b i n
  pub how : ((v ≡ n) × Least F T W m D n) ⊎ ((v < n) × (((i ≡ m) × Fine D n × (b < at st v)) ⊎ (at D v + deep ≤ start)))

-- ---- the climb

-- how the parents lie, whatever the graph's other parts are
pub record View (F par : List ℕ) (n : ℕ) : Type 0 where
  pub T : List ℕ
  pub W : ℕ → ℕ
  pub m : ℕ
  pub D : List ℕ
  pub st : List ℕ
  pub par_len : length par ≡ n
  pub froms : length F ≡ m
  pub source : (e : ℕ) → e < m → at F e < n
  pub heavy : (e : ℕ) → e < m → bias ≤ W e + most
  pub stamp : (v : ℕ) → v < n → at st v < stamps
  pub reached : (v : ℕ) → v < n → at D v < inf → Attained F T W m (at D v) v
  pub root : (v : ℕ) → v < n → at par v ≡ 0 → (at st v ≤ per_round) × (start ≤ at D v)
  pub hangs : (v : ℕ) → v < n → (e : ℕ) → at par v ≡ e + 1 → Hangs F T W m D st v e

-- a cycle of negative weight that meets no node twice, and that a walk from node 0 leads to
pub record Negative (F T : List ℕ) (W : ℕ → ℕ) (m : ℕ) (c : List ℕ) : Type 0 where
  pub hub : ℕ
  pub path : List ℕ
  pub come : ArcWalk F T m 0 path hub
  pub some : 0 < length c
  pub walk : ArcWalk F T m hub c hub
  pub below : total W c < bias * length c
  pub simple : Distinct T c

-- the climb from v: a cycle of negative weight stands in climbed from a to b; or a is b, v fell last in one of the first n rounds, and not too low
pub record Climbed (F T : List ℕ) (W : ℕ → ℕ) (m : ℕ) (D st climbed : List ℕ) (n v a b : ℕ) : Type 0 where
  pub climbed_len : length climbed ≡ n
  pub cycle : a < b → (b ≤ n) × Negative F T W m (slice a b climbed)
  pub root : b ≤ a → (at st v ≤ per_round * n) × (start ≤ at D v + most * n)
