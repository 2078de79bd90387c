-- Weights of arcs and of walks, cycles of negative weight, and potentials.
use Rattle.std.specs.Prelude.{◌≡◌, ◌⊎◌, List, [], ◌∷◌, ℕ, ◌+◌, ◌<◌, ℤ, pos, nat_abs, ◌+ℤ◌, ◌*ℤ◌, ◌≤ℤ◌, ◌<ℤ◌}
use Rattle.walks.specs.Walk.{at, atℤ, ArcWalk, Reached, ArcCycle, Distinct}

-- the weight of the arc e: a times its cost, b times its reward, and c
abbrev pub weight_of : ℤ → ℤ → ℤ → List ℤ → List ℕ → ℕ → ℤ
weight_of a b c cost reward e = a *ℤ atℤ cost e +ℤ b *ℤ pos (at reward e) +ℤ c

-- the weight of a walk, or its cost: the sum over its arcs
abbrev pub sum : (ℕ → ℤ) → List ℕ → ℤ
sum weight [] = pos 0
sum weight (e ∷ c) = weight e +ℤ sum weight c

-- the reward of a walk: the sum over its arcs
abbrev pub total : (ℕ → ℕ) → List ℕ → ℕ
total reward [] = 0
total reward (e ∷ c) = reward e + total reward c

-- c is a simple cycle of negative weight that a walk from the start reaches
pub record NegativeCycle (F T : List ℕ) (m : ℕ) (weight : ℕ → ℤ) (c : List ℕ) : Type 0 where
  pub hub : ℕ
  pub reached : Reached F T m hub
  pub cycle : ArcCycle F T m hub c
  pub simple : Distinct F c
  pub negative : sum weight c <ℤ pos 0

-- no cycle that a walk from the start reaches has negative weight
abbrev pub NoneNegative : List ℕ → List ℕ → ℕ → (ℕ → ℤ) → Type 0
NoneNegative F T m weight = (x : ℕ) (c : List ℕ) → Reached F T m x → ArcCycle F T m x c → pos 0 ≤ℤ sum weight c

-- z is the least weight of a walk from the start to v: it is the weight of one, and none is below it
pub record LeastWeight (F T : List ℕ) (m : ℕ) (weight : ℕ → ℤ) (v : ℕ) (z : ℤ) : Type 0 where
  pub path : List ℕ
  pub walk : ArcWalk F T m 0 path v
  pub weighs : sum weight path ≡ z
  pub least : (c : List ℕ) → ArcWalk F T m 0 c v → z ≤ℤ sum weight c

-- marks a node that no walk from the start reaches: 2^60
abbrev pub unreached : ℤ
unreached = pos 1152921504606846976

-- z is the potential of v: the mark where no walk leads; otherwise the least weight, "strictly between −10^15 and 10^15"
abbrev pub PotentialOrMark : List ℕ → List ℕ → ℕ → (ℕ → ℤ) → ℕ → ℤ → Type 0
PotentialOrMark F T m weight v z =
    ((z ≡ unreached) × (Reached F T m v → ⊥)) ⊎ (LeastWeight F T m weight v z × (nat_abs z < 1000000000000000))
