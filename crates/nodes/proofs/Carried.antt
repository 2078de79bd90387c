-- Steps carried over to other names of the nodes: walks, reachable nodes, cycles and feasible potentials go with them, both ways.
use mathlib.Core.Path.{◌≡◌, refl, sym, ap, ◌∙◌, subst}
use mathlib.Core.List.{List, [], ◌∷◌}
use mathlib.Core.Option.{Option, none, some, map}
use Prim.Native.Nat.{ℕ}
use native.Mathlib.Omega.{arith}
use lib.IntN.{ℤ}
use Rattle.automaton.specs.Priced.{Priced, joined, and_then, chain}
use Rattle.automaton.specs.Walks.{Walk, Reachable, ReachableCycle}
use Rattle.automaton.specs.Weights.{Feasible, Potential}
use Rattle.automaton.proofs.Chains.{some_inj}
use Rattle.automaton.proofs.Walks.{walk_holds}

-- the same step by the other names
abbrev pub named : {S T : Type 0} → (S → T) → Priced S → Priced T
named φ v = record { to = φ v.to; cost = v.cost; reward = v.reward }

pub record Named {S T : Type 0} (φ : S → T) (o : Option (Priced S)) (y : Priced T) : Type 0 where
  pub value : Priced S
  pub is : o ≡ some value
  pub name : named φ value ≡ y

pub named_some : {S T : Type 0} (φ : S → T) (o : Option (Priced S)) (y : Priced T) → map (named φ) o ≡ some y → Named φ o y
named_some φ none y e = absurd (let z : ◌≡◌ {A = ℕ} 0 1 = cc in omega arith)
named_some φ (some v) y e = record { value = v; is = refl; name = some_inj e }

-- where a walk on names leads, as a node
pub record Back {S T : Type 0} (f : S → ℕ → Option (Priced S)) (φ : S → T) (P : S → Type 0) (s : S) (l : List ℕ) (y : T) (c : ℤ) (r : ℕ) : Type 0 where
  pub to : S
  pub walk : Walk f s l to c r
  pub is : φ to ≡ y
  pub holds : P to

-- the node of a reachable name
pub record Source {S T : Type 0} (f : S → ℕ → Option (Priced S)) (φ : S → T) (P : S → Type 0) (start : S) (y : T) : Type 0 where
  pub node : S
  pub reach : Reachable f start node
  pub is : φ node ≡ y
  pub holds : P node

-- φ names the nodes of S that P is about; f leads from these to these, and g steps on the names as f does on the nodes
module _ {S T : Type 0} (f : S → ℕ → Option (Priced S)) (g : T → ℕ → Option (Priced T)) (φ : S → T) (P : S → Type 0)
    (keeps : (s : S) (m : ℕ) (x : Priced S) → f s m ≡ some x → P s → P x.to)
    (same : (s : S) (m : ℕ) → P s → g (φ s) m ≡ map (named φ) (f s m)) where
  joined_named : (a : Priced S) (o : Option (Priced S)) → map (joined (named φ a)) (map (named φ) o) ≡ map (named φ) (map (joined a) o)
  joined_named a none = refl
  joined_named a (some b) = refl

  chain_named : (ms : List ℕ) (s : S) → P s → chain g (φ s) ms ≡ map (named φ) (chain f s ms)
  unfolding chain
  chain_named [] s h = refl
  chain_named (m ∷ ms) s h = ap (λ (o : Option (Priced T)). and_then o (λ t. chain g t ms)) (same s m h)
      ∙ after (f s m) (λ a e. chain_named ms a.to (keeps s m a e h))
    where
      after : (o : Option (Priced S)) → ((a : Priced S) → o ≡ some a → chain g (φ a.to) ms ≡ map (named φ) (chain f a.to ms))
          → and_then (map (named φ) o) (λ t. chain g t ms) ≡ map (named φ) (and_then o (λ t. chain f t ms))
      after none k = refl
      after (some a) k = ap (map (joined (named φ a))) (k a refl) ∙ joined_named a (chain f a.to ms)

  walk_keeps : {s t : S} {l : List ℕ} {c : ℤ} {r : ℕ} → Walk f s l t c r → P s → P t
  walk_keeps = walk_holds f (λ c r s t. P s → P t) (λ s k. k) (λ c d r t s x y h k p. k (h p)) keeps

  pub walk_named : {s t : S} {l : List ℕ} {c : ℤ} {r : ℕ} → P s → Walk f s l t c r → Walk g (φ s) l (φ t) c r
  walk_named {s} {l = l} h w = record { walks = chain_named l s h ∙ ap (map (named φ)) w.walks }

  pub walk_back : {s : S} {l : List ℕ} {y : T} {c : ℤ} {r : ℕ} → P s → Walk g (φ s) l y c r → Back f φ P s l y c r
  walk_back {s} {l} {y} {c} {r} h w =
      let n = named_some φ (chain f s l) (record { to = y; cost = c; reward = r }) (sym (chain_named l s h) ∙ w.walks) in
      let there : Walk f s l n.value.to c r = record {
        walks = n.is ∙ ap some (λ i. record { to = n.value.to; cost = (n.name i).cost; reward = (n.name i).reward });
      } in
      record {
        to = n.value.to;
        walk = there;
        is = ap (λ (v : Priced T). v.to) n.name;
        holds = walk_keeps there h;
      }

  module _ (start : S) (begins : P start) where
    pub reach_named : {s : S} → Reachable f start s → Reachable g (φ start) (φ s)
    reach_named r = record { codes = r.codes; cost = r.cost; reward = r.reward; walk = walk_named begins r.walk }

    pub reach_back : {y : T} → Reachable g (φ start) y → Source f φ P start y
    reach_back r = let b = walk_back begins r.walk in record {
      node = b.to;
      reach = record { codes = r.codes; cost = r.cost; reward = r.reward; walk = b.walk };
      is = b.is;
      holds = b.holds;
    }

    pub reach_holds : {s : S} → Reachable f start s → P s
    reach_holds r = walk_keeps r.walk begins

    pub cycle_named : {c : ℤ} {r : ℕ} → ReachableCycle f start c r → ReachableCycle g (φ start) c r
    cycle_named o = record {
      node = φ o.node;
      reached = reach_named o.reached;
      cycle = record { codes = o.cycle.codes; some_step = o.cycle.some_step; back = walk_named (reach_holds o.reached) o.cycle.back };
    }

    -- a potential on names that no step breaks is one on nodes
    pub feasible_back : (p : ℤ) (q : ℕ) (π : T → ℤ) → Feasible g (φ start) p q π → Feasible f start p q (λ s. π (φ s))
    feasible_back p q π ok = record {
      holds = λ u m v r e. ok.holds (φ u) m (named φ v) (reach_named r) (same u m (reach_holds r) ∙ ap (map (named φ)) e);
    }

    -- unlike nodes have unlike names
    module _ (apart : (s t : S) → P s → P t → φ s ≡ φ t → s ≡ t) where
      pub cycle_back : {c : ℤ} {r : ℕ} → ReachableCycle g (φ start) c r → ReachableCycle f start c r
      cycle_back {c} {r} o =
          let s = reach_back o.reached in
          let w = subst (λ (y : T). Walk g y o.cycle.codes y c r) (sym s.is) o.cycle.back in
          let b = walk_back s.holds w in
          record {
            node = s.node;
            reached = s.reach;
            cycle = record {
              codes = o.cycle.codes;
              some_step = o.cycle.some_step;
              back = subst (λ (t : S). Walk f s.node o.cycle.codes t c r) (apart b.to s.node b.holds s.holds b.is) b.walk;
            };
          }

      pub potential_back : (p : ℤ) (q : ℕ) {s : S} {z : ℤ} → P s → Potential g (φ start) p q (φ s) z → Potential f start p q s z
      potential_back p q {s} {z} h o = let b = walk_back begins o.walk in record {
        codes = o.codes;
        cost = o.cost;
        reward = o.reward;
        walk = subst (λ (t : S). Walk f start o.codes t o.cost o.reward) (apart b.to s b.holds h b.is) b.walk;
        attained = o.attained;
        least = λ l c r w. o.least l c r (walk_named begins w);
      }
