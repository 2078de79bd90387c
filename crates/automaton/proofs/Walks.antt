-- Laws of walks and reachable nodes, for any steps by code.
use mathlib.Core.Path.{◌≡◌, sym, ap, ap₂, ◌∙◌}
use mathlib.Core.List.{List, [], ◌∷◌, ◌++◌}
use mathlib.Core.Option.{Option, some}
use Prim.Native.Nat.{ℕ, ◌+◌}
use native.Mathlib.Nat.{add-zero}
use lib.IntN.{ℤ, pos, ◌+ℤ◌, +ℤ_idr}
use Rattle.automaton.specs.Priced.{Priced, and_then, chain}
use Rattle.automaton.specs.Walks.{Walk, Reachable}
use Rattle.automaton.proofs.Chains.{some_inj, chain_holds, chain_append, chain_one, chain_nil}

module _ {S : Type 0} (step : S → ℕ → Option (Priced S)) where
  pub walk_nil : (u : S) → Walk step u [] u (pos 0) 0
  walk_nil u = record { walks = chain_nil step u }

  pub walk_one : (u : S) (code : ℕ) (x : Priced S) → step u code ≡ some x → Walk step u (code ∷ []) x.to x.cost x.reward
  walk_one u code x e = record {
    walks = chain_one step u code x e
        ∙ ap some (λ i. record { to = x.to; cost = +ℤ_idr x.cost i; reward = add-zero x.reward i });
  }

  pub walk_append : {u v w : S} {k l : List ℕ} {c d : ℤ} {r t : ℕ} → Walk step u k v c r → Walk step v l w d t → Walk step u (k ++ l) w (c +ℤ d) (r + t)
  walk_append {u} {v} {w} {k} {l} {c} {d} {r} {t} a b = record {
    walks = chain_append step u k l ∙ ap (λ (o : Option (Priced S)). and_then o (λ y. chain step y l)) a.walks
        ∙ ap (λ (o : Option (Priced S)). and_then (some (record { to = v; cost = c; reward = r })) (λ y. o)) b.walks;
  }

  -- one list of codes leads from one node to one node, at one price
  pub same_walk : {u u' v v' : S} {l l' : List ℕ} {c c' : ℤ} {r r' : ℕ} → Walk step u l v c r → Walk step u' l' v' c' r' → u ≡ u' → l ≡ l'
      → ◌≡◌ {A = Priced S} (record { to = v; cost = c; reward = r }) (record { to = v'; cost = c'; reward = r' })
  same_walk w w' p q = some_inj (sym w.walks ∙ ap₂ (chain step) p q ∙ w'.walks)

  -- what holds of nothing, of one step, and of two parts together, holds of a walk
  pub walk_holds : (P : ℤ → ℕ → S → S → Type 0)
      → ((s : S) → P (pos 0) 0 s s)
      → ((c d : ℤ) (r t : ℕ) (s x y : S) → P c r s x → P d t x y → P (c +ℤ d) (r + t) s y)
      → ((s : S) (code : ℕ) (x : Priced S) → step s code ≡ some x → P x.cost x.reward s x.to)
      → {u v : S} {l : List ℕ} {c : ℤ} {r : ℕ} → Walk step u l v c r → P c r u v
  walk_holds P nothing two one {u} {v} {l} {c} {r} w = chain_holds step P nothing two one u l (record { to = v; cost = c; reward = r }) w.walks

  module _ (start : S) where
    pub reach_start : Reachable step start start
    reach_start = record { codes = []; cost = pos 0; reward = 0; walk = walk_nil start }

    pub reach_walk : {u v : S} {l : List ℕ} {c : ℤ} {r : ℕ} → Reachable step start u → Walk step u l v c r → Reachable step start v
    reach_walk {l = l} {c = c} {r = r} h w = record { codes = h.codes ++ l; cost = h.cost +ℤ c; reward = h.reward + r; walk = walk_append h.walk w }

    pub reach_step : (u : S) (code : ℕ) (x : Priced S) → Reachable step start u → step u code ≡ some x → Reachable step start x.to
    reach_step u code x h e = reach_walk h (walk_one u code x e)

    -- what holds of the start and is kept by steps holds of every reachable node
    pub reach_holds : (P : S → Type 0) → P start → ((u : S) (code : ℕ) (x : Priced S) → step u code ≡ some x → P u → P x.to)
        → (u : S) → Reachable step start u → P u
    reach_holds P begins goes u h = walk_holds (λ c r s t. P s → P t) (λ s k. k) (λ c d r t s x y f g k. g (f k)) goes h.walk begins
