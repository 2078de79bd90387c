-- What stands where no record is read: a struct by default.
use mathlib.Core.Path.{◌≡◌}
use mathlib.Core.List.{List, [], ◌∷◌}
use Prim.Native.Nat.{ℕ}
use native.Mathlib.Omega.{arith}
use lib.IntN.{pos}
use Rattle.std.specs.Array.{AllOfLen}
use Rattle.sheet.specs.Decoded.{blank_location, blank_edge}
use Rattle.sheet.specs.Keys.{blank_key}
use Rattle.sheet.specs.declared.Location.{Location}
use Rattle.sheet.specs.declared.Edge.{Edge}
use Rattle.sheet.specs.declared.keys.Key.{Key}

abbrev Zeros : List ℕ → Type 0
Zeros xs = AllOfLen (λ (x : ℕ). x ≡ 0) xs 4

zeros : (xs : List ℕ) → Zeros xs → xs ≡ 0 ∷ 0 ∷ 0 ∷ 0 ∷ []
zeros [] h = absurd (omega (arith, h.long))
zeros (a ∷ []) h = absurd (omega (arith, h.long))
zeros (a ∷ b ∷ []) h = absurd (omega (arith, h.long))
zeros (a ∷ b ∷ c ∷ []) h = absurd (omega (arith, h.long))
zeros (a ∷ b ∷ c ∷ d ∷ []) h = λ i. h.at 0 0 (omega arith) i ∷ h.at 1 0 (omega arith) i ∷ h.at 2 0 (omega arith) i ∷ h.at 3 0 (omega arith) i ∷ []
zeros (a ∷ b ∷ c ∷ d ∷ e ∷ xs) h = absurd (omega (arith, h.long))

pub blank_location_is : {l : Location} → (l.cost ≡ pos 0) × ((l.reward ≡ 0) × Zeros l.upper) → l ≡ blank_location
blank_location_is e i = record { cost = e.0 i; reward = e.1.0 i; upper = zeros _ e.1.1 i }

pub blank_edge_is : {d : Edge}
    → Zeros d.lower × (Zeros d.upper × ((d.cost ≡ pos 0) × ((d.reward ≡ 0) × ((d.source ≡ 0) × ((d.target ≡ 0) × (d.reset ≡ 0))))))
    → d ≡ blank_edge
blank_edge_is e i = record {
  lower = zeros _ e.0 i;
  upper = zeros _ e.1.0 i;
  cost = e.1.1.0 i;
  reward = e.1.1.1.0 i;
  source = e.1.1.1.1.0 i;
  target = e.1.1.1.1.1.0 i;
  reset = e.1.1.1.1.1.1 i;
}

pub blank_key_is : {k : Key} → (k.at ≡ 0) × ((k.length ≡ 0) × ((k.front ≡ 0) × (k.back ≡ 0))) → k ≡ blank_key
blank_key_is e i = record { at = e.0 i; length = e.1.0 i; front = e.1.1.0 i; back = e.1.1.1 i }
