-- A list with blank entries behind it.
use mathlib.Core.Path.{◌≡◌, sym, subst, ◌∙◌}
use mathlib.Core.List.{List, ◌++◌}
use Prim.Native.Nat.{ℕ, ◌+◌, ◌-◌, ◌≤◌, ◌<◌}
use native.Mathlib.Omega.{arith}
use native.Mathlib.Decide.{ℕ_discrete, dec_lt}
use lib.ListN.{length, get_or, set, drop, replicate, length-set, get_or-append, get_or-replicate, get_or-eq_default}
use lib.Seq.{get_or-set_same, get_or-set_other}
use Rattle.std.proofs.lemmas.List.{get_or-append_right, get_or-drop}

pub blanks_behind : {A : Type 0} (blank : A) (s : List A) (m n : ℕ) → length s ≡ m → (l : ℕ) → l < n
    → get_or (s ++ drop m (replicate n blank)) l blank ≡ get_or s l blank
blanks_behind blank s m n e l h = elim (dec_lt l m) [
  | yes k ↦ get_or-append s (drop m (replicate n blank)) blank l (omega (arith, e))
  | no k ↦ get_or-append_right s (drop m (replicate n blank)) m l blank e (omega arith) ∙ get_or-drop m (replicate n blank) (l - m) blank
      ∙ get_or-replicate n (m + (l - m)) blank blank (omega arith) ∙ sym (get_or-eq_default s blank {n = l} (omega (arith, e)))
]

-- ---- docs/PORT.md names these; no proof cites them

-- the first i entries of s stand in front of n entries, blank ones after them
pub record Copied {A : Type 0} (blank : A) (s l : List A) (n i : ℕ) : Type 0 where
  pub sized : length l ≡ n
  pub front : (j : ℕ) → j < i → get_or l j blank ≡ get_or s j blank
  pub behind : (j : ℕ) → i ≤ j → j < n → get_or l j blank ≡ blank

module _ {A : Type 0} (blank : A) (s : List A) (n : ℕ) where
  pub copied_more : (l : List A) (i : ℕ) (x : A) → i < n → x ≡ get_or s i blank → Copied blank s l n i → Copied blank s (set l i x) n (i + 1)
  copied_more l i x h e g = record {
    sized = length-set l i x ∙ g.sized;
    front = λ j k. elim (ℕ_discrete j i) [
      | yes p ↦ subst (λ (y : ℕ). get_or (set l i x) y blank ≡ get_or s y blank) (sym p) (get_or-set_same l i x blank (omega (arith, g.sized)) ∙ e)
      | no q ↦ get_or-set_other l i j x blank q ∙ g.front j (omega arith)
    ];
    behind = λ j k m. get_or-set_other l i j x blank (λ p. omega arith) ∙ g.behind j (omega arith) m;
  }

  -- all of s is copied
  pub copied_all : (l : List A) → Copied blank s l n (length s) → (j : ℕ) → j < n → get_or l j blank ≡ get_or s j blank
  copied_all l g j h = elim (dec_lt j (length s)) [
    | yes k ↦ g.front j k
    | no k ↦ g.behind j (omega arith) h ∙ sym (get_or-eq_default s blank {n = j} (omega arith))
  ]
