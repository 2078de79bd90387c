-- Where no bound and no guard is strict, what holds in the whole interval of a clock holds of it at every corner, with n = 1.
use mathlib.Core.Path.{◌≡◌, refl, ◌∙◌}
use mathlib.Core.Bool.{Bool, true, false, ◌&&◌, not}
use mathlib.Core.List.{List, [], ◌∷◌, zip_with}
use mathlib.Core.Option.{Option, none, some}
use Prim.Native.Nat.{ℕ, suc, ◌+◌, ◌*◌, ◌/◌, ◌%◌, ◌≤◌, ◌<◌}
use native.Mathlib.Omega.{arith}
use borrow.Author.Tests.{ltb-true, lt-ltb, le-ltb, leb-true, le-leb, eqb-true}
use lib.Dec.{ltb, eqb}
use lib.ListN.{length}
use Rattle.automaton.specs.Tests.{one_more_if, every}
use Rattle.automaton.specs.Bounds.{interval, upper_holds, lower_holds, upper_holds_nths, lower_holds_nths, if_present}
use Rattle.automaton.specs.Automaton.{Automaton, in_bounds, in_guards}
use Rattle.automaton.specs.Nodes.{Node, intervals, point, is_node}
use Rattle.automaton.specs.Runs.{within_bounds}
use Rattle.automaton.proofs.Tests.{clash, &&-left, &&-right, &&-intro}
use Rattle.automaton.proofs.Bounds.{upper_nths}
use Rattle.automaton.proofs.Nodes.{Proper, proper_of}
use Rattle.sheet.specs.Questions.{where_there}
use Rattle.schedules.specs.Closed.{upper_closed, lower_closed, is_closed}
use Rattle.schedules.specs.WalkTerms.{corner_state}
use Rattle.schedules.proofs.ClosedLaws.{closed_bound, closed_lower, closed_upper}

-- ---- one clock

module _ (i h k : ℕ) where
  -- a clock with whole part h and class k, at corner i
  value : ℕ
  value = one_more_if (ltb i k) h

  -- the value is an end of the interval
  value_near : (2 * value ≤ suc (interval h k)) × (interval h k ≤ suc (2 * value))
  unfolding value
  value_near = go (eqb k 0) (ltb i k) (λ e. le-ltb i k (omega (arith, eqb-true k 0 e)))
    where
      go : (a b : Bool) → (a ≡ true → b ≡ false)
          → (2 * one_more_if b h ≤ suc (one_more_if (not a) (2 * h))) × (one_more_if (not a) (2 * h) ≤ suc (2 * one_more_if b h))
      go true true p = clash refl (p refl)
      go true false p = omega arith
      go false true p = omega arith
      go false false p = omega arith

  upper_at : (u : ℕ) → upper_closed u ≡ true → upper_holds u (interval h k) ≡ true → upper_holds_nths 1 u value ≡ true
  upper_at u odd t = upper_nths 1 u value ∙ lt-ltb value (u / 2 * 1 + u % 2) (omega (arith, value_near, eqb-true (u % 2) 1 odd, ltb-true (interval h k) u t))

  lower_at : (l : ℕ) → lower_closed l ≡ true → lower_holds l (interval h k) ≡ true → lower_holds_nths 1 l value ≡ true
  lower_at l even t = rw even (le-leb (l / 2 * 1) value (omega (arith, value_near, eqb-true (l % 2) 0 even, leb-true l (interval h k) t)))

  present_at : (o : Option ℕ) → where_there upper_closed o ≡ true → if_present upper_holds o (interval h k) ≡ true → if_present (upper_holds_nths 1) o value ≡ true
  present_at none odd t = refl
  present_at (some u) odd t = upper_at u odd t

-- ---- all clocks

zip_every : (p q : ℕ → ℕ → Bool) (f g : ℕ → ℕ → ℕ) (hs ks : List ℕ)
    → ((j : ℕ) → j < length hs → (h k : ℕ) → p j (f h k) ≡ true → q j (g h k) ≡ true)
    → every p (zip_with f hs ks) ≡ true → every q (zip_with g hs ks) ≡ true
unfolding every zip_with
zip_every p q f g [] ks imp e = refl
zip_every p q f g (h ∷ hs) [] imp e = refl
zip_every p q f g (h ∷ hs) (k ∷ ks) imp e = &&-intro (imp 0 (omega arith) h k (&&-left (p 0 (f h k)) _ e))
    (zip_every (λ j. p (suc j)) (λ j. q (suc j)) f g hs ks (λ j l. imp (suc j) (omega arith)) (&&-right (p 0 (f h k)) _ e))

module _ (A : Automaton) (closed : is_closed A ≡ true) (u : Node) (node : is_node A u ≡ true) where
  h : Proper A u
  h = proper_of A u node

  -- a node keeps the bounds of its location at its corner
  pub corner_within : within_bounds A 1 (corner_state u) ≡ true
  unfolding in_bounds value
  corner_within = zip_every (λ j. upper_holds (A.bound u.location j)) (λ j. upper_holds_nths 1 (A.bound u.location j))
      interval (value u.corner) u.region.whole u.region.class
      (λ j l x k. upper_at u.corner x k (A.bound u.location j) (closed_bound A closed u.location j h.here (omega (arith, h.wholes))))
      h.bounded

  -- and the guards of an edge that hold in its region
  pub corner_guards : (e : ℕ) → e < A.edges → in_guards lower_holds upper_holds A e (intervals u.region) ≡ true
      → in_guards (lower_holds_nths 1) (upper_holds_nths 1) A e (point u) ≡ true
  unfolding in_guards value
  corner_guards e m = zip_every (λ j x. lower_holds (A.lower e j) x && if_present upper_holds (A.upper e j) x)
      (λ j x. lower_holds_nths 1 (A.lower e j) x && if_present (upper_holds_nths 1) (A.upper e j) x)
      interval (value u.corner) u.region.whole u.region.class
      (λ j l x k t. let near : j < A.clocks = omega (arith, h.wholes) in
      &&-intro (lower_at u.corner x k (A.lower e j) (closed_lower A closed e j m near) (&&-left (lower_holds (A.lower e j) (interval x k)) _ t))
      (present_at u.corner x k (A.upper e j) (closed_upper A closed e j m near) (&&-right (lower_holds (A.lower e j) (interval x k)) _ t)))
