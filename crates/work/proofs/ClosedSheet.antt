-- A sheet that passes the check: its counts, and its bounds and guards as they are tested.
use mathlib.Core.Path.{◌≡◌, refl, sym, ap, ap₂, ◌∙◌, subst}
use mathlib.Core.Bool.{Bool, ◌&&◌, not}
use mathlib.Core.List.{List}
use Prim.Native.Nat.{ℕ, ◌≤◌, ◌<◌}
use native.Mathlib.Omega.{arith}
use borrow.Author.Tests.{eqb-true}
use lib.Dec.{eqb}
use lib.ListN.{length, get_or, take}
use Rattle.std.specs.Prelude.{min}
use Rattle.automaton.specs.Tests.{only}
use Rattle.automaton.proofs.Tests.{by_bool}
use Rattle.sheet.specs.Questions.{where_there, check_of}
use Rattle.sheet.specs.Decoded.{read_of, blank_location, blank_edge}
use Rattle.sheet.specs.declared.Edge.{Edge}
use Rattle.sheet.specs.declared.Location.{Location}
use Rattle.sheet.specs.declared.Sheet.{Sheet}
use Rattle.sheet.proofs.FieldLaws.{edition_clocks}
use Rattle.sheet.proofs.AcceptedLaws.{header}
use Rattle.nodes.specs.Meaning.{meaning}
use Rattle.nodes.specs.Decoded.{few_clocks, guard_of, edge_in, decoded_meaning}
use Rattle.nodes.proofs.DecodedLaws.{read_passed, read_agrees}
use Rattle.explore.specs.Explorable.{CountsInRange}
use Rattle.schedules.specs.Closed.{upper_closed, bounds_closed, guards_closed, is_closed}
use Rattle.schedules.proofs.ClosedLaws.{each_same, closed_agrees}
use Rattle.work.specs.PrivatePromises.{all_of_parity, bounds_odd, guards_even_odd}
use Rattle.work.proofs.EachLaws.{each_first}

-- an absent upper guard is 255, which is odd
guard_closed : (u : ℕ) → where_there upper_closed (guard_of u) ≡ upper_closed u
guard_closed u = by_bool (eqb u 255)
    (λ e. ap (λ (b : Bool). where_there upper_closed (only (not b) u)) e ∙ sym (ap upper_closed (eqb-true u 255 e)))
    (λ e. ap (λ (b : Bool). where_there upper_closed (only (not b) u)) e)

module _ (s : Sheet) (fit : CountsInRange s.edition s.locations s.clocks s.edges) where
  clocks_are : few_clocks s.edition s.clocks ≡ min s.clocks 4
  clocks_are = omega (arith, fit.clocks_in, edition_clocks s.edition)

  -- docs/PORT.md names this; no proof cites it
  pub few_clocks_lem : s.clocks ≤ 4
  few_clocks_lem = omega (arith, fit.clocks_in, edition_clocks s.edition)

  pub bounds_are : {n k : ℕ} → length s.location ≡ 12 → n ≡ s.locations → k ≡ s.clocks
      → bounds_closed (decoded_meaning s) ≡ bounds_odd (take n s.location) k
  unfolding bounds_closed decoded_meaning
  bounds_are long is_n is_k = each_same s.locations s.locations _ _ refl (λ l h. each_same (few_clocks s.edition s.clocks) (min s.clocks 4) _ _ clocks_are (λ j k. refl))
      ∙ sym (each_first (λ (l : Location). all_of_parity l.upper s.clocks 1) s.location blank_location s.locations (omega (arith, fit.locations_in, long)))
      ∙ sym (ap₂ (λ (n k : ℕ). bounds_odd (take n s.location) k) is_n is_k)

  pub guards_are : {n k : ℕ} → length s.edge ≡ 32 → n ≡ s.edges → k ≡ s.clocks
      → guards_closed (decoded_meaning s) ≡ guards_even_odd (take n s.edge) k
  unfolding guards_closed decoded_meaning
  guards_are long is_n is_k = each_same s.edges s.edges _ _ refl (λ e h. ap₂ ◌&&◌
      (each_same (few_clocks s.edition s.clocks) (min s.clocks 4) _ _ clocks_are (λ j k. refl))
      (each_same (few_clocks s.edition s.clocks) (min s.clocks 4) _ _ clocks_are (λ j k. guard_closed (get_or (edge_in s e).upper j 0))))
      ∙ sym (each_first (λ (e : Edge). all_of_parity e.lower s.clocks 0 && all_of_parity e.upper s.clocks 1) s.edge blank_edge s.edges (omega (arith, fit.edges_in, long)))
      ∙ sym (ap₂ (λ (n k : ℕ). guards_even_odd (take n s.edge) k) is_n is_k)

module _ (bytes : List ℕ) (ok : check_of bytes ≡ 0) where
  pub some_clock : 0 < (meaning bytes).clocks
  unfolding meaning
  some_clock = (header bytes ok).clocks.0

  pub counts_in_range : let s = read_of bytes in CountsInRange s.edition s.locations s.clocks s.edges
  counts_in_range = subst (λ (s : Sheet). CountsInRange s.edition s.locations s.clocks s.edges) (sym (read_passed bytes ok))
      (let h = header bytes ok in record { locations_in = h.locations; clocks_in = h.clocks; edges_in = h.edges })

  -- what is tested of the decoded sheet is so of the bytes
  pub read_closed : is_closed (decoded_meaning (read_of bytes)) ≡ is_closed (meaning bytes)
  read_closed = sym (closed_agrees (meaning bytes) (decoded_meaning (read_of bytes)) (read_agrees bytes ok))
