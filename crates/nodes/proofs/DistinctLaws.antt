-- Question 17: no edge of a sheet is there twice.
use mathlib.Core.Path.{◌≡◌, refl, sym, ap, ◌∙◌}
use mathlib.Core.Logic.{◌≢◌}
use mathlib.Core.Bool.{Bool, true, false, not}
use mathlib.Core.List.{List}
use Prim.Native.Nat.{ℕ, suc, ◌<◌}
use native.Mathlib.Omega.{arith}
use borrow.Author.Tests.{not-false}
use Rattle.sheet.specs.Records.{record_at, location_at, edge_at, locations_in, clocks_in, edges_in}
use Rattle.sheet.specs.Questions.{ask, each, edge_refusal, same_record, distinct_refusal, check_of}
use Rattle.sheet.specs.Decoded.{edge_of, read_of}
use Rattle.sheet.specs.declared.fields.Kind.TheVariants.{EdgeRecord}
use Rattle.sheet.specs.declared.Sheet.{Sheet}
use Rattle.sheet.proofs.PairLaws.{begins, differs, is_new, twice}
use Rattle.sheet.proofs.AcceptedLaws.{header}
use Rattle.nodes.specs.Decoded.{edge_in}
use Rattle.nodes.specs.SameEdges.{OfBytes, SameEdges}
use Rattle.nodes.proofs.QuestionLaws.{each_not}
use Rattle.nodes.proofs.CheckNumberLaws.{asked_17}
use Rattle.nodes.proofs.CheckedLaws.{parts}
use Rattle.nodes.proofs.DecodedLaws.{read_passed, edge_there}
use Rattle.nodes.proofs.SameEdgeLaws.{same_edge, same_bytes}

answered_no : (n : ℕ) (t : Bool) → ask (suc n) t 0 ≡ suc n → t ≡ false
answered_no n true h = absurd (omega arith)
answered_no n false h = refl

module _ (e : ℕ) (s : List ℕ) (from : ℕ) where
  -- records that are refused have an edge twice
  pub same_edges : distinct_refusal e s from ≡ 17 → SameEdges e s from
  unfolding distinct_refusal
  same_edges h =
      let (j, below, among) = each_not e (is_new s from) (answered_no 16 (each e (is_new s from)) h) in
      let (i, before, found) = each_not j (differs s from j) among in
      let same = same_edge s (begins s from i) (begins s from j) (not-false (same_record s (begins s from i) (begins s from j)) found) in
      record { first = i; second = j; before = before; below = below; same = same }

  -- and those that have one are refused, where each passes its own questions
  pub edges_refused : OfBytes s → (k l : ℕ) → ((i : ℕ) → i < e → edge_refusal k l s (record_at EdgeRecord s from i) ≡ 0) → SameEdges e s from
      → distinct_refusal e s from ≡ 17
  edges_refused ok k l passed w = sym (twice e s from w.first w.second w.before w.below
      (ap not (same_bytes s ok k l (begins s from w.first) (begins s from w.second) (passed w.first (omega arith)) (passed w.second w.below) w.same)))

-- a sheet that is refused with 17 has an edge twice
pub refused_for_it : (s : List ℕ) → check_of s ≡ 17 → SameEdges (edges_in s) s (location_at s (locations_in s))
refused_for_it s h = same_edges (edges_in s) s (location_at s (locations_in s)) (asked_17 s h)

-- a sheet that passes the check has no edge twice
pub edges_differ : (s : List ℕ) → OfBytes s → check_of s ≡ 0 → (i j : ℕ) → i < j → j < edges_in s → edge_in (read_of s) i ≢ edge_in (read_of s) j
edges_differ s ok passes i j h l e =
    let all = parts s (header s passes).records in
    let refused = edges_refused (edges_in s) s (location_at s (locations_in s)) ok (clocks_in s) (locations_in s) all.edges
    (record { first = i; second = j; before = h; below = l; same = sym (read i (omega arith)) ∙ e ∙ read j l }) in
    omega (arith, all.distinct)
  where
    read : (e : ℕ) → e < edges_in s → edge_in (read_of s) e ≡ edge_of s (edge_at s e)
    read e h = ap (λ (d : Sheet). edge_in d e) (read_passed s passes) ∙ edge_there s passes e h
