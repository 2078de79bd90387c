-- A step by records: its three cases, and that it is the sheet's own step where the records are the sheet's.
use mathlib.Core.Path.{◌≡◌, refl, sym, ap, ap₂, ◌∙◌}
use mathlib.Core.Bool.{Bool, true, false, cond, ◌&&◌, not}
use mathlib.Core.Option.{Option, none, some}
use Prim.Native.Nat.{ℕ, ◌≤◌, ◌<◌}
use native.Mathlib.Omega.{arith}
use native.Mathlib.Decide.{dec_lt}
use borrow.Author.Tests.{le-leb, lt-leb, lt-ltb, le-ltb, ne_eqb, leb-true, not-true}
use lib.Dec.{leb, eqb}
use Rattle.automaton.specs.Priced.{Priced}
use Rattle.automaton.specs.Steps.{step, edge_step}
use Rattle.automaton.proofs.Tests.{&&-left, &&-right}
use Rattle.automaton.proofs.Times.{edge_units}
use Rattle.sheet.specs.Decoded.{blank_edge}
use Rattle.sheet.specs.declared.Edge.{Edge}
use Rattle.sheet.specs.declared.Location.{Location}
use Rattle.sheet.specs.declared.Sheet.{Sheet}
use Rattle.nodes.specs.Numbers.{layout_at, node_of, step_by}
use Rattle.nodes.specs.Decoded.{layout_in, location_in, edge_in, decoded_meaning, alone}
use Rattle.nodes.proofs.DecodedLaws.{edge_alone_number, delay_alone_number}
use Rattle.region.specs.Answers.{Stepped, refused_step, answered}
use Rattle.stepper.specs.Records.{location_told, leaves_elsewhere, location_needed, step_by_records, RecordsOf}

-- no edge takes time, so all are answered alike
no_time : (o : Option (Priced ℕ)) (e : ℕ) → e ≤ 31 → answered 0 o ≡ answered e o
no_time none e h = refl
no_time (some v) e h = ap (λ (n : ℕ). record { refusal = 0; number = v.to; cost = v.cost; reward = v.reward; units = n }) (sym (edge_units e h))

-- ---- the cases
module _ (number code edition clocks edges : ℕ) (edge : Edge) (location : Location) where
  abbrev Is : Stepped → Type 0
  Is v = v ≡ step_by_records number code edition clocks edges edge location

  pub no_edge : code ≤ 31 → edges ≤ code → Is (refused_step 16)
  unfolding step_by_records
  no_edge h l = sym (simp (le-leb code 31 h, le-ltb code edges l))

  pub by_edge : code ≤ 31 → code < edges → Is (answered code (step_by (layout_at edition) (alone edition clocks edge location) number 0))
  unfolding step_by_records
  by_edge h l = sym (simp (le-leb code 31 h, lt-ltb code edges l))

  pub by_delay : 31 < code → Is (answered code (step_by (layout_at edition) (alone edition clocks blank_edge location) number code))
  unfolding step_by_records
  by_delay h = sym (simp (lt-leb code 31 h))

  -- what an edge answered, what one of the two delays did, and a code of no step
  pub edge_answered : (r : Stepped) → r ≡ answered 0 (step_by (layout_at edition) (alone edition clocks edge location) number 0) → code ≤ 31 → code < edges → Is r
  edge_answered r e h l = e ∙ no_time (step_by (layout_at edition) (alone edition clocks edge location) number 0) code h ∙ by_edge h l

  pub delay_answered : (r : Stepped) (c : ℕ) → r ≡ answered c (step_by (layout_at edition) (alone edition clocks blank_edge location) number c) → code ≡ c → 31 < c → Is r
  delay_answered r c p e h = p ∙ ap (λ (c : ℕ). answered c (step_by (layout_at edition) (alone edition clocks blank_edge location) number c)) (sym e) ∙ by_delay (omega arith)

  pub no_code : 31 < code → (code ≡ 32 → ⊥) → (code ≡ 33 → ⊥) → Is (refused_step 16)
  unfolding step_by_records step_by step
  no_code h m n = sym (simp (lt-leb code 31 h, ne_eqb code 32 m, ne_eqb code 33 n))

-- ---- an edge of another location: docs/PORT.md names these; no proof cites them
module _ (number edition code source : ℕ) where
  pub told_elsewhere : (l : ℕ) → code < 32 → l ≡ location_told number edition → not (eqb source l) ≡ leaves_elsewhere number edition code source
  told_elsewhere l h e = ap (λ (l : ℕ). not (eqb source l)) e
      ∙ sym (ap (λ (b : Bool). b && not (eqb source (location_told number edition))) (le-leb code 31 (omega arith)))

  pub delays_stay : 31 < code → false ≡ leaves_elsewhere number edition code source
  delays_stay h = sym (ap (λ (b : Bool). b && not (eqb source (location_told number edition))) (lt-leb code 31 h))

-- ---- the location that is needed
pub needed_by_edge : (number edition code target : ℕ) → code ≤ 31 → location_needed number edition code target ≡ target
needed_by_edge number edition code target h = ap (λ (b : Bool). cond b target (location_told number edition)) (le-leb code 31 h)

pub needed_by_delay : (number edition code target : ℕ) → 31 < code → location_needed number edition code target ≡ location_told number edition
needed_by_delay number edition code target h = ap (λ (b : Bool). cond b target (location_told number edition)) (lt-leb code 31 h)

-- ---- of a sheet
module _ (s : Sheet) (number code edition clocks edges : ℕ) (edge : Edge) (location : Location)
    (r : RecordsOf s number code edition clocks edges edge location) where
  abbrev own : Option (Priced ℕ)
  own = step_by (layout_in s) (decoded_meaning s) number code

  none_there : code ≤ 31 → s.edges ≤ code → refused_step 16 ≡ answered code own
  unfolding step_by step edge_step decoded_meaning
  none_there h l = sym (simp (le-leb code 31 h, le-ltb code s.edges l))

  edge_there : code ≤ 31 → code < s.edges → step_by (layout_at edition) (alone edition clocks edge location) number 0 ≡ own
  edge_there h l = ap₂ (λ (e n : ℕ). step_by (layout_at e) (alone e n edge location) number 0) r.edition_is r.clocks_are
      ∙ ap₂ (λ (w : Edge) (l : Location). step_by (layout_in s) (alone s.edition s.clocks w l) number 0) (r.edge_is (omega arith))
      (r.location_is ∙ ap (location_in s) (needed_by_edge number edition code edge.target h) ∙ ap (λ (w : Edge). location_in s w.target) (r.edge_is (omega arith)))
      ∙ sym (edge_alone_number (layout_in s) s number code h l)

  delay_there : 31 < code → step_by (layout_at edition) (alone edition clocks blank_edge location) number code ≡ own
  unfolding node_of
  delay_there h = ap₂ (λ (e n : ℕ). step_by (layout_at e) (alone e n blank_edge location) number code) r.edition_is r.clocks_are
      ∙ ap (λ (l : Location). step_by (layout_in s) (alone s.edition s.clocks blank_edge l) number code)
      (r.location_is ∙ ap (location_in s) (needed_by_delay number edition code edge.target h ∙ ap (location_told number) r.edition_is))
      ∙ sym (delay_alone_number (layout_in s) s number blank_edge code h)

  pub by_records : step_by_records number code edition clocks edges edge location ≡ answered code own
  by_records = elim (dec_lt code 32) [
    | yes h ↦ elim (dec_lt code edges) [
      | yes l ↦ sym (by_edge number code edition clocks edges edge location (omega arith) l)
          ∙ ap (answered code) (edge_there (omega arith) (omega (arith, r.edges_are)))
      | no l ↦ sym (no_edge number code edition clocks edges edge location (omega arith) (omega arith))
          ∙ none_there (omega arith) (omega (arith, r.edges_are))
    ]
    | no h ↦ sym (by_delay number code edition clocks edges edge location (omega arith)) ∙ ap (answered code) (delay_there (omega arith))
  ]

pub answered_by : (s : Sheet) (number code edition clocks edges : ℕ) (edge : Edge) (location : Location) (v : Stepped)
    → v ≡ step_by_records number code edition clocks edges edge location → RecordsOf s number code edition clocks edges edge location
    → v ≡ answered code (step_by (layout_in s) (decoded_meaning s) number code)
answered_by s number code edition clocks edges edge location v e r = e ∙ by_records s number code edition clocks edges edge location r

-- ---- an edge of another location is no step
both_false : (b c : Bool) → b && (false && c) ≡ false
both_false true c = refl
both_false false c = refl

pub not_here : (s : Sheet) (number code source : ℕ) → (code < 32 → source ≡ (edge_in s code).source) → leaves_elsewhere number s.edition code source ≡ true
    → step_by (layout_in s) (decoded_meaning s) number code ≡ none
unfolding step_by step edge_step decoded_meaning node_of
not_here s number code source q e =
    let h : code ≤ 31 = leb-true code 31 (&&-left (leb code 31) _ e) in
    let n : eqb source (location_told number s.edition) ≡ false = not-true _ (&&-right (leb code 31) _ e) in
    let m : eqb (edge_in s code).source (location_told number s.edition) ≡ false
    = ap (λ (v : ℕ). eqb v (location_told number s.edition)) (sym (q (omega arith))) ∙ n in
    simp (le-leb code 31 h, m, both_false)
