-- A turn as the code takes it: the records that it reads are the sheet's, and what it writes is an arc.
use mathlib.Core.Path.{◌≡◌, refl, sym, ap, subst, ◌∙◌}
use mathlib.Core.List.{List}
use Prim.Native.Nat.{ℕ, ◌*◌, ◌/◌, ◌%◌, ◌<◌}
use native.Mathlib.Omega.{arith}
use lib.ListN.{length, get_or}
use Rattle.std.specs.Prelude.{Option}
use Rattle.sheet.specs.declared.Edge.{Edge}
use Rattle.sheet.specs.declared.Location.{Location}
use Rattle.sheet.specs.declared.Sheet.{Sheet}
use Rattle.sheet.specs.Decoded.{blank_edge, blank_location}
use Rattle.nodes.specs.Decoded.{location_in, edge_in}
use Rattle.region.specs.Answers.{stepped_of}
use Rattle.region.specs.declared.Step.{Step}
use Rattle.integers.proofs.Lists.{any_default}
use Rattle.walks.specs.Walk.{at}
use Rattle.stepper.specs.Records.{location_needed, step_by_records}
use Rattle.stepper.proofs.RecordLaws.{answered_by}
use Rattle.contract.specs.Explored.{step_read, start_read}
use Rattle.explore.specs.Buffers.{GraphBuffers, HasRoom}
use Rattle.explore.proofs.CountLaws.{Counts, counts, edge_place}
use Rattle.explore.proofs.SearchLaws.{Searched, seeded}
use Rattle.explore.proofs.EnterLaws.{Taken}

module _ (sheet : Sheet) {edges : List Edge} (copied : (edges ≡ sheet.edge) × (length edges ≡ 32)) where
  pub record_is : (t : ℕ) (d : Edge) → t % 34 < 32 → get_or edges (t % 34 % 32) d ≡ edge_in sheet (t % 34)
  record_is t d low =
      let k = t % 34 in
      let e : k % 32 ≡ k = omega arith in
      any_default edges (k % 32) d blank_edge (subst (λ (n : ℕ). k % 32 < n) (sym copied.1) (edge_place t))
      ∙ ap (λ (es : List Edge). get_or es (k % 32) blank_edge) copied.0 ∙ ap (edge_in sheet) e

  module _ (locations : List Location) (room : length locations ≡ 256)
      (all : (l : ℕ) → l < 256 → get_or locations l blank_location ≡ get_or sheet.location l blank_location) where
    pub taken : {b₀ b : GraphBuffers} {n m t l : ℕ} {o : Option Step} (de : Edge) (dl : Location)
        → Searched (step_read sheet) (start_read sheet) (seeded b₀) b n m t → HasRoom b → t < 34 * n
        → l ≡ location_needed (at b.node (t / 34)) sheet.edition (t % 34) (get_or edges (t % 34 % 32) de).target → l < 256
        → stepped_of o ≡ step_by_records (at b.node (t / 34)) (t % 34) sheet.edition sheet.clocks sheet.edges (get_or edges (t % 34 % 32) de) (get_or locations l dl)
        → Taken (step_read sheet) (start_read sheet) b₀ b n m (t / 34) (t % 34) t o
    taken {b₀} {b} {n} {m} {t} {l} {o} de dl searched long left needed small e =
        let k : Counts n t = counts n t left in
        let inside = subst (λ (i : ℕ). l < i) (sym room) small in
        record {
          searched = searched;
          long = long;
          node = k.node;
          code = k.code;
          turn = k.turn;
          left = left;
          told = answered_by sheet _ (t % 34) _ _ _ _ _ (stepped_of o) e (record {
            edition_is = refl;
            clocks_are = refl;
            edges_are = refl;
            edge_is = record_is t de;
            location_is = any_default locations l dl blank_location inside ∙ all l small ∙ ap (location_in sheet) needed;
          });
        }
