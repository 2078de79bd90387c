-- Exploring by the decoded sheet is exploring by the bytes: the two step alike at every reachable node.
use mathlib.Core.Path.{◌≡◌, refl, sym, ap, ap₂, ◌∙◌, subst}
use mathlib.Core.Bool.{true}
use mathlib.Core.List.{List}
use mathlib.Core.Option.{Option, none, some, map}
use Prim.Native.Nat.{ℕ}
use lib.ListN.{replicate}
use Rattle.automaton.specs.Priced.{Priced}
use Rattle.automaton.specs.Nodes.{start_node}
use Rattle.automaton.specs.Walks.{Reachable}
use Rattle.automaton.proofs.Reached.{start_is_node}
use Rattle.sheet.specs.Questions.{check_of}
use Rattle.sheet.specs.Decoded.{read_of}
use Rattle.nodes.specs.Numbers.{Layout, number, is_number, step_by}
use Rattle.nodes.specs.Meaning.{meaning, layout_of}
use Rattle.nodes.specs.Decoded.{decoded_meaning}
use Rattle.nodes.proofs.Carried.{named, Source, reach_back}
use Rattle.nodes.proofs.NumberLaws.{node_there, number_there, step_to_number}
use Rattle.nodes.proofs.CheckedLaws.{sound, room}
use Rattle.nodes.proofs.AgreeLaws.{number_steps_agree}
use Rattle.nodes.proofs.DecodedLaws.{read_agrees, read_layout}
use Rattle.walks.specs.Walk.{at}
use Rattle.contract.specs.Plan.{step_on, start_of}
use Rattle.contract.specs.Explored.{Found, Explored, Overfull, step_read, start_read}

same_name : (o : Option (Priced ℕ)) → o ≡ map (named (λ x. x)) o
same_name none = refl
same_name (some v) = refl

-- f and h step alike where P holds, and f keeps to such nodes
module _ (f h : ℕ → ℕ → Option (Priced ℕ)) (start : ℕ) (P : ℕ → Type 0) (begins : P start)
    (keeps : (x code : ℕ) (v : Priced ℕ) → f x code ≡ some v → P x → P v.to) (alike : (x code : ℕ) → P x → f x code ≡ h x code) where
  source : {z : ℕ} → Reachable h start z → Source f (λ x. x) P start z
  source = reach_back f h (λ x. x) P keeps (λ x code k. sym (alike x code k) ∙ same_name (f x code)) start begins

  reach_alike : {z : ℕ} → Reachable h start z → Reachable f start z
  reach_alike r = let s = source r in subst (Reachable f start) s.is s.reach

  step_alike : {z : ℕ} → Reachable h start z → (code : ℕ) → f z code ≡ h z code
  step_alike {z} r code = let s = source r in alike z code (subst P s.is s.holds)

  explored_alike : {g : Found} → Explored h start g → Explored f start g
  explored_alike {g} x = record {
    some_node = x.some_node;
    first = x.first;
    few = x.few;
    distinct = x.distinct;
    reachable = λ a l. reach_alike (x.reachable a l);
    source = x.source;
    target = x.target;
    sound = λ e l. step_alike (x.reachable (at g.from e) (x.source e l)) (at g.code e) ∙ x.sound e l;
    complete = λ a code v l e. x.complete a code v l (sym (step_alike (x.reachable a l) code) ∙ e);
  }

  overfull_alike : {node : List ℕ} → Overfull h start node → Overfull f start node
  overfull_alike o = record {
    distinct = o.distinct;
    reachable = λ a l. reach_alike (o.reachable a l);
    extra = o.extra;
    fresh = o.fresh;
    extra_reachable = reach_alike o.extra_reachable;
  }

module _ (bytes : List ℕ) (ok : check_of bytes ≡ 0) where
  same_start : start_read (read_of bytes) ≡ start_of bytes
  unfolding start_node
  same_start = ap₂ (λ (y : Layout) (k : ℕ). number y (record { location = 0; region = record { whole = replicate k 0; class = replicate k 0 }; corner = 0 }))
      (read_layout bytes ok) (sym (read_agrees bytes ok).clocks)

  abbrev IsNumber : ℕ → Type 0
  IsNumber x = is_number (layout_of bytes) (meaning bytes) x ≡ true

  begins : IsNumber (start_of bytes)
  begins = number_there (layout_of bytes) (meaning bytes) (room bytes ok) (start_node (meaning bytes)) (start_is_node (meaning bytes) (sound bytes ok))

  keeps : (x code : ℕ) (v : Priced ℕ) → step_on bytes x code ≡ some v → IsNumber x → IsNumber v.to
  keeps = step_to_number (layout_of bytes) (meaning bytes) (room bytes ok) (sound bytes ok)

  alike : (x code : ℕ) → IsNumber x → step_on bytes x code ≡ step_read (read_of bytes) x code
  alike x code h = number_steps_agree (layout_of bytes) (meaning bytes) (decoded_meaning (read_of bytes)) (read_agrees bytes ok) (sound bytes ok) x code
      (node_there (layout_of bytes) (meaning bytes) (room bytes ok) x h)
      ∙ ap (λ (y : Layout). step_by y (decoded_meaning (read_of bytes)) x code) (sym (read_layout bytes ok))

  pub explored_read : {g : Found} → Explored (step_read (read_of bytes)) (start_read (read_of bytes)) g → Explored (step_on bytes) (start_of bytes) g
  explored_read {g} x = explored_alike (step_on bytes) (step_read (read_of bytes)) (start_of bytes) IsNumber begins keeps alike
      (subst (λ (s : ℕ). Explored (step_read (read_of bytes)) s g) same_start x)

  pub overfull_read : {node : List ℕ} → Overfull (step_read (read_of bytes)) (start_read (read_of bytes)) node
      → Overfull (step_on bytes) (start_of bytes) node
  overfull_read {node} o = overfull_alike (step_on bytes) (step_read (read_of bytes)) (start_of bytes) IsNumber begins keeps alike
      (subst (λ (s : ℕ). Overfull (step_read (read_of bytes)) s node) same_start o)
