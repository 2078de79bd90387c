-- The way out where the sheet is accepted: what was found and written is the contract.
use mathlib.Core.Path.{◌≡◌, sym, ap, ◌∙◌, subst}
use mathlib.Core.List.{List}
use Prim.Native.Nat.{ℕ, ◌+◌, ◌≤◌, ◌<◌}
use native.Mathlib.Omega.{arith}
use lib.IntN.{ℤ, pos}
use lib.ListN.{length, take}
use lib.Seq.{slice}
use Rattle.walks.specs.Walk.{at, atℤ}
use Rattle.lasso.specs.Answer.{LaidOut}
use Rattle.contract.specs.Plan.{Buffers, SameLengths, Planned, Answer}
use Rattle.contract.specs.Explored.{Found, Sorted}
use Rattle.contract.proofs.Checklist.{InHand}
use Rattle.contract.proofs.Arcs.{units_over, cost_of, reward_of}
use Rattle.contract.proofs.Exits.{accepted}
use Rattle.planner.specs.ContractTerms as ContractTerms
use Rattle.planner.specs.PrivatePromises.{Cyclic, Solved, SumsOf, graph_of}
use Rattle.planner.specs.declared.sums.Sums.{Sums}
use Rattle.planner.proofs.LassoLaws as Laid

-- what stands in the buffers: the potentials in the order of output, the codes of the arcs, the nodes as they were, and zeros behind them
pub record Written (D : List ℤ) (order C arcs : List ℕ) (n all : ℕ) (lent after : Buffers) : Type 0 where
  pub potentials : (i : ℕ) → i < n → atℤ after.potentials i ≡ atℤ D (at order i)
  pub potentials_rest : (i : ℕ) → n ≤ i → i < length after.potentials → atℤ after.potentials i ≡ pos 0
  pub codes : (i : ℕ) → i < all → at after.steps i ≡ at C (at arcs i)
  pub steps_rest : (i : ℕ) → all ≤ i → i < length after.steps → at after.steps i ≡ 0
  pub nodes : (i : ℕ) → i < n → at after.nodes i ≡ at lent.nodes i
  pub nodes_rest : (i : ℕ) → n ≤ i → i < length after.nodes → at after.nodes i ≡ 0
  pub lengths : SameLengths after lent

module _ {F T C : List ℕ} {Z : List ℤ} {R order tree cycle : List ℕ} {D : List ℤ} {n k s : ℕ} {p : ℤ} {q : ℕ} {arcs arcs' : List ℕ} {lent after : Buffers}
    (c : Cyclic F T C Z R order tree cycle n k) (sized : length arcs' ≡ 4096) (laid : LaidOut F T tree cycle n k s arcs arcs')
    (w : Written D order C arcs' n (s + k) lent after) (o : Solved F T C Z R order D cycle n k p q lent) where
  abbrev g : Found
  g = graph_of o.of_sheet.node F T C Z R n

  abbrev stem : List ℕ
  stem = take s arcs'

  abbrev turned : List ℕ
  turned = slice s (s + k) arcs'

  stem_sized : length stem ≡ s
  stem_sized = Laid.stem_sized c sized laid

  turned_sized : length turned ≡ k
  turned_sized = Laid.turned_sized c sized laid

  -- the nodes stay in front
  sorted : Sorted g order after.nodes
  sorted = let r = o.of_sheet.sorted in record {
    below = r.below;
    is = λ i h. w.nodes i h ∙ r.is i h;
    rising = λ i j h l. omega (arith, r.rising i j h l, w.nodes i (omega arith), w.nodes j l);
  }

  hand : InHand o.of_sheet.bytes o.of_sheet.before after g p q D order stem turned
  hand = record {
    long = o.of_sheet.long;
    checked = o.of_sheet.checked;
    explored = o.of_sheet.explored;
    earns = rw (Laid.turned_reward c sized laid g) o.least.earns;
    potentials = o.least.potentials;
    lowest = o.least.ratio.lowest;
    exact = rw (Laid.turned_cost c sized laid g, Laid.turned_reward c sized laid g) o.least.ratio.exact;
    lasso = Laid.is_lasso_lem c sized laid;
    sorted = sorted;
    nodes_rest = w.nodes_rest;
    permuted = w.potentials;
    potentials_rest = w.potentials_rest;
    codes = λ i h. (let l : i < s + k = omega (arith, stem_sized, turned_sized) in w.codes i l ∙ ap (at C) (sym (Laid.joined_at c sized laid i l)));
    steps_rest = λ i h. w.steps_rest i (omega (arith, stem_sized, turned_sized));
    lengths = record {
      nodes = w.lengths.nodes ∙ o.of_sheet.lengths.nodes;
      potentials = w.lengths.potentials ∙ o.of_sheet.lengths.potentials;
      steps = w.lengths.steps ∙ o.of_sheet.lengths.steps;
    };
  }

  -- with the numerator as it is read back, and the sums of the cycle
  pub accepted_planned : {a : Answer} {z : ℤ} {sums : Sums} → z ≡ p → SumsOf C Z R turned sums
      → a ≡ ContractTerms.accepted z q n s k sums.units sums.cost sums.reward → Planned o.of_sheet.bytes o.of_sheet.before after a
  accepted_planned {a} {z} {sums} same summed e = subst (Planned o.of_sheet.bytes o.of_sheet.before after)
      ((λ i. ContractTerms.accepted (sym same i) q n (stem_sized i) (turned_sized i) (sym units i) (sym cost i) (sym reward i)) ∙ sym e)
      (accepted o.of_sheet.bytes o.of_sheet.before after g p q D order stem turned hand)
    where
      units : sums.units ≡ units_over g turned
      units = summed.units

      cost : sums.cost ≡ cost_of g turned
      cost = summed.cost

      reward : sums.reward ≡ reward_of g turned
      reward = summed.reward
