-- The number is there, or there is no room, or it is put in.
use mathlib.Core.Path.{◌≡◌, sym, subst}
use mathlib.Core.List.{List}
use Prim.Native.Nat.{ℕ, ◌≤◌, ◌<◌}
use native.Mathlib.Omega.{arith}
use lib.ListN.{length}
use Rattle.walks.specs.Walk.{at}
use Rattle.rising.specs.Place.{Rising, Place, place_in}
use Rattle.rising.proofs.PlaceLaws.{placed}
use Rattle.explore.proofs.IndexLaws.{stood, filled, joins}
use Rattle.explore.proofs.index.NodeLists.enter.Goals as goal
use Rattle.explore.proofs.index.NodeLists.enter.Goals.{else-p-n-via-then-p-n+else-self-p, else-p-n-via-else-p-n}

-- the place where y belongs
place : {sorted : List ℕ} {n y p : ℕ} → p ≡ place_in sorted n y → Rising sorted n → n ≤ length sorted → Place sorted n y p
place {sorted} {n} {y} {p} e rising room = subst (Place sorted n y) (sym e) (placed sorted n y rising room)

pub returns-then-self-p-clause-entered : goal.returns-then-self-p-clause-entered
returns-then-self-p-clause-entered c =
    stood _ _ _ _ _ _ _ _ c.requires.index
    (place c.place-p.ensures c.requires.index.rising (omega arith)) c.if-p-n.true c.if-self-p.true c.from.ensures

pub returns-then-n-eq2048-clause-entered : goal.returns-then-n-eq2048-clause-entered
returns-then-n-eq2048-clause-entered c =
    let missing : c.place-p.result < c.args.n → at c.args.self.now.sorted.now c.place-p.result ≡ c.args.y → ⊥ =
    λ h e. elim c.else-p-n.branch [ else-p-n-via-then-p-n+else-self-p w ↦ w.if-self-p.false e | else-p-n-via-else-p-n w ↦ omega arith ] in
    filled _ _ _ c.args.self.now.tree.now _ _ c.args.m _ c.requires.index
    (place c.place-p.ensures c.requires.index.rising (omega arith)) missing c.if-n-eq2048.true

pub insert-requires-clause-place_in : goal.insert-requires-clause-place_in
insert-requires-clause-place_in c = (place c.place-p.ensures c.requires.index.rising (omega arith)).within

pub insert-requires-2-clause-place_in : goal.insert-requires-2-clause-place_in
insert-requires-2-clause-place_in c = (place c.place-p.ensures c.requires.index.rising (omega arith)).within

pub returns-clause-entered : goal.returns-clause-entered
returns-clause-entered c =
    let missing : c.place-p.result < c.args.n → at c.args.self.now.sorted.now c.place-p.result ≡ c.args.y → ⊥ =
    λ h e. elim c.else-p-n.branch [ else-p-n-via-then-p-n+else-self-p w ↦ w.if-self-p.false e | else-p-n-via-else-p-n w ↦ omega arith ] in
    joins _ _ _ _ _ _ _ _ c.requires.index
    (place c.place-p.ensures c.requires.index.rising (omega arith)) _ _ missing
    (omega arith) c.requires.room.numbers c.insert.ensures c.insert-2.ensures
