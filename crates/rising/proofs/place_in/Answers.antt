-- What halving comes to from here is the place.
use mathlib.Core.Path.{◌≡◌}
use Prim.Native.Nat.{◌+◌}
use native.Mathlib.Omega.{arith}
use Rattle.rising.specs.Place.{place_in}
use Rattle.rising.proofs.TurnLaws.{begun, halved, none_left, one_left}
use Rattle.rising.proofs.place_in.Goals as goal

pub loop-size-init : goal.loop-size-init
loop-size-init c =
    begun _ _ _ _ c.min-size.ensures

pub loop-size-preserved : goal.loop-size-preserved
loop-size-preserved c =
    halved _ _ _ _ _ _ c.loop-size-test.true c.if_below-low.ensures c.loop-size.invariant

pub returns-then-size-eq0 : goal.returns-then-size-eq0
returns-then-size-eq0 c =
    none_left _ _ _ _ _ c.if-size-eq0.true c.loop-size.invariant

pub returns : goal.returns
returns c =
    let found : let a = c.args in c.loop-size.low + c.if_below.result ≡ place_in a.list.now a.n a.x =
    one_left _ _ _ _ c.loop-size.size _ (omega (arith, c.if-size-eq0.false, c.loop-size-test.false)) c.if_below.ensures c.loop-size.invariant in
    found
