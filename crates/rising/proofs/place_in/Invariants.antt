-- What halving comes to from here is the place.
use Rattle.rising.proofs.TurnLaws.{Halving}
use Rattle.rising.proofs.place_in.Given as goal

abbrev pub invariant-loop-size : goal.invariant-loop-size
invariant-loop-size l = Halving l.list l.n l.x l.low l.size

abbrev pub decreases-loop-size : goal.decreases-loop-size
decreases-loop-size l = l.size
