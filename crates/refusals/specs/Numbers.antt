-- The numbers of the questions, and results by number.
use Rattle.std.specs.Prelude.{List, [], ◌∷◌, ℕ, zero, suc, slice_get}
use Rattle.std.specs.declared.option.Option.{Option}
use Rattle.std.specs.declared.option.Option.TheVariants.{None, Some}
use Rattle.std.specs.declared.result.Result.{Result}
use Rattle.std.specs.declared.result.Result.TheVariants.{Ok, Err}
use Rattle.refusals.specs.declared.Refusal.{Refusal}
use Rattle.refusals.specs.declared.Refusal.TheVariants.{ShortBuffer, Length, Edition, Counts, MissingBytes, ForbiddenField, MissingBound, OutOfRange, NoSuchLocation}
use Rattle.refusals.specs.declared.Refusal.TheVariants.{UnusedBytes, StartOutside, TooManyNodes, NoneEarns, IdleGain, NoNode, NotAllowed, EqualEdges, Strict}

abbrev pub number_of : Refusal → ℕ
number_of ShortBuffer = 1
number_of Length = 2
number_of Edition = 3
number_of Counts = 4
number_of MissingBytes = 5
number_of ForbiddenField = 6
number_of MissingBound = 7
number_of OutOfRange = 8
number_of NoSuchLocation = 9
number_of UnusedBytes = 10
number_of StartOutside = 11
number_of TooManyNodes = 12
number_of NoneEarns = 13
number_of IdleGain = 14
number_of NoNode = 15
number_of NotAllowed = 16
number_of EqualEdges = 17
number_of Strict = 18

-- of a result the number of its refusal, 0 where it has none
abbrev pub refusal_of : {A : Type 0} → Result A Refusal → ℕ
refusal_of (Ok x) = 0
refusal_of (Err r) = number_of r

-- the same where only a refusal may stand
abbrev pub number_in : Option Refusal → ℕ
number_in None = 0
number_in (Some r) = number_of r

-- all of them, from number 1 on
abbrev pub refusals : List Refusal
refusals = ShortBuffer ∷ Length ∷ Edition ∷ Counts ∷ MissingBytes ∷ ForbiddenField ∷ MissingBound ∷ OutOfRange ∷ NoSuchLocation
    ∷ UnusedBytes ∷ StartOutside ∷ TooManyNodes ∷ NoneEarns ∷ IdleGain ∷ NoNode ∷ NotAllowed ∷ EqualEdges ∷ Strict ∷ []

-- the refusal of a number; 0 has none, and neither has a number above 18
unfoldable pub refusal_at : ℕ → Option Refusal
refusal_at zero = None
refusal_at (suc n) = slice_get refusals n
