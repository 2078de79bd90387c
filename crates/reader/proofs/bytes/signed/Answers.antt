-- A word from 32768 on is the negative number that far below 65536.
use mathlib.Core.Path.{◌≡◌, ap, ◌∙◌}
use Prim.Native.Nat.{ℕ}
use native.Mathlib.Decide.{dec_lt}
use borrow.Author.Rules.{sfits_of}
use borrow.Author.Tests.{lt-ltb, le-ltb}
use native.Mathlib.Omega.{arith}
use lib.IntN.{negsuc}
use mir.Syntax.{w16}
use mir.Val.{to_z}
use mir.ValLaws.{to_z-of_z}
use Rattle.sheet.specs.Bytes.{signed_of}
use Rattle.reader.proofs.bytes.signed.Goals as goal

as_signed : (u : ℕ) → to_z w16 u ≡ signed_of u
unfolding signed_of
as_signed u = elim (dec_lt u 32768) [
  | yes l ↦ simp (lt-ltb _ _ l)
  | no n ↦ simp (le-ltb u 32768 (omega arith)) (ap negsuc (omega arith))
]

pub returns : goal.returns
returns c = to_z-of_z w16 c.cast_signed.result (sfits_of c.cast_signed.type_inv) ∙ c.cast_signed.ensures ∙ as_signed c.args.u
