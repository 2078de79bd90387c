-- Each number's refusal, and none of the others.
use mathlib.Core.Path.{sym, ap, ◌∙◌}
use native.Mathlib.Omega.{arith}
use Rattle.refusals.specs.Numbers.{refusal_at}
use Rattle.refusals.proofs.Laws.{at_number, none_at_0, none_above}
use Rattle.refusals.proofs.Refusal.numbered.Goals as goal

pub returns-in-0 : goal.returns-in-0
returns-in-0 c = sym (ap refusal_at c.in-0.is ∙ none_at_0)

pub returns-in-1 : goal.returns-in-1
returns-in-1 c = sym (ap refusal_at c.in-1.is ∙ at_number _)

pub returns-in-2 : goal.returns-in-2
returns-in-2 c = sym (ap refusal_at c.in-2.is ∙ at_number _)

pub returns-in-3 : goal.returns-in-3
returns-in-3 c = sym (ap refusal_at c.in-3.is ∙ at_number _)

pub returns-in-4 : goal.returns-in-4
returns-in-4 c = sym (ap refusal_at c.in-4.is ∙ at_number _)

pub returns-in-5 : goal.returns-in-5
returns-in-5 c = sym (ap refusal_at c.in-5.is ∙ at_number _)

pub returns-in-6 : goal.returns-in-6
returns-in-6 c = sym (ap refusal_at c.in-6.is ∙ at_number _)

pub returns-in-7 : goal.returns-in-7
returns-in-7 c = sym (ap refusal_at c.in-7.is ∙ at_number _)

pub returns-in-8 : goal.returns-in-8
returns-in-8 c = sym (ap refusal_at c.in-8.is ∙ at_number _)

pub returns-in-9 : goal.returns-in-9
returns-in-9 c = sym (ap refusal_at c.in-9.is ∙ at_number _)

pub returns-in-10 : goal.returns-in-10
returns-in-10 c = sym (ap refusal_at c.in-10.is ∙ at_number _)

pub returns-in-11 : goal.returns-in-11
returns-in-11 c = sym (ap refusal_at c.in-11.is ∙ at_number _)

pub returns-in-12 : goal.returns-in-12
returns-in-12 c = sym (ap refusal_at c.in-12.is ∙ at_number _)

pub returns-in-13 : goal.returns-in-13
returns-in-13 c = sym (ap refusal_at c.in-13.is ∙ at_number _)

pub returns-in-14 : goal.returns-in-14
returns-in-14 c = sym (ap refusal_at c.in-14.is ∙ at_number _)

pub returns-in-15 : goal.returns-in-15
returns-in-15 c = sym (ap refusal_at c.in-15.is ∙ at_number _)

pub returns-in-16 : goal.returns-in-16
returns-in-16 c = sym (ap refusal_at c.in-16.is ∙ at_number _)

pub returns-in-17 : goal.returns-in-17
returns-in-17 c = sym (ap refusal_at c.in-17.is ∙ at_number _)

pub returns-in-18 : goal.returns-in-18
returns-in-18 c = sym (ap refusal_at c.in-18.is ∙ at_number _)

pub returns-in-19-to-255 : goal.returns-in-19-to-255
returns-in-19-to-255 c = sym (none_above c.args.number (omega arith))
