-- A single bit by its number, a range of bits by a law.
use mathlib.Core.Path.{sym, ap, ap₂, ◌∙◌}
use Prim.Native.Nat.{ℕ, ◌-◌, ◌+◌}
use native.Mathlib.Omega.{arith}
use Rattle.sheet.specs.Fields.{edition_at, field_of}
use Rattle.sheet.specs.declared.fields.Field.TheVariants.{Upper}
use Rattle.sheet.proofs.FieldLaws.{location_upper, location_unused, edge_lower, edge_upper, edge_unused}
use Rattle.reader.proofs.fields.field_of.Goals as goal

pub returns-in-0 : goal.returns-in-0
unfolding field_of
returns-in-0 c = sym (ap₂ (field_of (edition_at c.args.edition)) c.in-LocationRecord.is c.in-0.is)

pub returns-in-1 : goal.returns-in-1
unfolding field_of
returns-in-1 c = sym (ap₂ (field_of (edition_at c.args.edition)) c.in-LocationRecord.is c.in-1.is)

pub returns-in_default : goal.returns-in_default
returns-in_default c =
    sym (ap (λ k. field_of (edition_at c.args.edition) k c.args.b) c.in-LocationRecord.is
    ∙ location_upper (edition_at c.args.edition) c.args.b (omega arith) (omega arith))

pub returns-in_default-2 : goal.returns-in_default-2
returns-in_default-2 c =
    sym (ap (λ k. field_of (edition_at c.args.edition) k c.args.b) c.in-LocationRecord.is
    ∙ location_unused (edition_at c.args.edition) c.args.b (omega arith))

pub returns-in-0-b : goal.returns-in-0-b
unfolding field_of
returns-in-0-b c = sym (ap₂ (field_of (edition_at c.args.edition)) c.in-EdgeRecord.is c.in-0-b.is)

pub returns-in-1-b : goal.returns-in-1-b
unfolding field_of
returns-in-1-b c = sym (ap₂ (field_of (edition_at c.args.edition)) c.in-EdgeRecord.is c.in-1-b.is)

pub returns-in-2 : goal.returns-in-2
unfolding field_of
returns-in-2 c = sym (ap₂ (field_of (edition_at c.args.edition)) c.in-EdgeRecord.is c.in-2.is)

pub returns-in_default-b : goal.returns-in_default-b
returns-in_default-b c =
    sym (ap (λ k. field_of (edition_at c.args.edition) k c.args.b) c.in-EdgeRecord.is
    ∙ edge_lower (edition_at c.args.edition) c.args.b (omega arith) (omega arith))

pub returns-in_default-2-b : goal.returns-in_default-2-b
returns-in_default-2-b c =
    ap (λ (k : ℕ). Upper (c.args.b - (3 + k))) (c.from-most.ensures ∙ c.most_clocks.ensures)
    ∙ sym (ap (λ k. field_of (edition_at c.args.edition) k c.args.b) c.in-EdgeRecord.is
    ∙ edge_upper (edition_at c.args.edition) c.args.b (omega arith) (omega arith))

pub returns-in_default-3 : goal.returns-in_default-3
returns-in_default-3 c =
    sym (ap (λ k. field_of (edition_at c.args.edition) k c.args.b) c.in-EdgeRecord.is
    ∙ edge_unused (edition_at c.args.edition) c.args.b (omega arith))
