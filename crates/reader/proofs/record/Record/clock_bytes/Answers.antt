-- Clock by clock: an array of four is that which is filled up to the edition's clocks.
use mathlib.Core.Path.{◌≡◌, refl, sym, ap, ◌∙◌}
use mathlib.Core.Bool.{Bool, true, false, cond}
use mathlib.Core.List.{List}
use mathlib.Core.Option as option
use Prim.Native.Nat.{ℕ, zero, suc, ◌+◌, ◌≤◌, ◌<◌}
use native.Mathlib.Omega.{arith}
use borrow.Author.Tests.{ltb-true, ltb-false}
use lib.Dec.{ltb}
use lib.ListN.{length, get_or}
use lib.Seq.{ext_get_or, get_or-set_other}
use Rattle.std.proofs.lemmas.List.{get_or-replicate}
use Rattle.sheet.specs.Fields.{edition_at}
use Rattle.sheet.specs.Records.{field_at, edition_of}
use Rattle.sheet.specs.Decoded.{filled, clock_bytes}
use Rattle.sheet.proofs.FieldLaws.{edition_clocks}
use Rattle.sheet.proofs.DecodeLaws.{filled_at, filled_length}
use Rattle.std.proofs.Common.{rules}
use Rattle.reader.proofs.record.Record.clock_bytes.Goals as goal

behind : (f : ℕ → ℕ) (d n i k : ℕ) → i ≤ k → k < n → get_or (filled f d n i) k d ≡ d
unfolding filled
behind f d n zero k h l = get_or-replicate n k d d l
behind f d n (suc i) k h l =
    let other : ◌≡◌ {A = ℕ} k i → ⊥ = λ e. omega arith in
    get_or-set_other (filled f d n i) i k (f i) d other ∙ behind f d n i k (omega arith) l

entry : (f : ℕ → ℕ) (d m j : ℕ) → j < 4 → m ≤ 4 → cond (ltb j m) (f j) d ≡ get_or (filled f d 4 m) j d
entry f d m j h l = by (ltb j m) refl
  where
    by : (t : Bool) → ltb j m ≡ t → cond (ltb j m) (f j) d ≡ get_or (filled f d 4 m) j d
    by true t = ap (λ (b : Bool). cond b (f j) d) t ∙ sym (filled_at f d 4 m j l (ltb-true j m t))
    by false t = ap (λ (b : Bool). cond b (f j) d) t ∙ sym (behind f d 4 m j (ltb-false j m t) h)

filled_four : (f : ℕ → ℕ) (d m : ℕ) (xs : List ℕ) → m ≤ 4 → length xs ≡ 4 → get_or xs 0 d ≡ cond (ltb 0 m) (f 0) d → get_or xs 1 d ≡ cond (ltb 1 m) (f 1) d
    → get_or xs 2 d ≡ cond (ltb 2 m) (f 2) d → get_or xs 3 d ≡ cond (ltb 3 m) (f 3) d → xs ≡ filled f d 4 m
filled_four f d m xs l h p q r s = ext_get_or d xs (filled f d 4 m) (h ∙ sym (filled_length f d 4 m)) (λ j k. at j (omega arith))
  where
    at : (j : ℕ) → j < 4 → get_or xs j d ≡ get_or (filled f d 4 m) j d
    at zero k = p ∙ entry f d m 0 (omega arith) l
    at (suc zero) k = q ∙ entry f d m 1 (omega arith) l
    at (suc (suc zero)) k = r ∙ entry f d m 2 (omega arith) l
    at (suc (suc (suc zero))) k = s ∙ entry f d m 3 (omega arith) l
    at (suc (suc (suc (suc j)))) k = absurd (omega arith)

pub returns : goal.returns
unfolding clock_bytes
returns c =
    let r = c.args.self.now in
    let f = λ (j : ℕ). option.get_or (field_at r.kind r.sheet.now r.at (c.args.b + j)) c.args.absent in
    let m = c.from-most.result in
    let e : m ≡ (edition_of r.sheet.now).clocks = omega (arith, c.from-most.ensures, ap (λ (e : ℕ). (edition_at e).clocks) c.byte.ensures) in
    filled_four f c.args.absent m c.from_fn.result (omega (arith, edition_clocks c.byte.result)) (search rules) (search rules) (search rules) (search rules) (search rules)
    ∙ ap (filled f c.args.absent 4) e
