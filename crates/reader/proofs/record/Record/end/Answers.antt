-- No record is longer than 18 bytes.
use native.Mathlib.Omega.{arith}
use Rattle.sheet.proofs.RecordLaws.{length-le}
use Rattle.reader.proofs.record.Record.end.Goals as goal

pub overflow_add-result : goal.overflow_add-result
overflow_add-result c = let r = c.args.self.now in omega (arith, r.near, c.length.ensures, length-le r.kind r.sheet.now r.at)
