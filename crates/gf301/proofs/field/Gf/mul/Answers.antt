use Rattle.std.proofs.Common.{arith}
use Rattle.gf301.proofs.ProductRows.{halves_apart}
use Rattle.gf301.proofs.field.Gf.mul.Goals as goal

pub returns : goal.returns
returns c =
    rw (c.from-row.ensures, c.from.ensures, c.from-2.ensures)
    (halves_apart c.args.self.0 c.args.other.0 (omega arith) (omega arith))
