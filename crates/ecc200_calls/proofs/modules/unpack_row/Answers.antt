use Rattle.ecc200_calls.proofs.Names.{◌∙◌, ◌+◌, ◌-◌, ℕ, ◌++◌, ap, take, unpacked_cells}
use Rattle.ecc200_calls.proofs.Unpacking.{row_written}
use Rattle.ecc200_calls.proofs.modules.unpack_row.Goals as goal

pub returns-then-columns-gt-FIRST-clause-written : goal.returns-then-columns-gt-FIRST-clause-written
returns-then-columns-gt-FIRST-clause-written c =
    let a = c.args in
    let last = c.unpack_on-then-columns-gt-FIRST in
    row_written a.start a.columns a.cells a.end c.min.result a.all.now c.unpack_on.new.all last.new.all
    c.if-columns-gt-FIRST.true c.min.ensures c.unpack_on.ensures.written
    (last.ensures.written ∙ ap (λ (n : ℕ). take (a.start + 128) c.unpack_on.new.all
    ++ unpacked_cells (a.columns - 128) n) c.from.ensures)
