use Rattle.std.proofs.Common.{arith}
use Rattle.dm_layout.proofs.symbols.KeptRows.{modules_of_kept, put_end, put_first, put_others}
use Rattle.dm_layout.proofs.symbols.drawing.put_line.Goals as goal

pub returns-clause-modules : goal.returns-clause-modules
returns-clause-modules c = modules_of_kept c.args.size _ _ c.requires.entry

pub returns-clause-first : goal.returns-clause-first
returns-clause-first c =
    put_first c.args.size c.args.lines.now c.args.ends.now c.args.row c.args.cells c.args.end c.requires.row
    (omega (arith, c.requires.row, c.requires.lines))

pub returns-clause-behind : goal.returns-clause-behind
returns-clause-behind c =
    put_end c.args.size c.args.lines.now c.args.ends.now c.args.row c.args.cells c.args.end c.requires.row
    (omega (arith, c.requires.row, c.requires.ends))

pub returns-clause-others : goal.returns-clause-others
returns-clause-others c =
    put_others c.args.size c.args.lines.now c.args.ends.now c.args.row c.args.cells c.args.end
