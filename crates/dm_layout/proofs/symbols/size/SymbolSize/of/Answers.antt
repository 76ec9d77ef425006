use Rattle.std.proofs.Common.{rules, None, Some, ◌∙◌, ap}
use Rattle.dm_layout.proofs.symbols.SizeRows.{entry_of_sides, size_of_sides}
use Rattle.dm_layout.proofs.symbols.size.SymbolSize.of.Goals as goal

pub returns-in_err-row_with : goal.returns-in_err-row_with
returns-in_err-row_with c =
    let none = entry_of_sides c.args.rows c.args.columns None c.in_err-row_with.ensures in search rules

pub size_of-requires : goal.size_of-requires
size_of-requires c = size_of_sides c.args.rows c.args.columns c.in_ok-row_with.field-0 c.in_ok-row_with.ensures

pub returns : goal.returns
returns c =
    ap Some c.size_of.ensures
    ∙ entry_of_sides c.args.rows c.args.columns (Some c.in_ok-row_with.field-0) c.in_ok-row_with.ensures
