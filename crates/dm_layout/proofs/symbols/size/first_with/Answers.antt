use Rattle.std.proofs.Common.{rules, None, Some, ◌∙◌, ap}
use Rattle.dm_layout.proofs.symbols.SizeRows.{entry_of_choice, size_of_choice}
use Rattle.dm_layout.proofs.symbols.size.first_with.Goals as goal

pub returns-in_err-row_for : goal.returns-in_err-row_for
returns-in_err-row_for c =
    let none = entry_of_choice c.args.choice c.args.count None c.in_err-row_for.ensures in search rules

pub size_of-requires : goal.size_of-requires
size_of-requires c = size_of_choice c.args.choice c.args.count c.in_ok-row_for.field-0 c.in_ok-row_for.ensures

pub returns : goal.returns
returns c =
    ap Some c.size_of.ensures
    ∙ entry_of_choice c.args.choice c.args.count (Some c.in_ok-row_for.field-0) c.in_ok-row_for.ensures
