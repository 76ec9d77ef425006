use Rattle.std.proofs.Common.{codes}
use Rattle.dm_command.specs.CommandLine.{top_app, with_border, with_both}
use Rattle.dm_command.proofs.command_line.for_grids.Goals as goal

pub returns : goal.returns
returns c =
    let read =
    c.add_subcommand-with_read.ensures top_app (with_border (codes "read")) c.top.ensures
    c.with_border.ensures.shape in
    let check =
    c.add_subcommand-with_check.ensures _ (with_border (codes "check")) read c.with_border-2.ensures.shape in
    c.add_subcommand.ensures _ (with_both (codes "normal")) check c.with_both.ensures.shape
