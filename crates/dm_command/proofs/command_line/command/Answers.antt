use Rattle.std.proofs.Common.{codes}
use Rattle.clap.specs.Simple.{new_shape}
use Rattle.dm_command.specs.CommandLine.{with_shorter}
use Rattle.dm_command.proofs.command_line.command.Goals as goal

pub returns : goal.returns
returns c =
    let write =
    c.add_subcommand-with_write.ensures _ (with_shorter (codes "write")) c.for_grids.ensures
    c.with_shorter.ensures.shape in
    c.add_subcommand.ensures _ (new_shape (codes "table")) write c.plain.ensures.shape
