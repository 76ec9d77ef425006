use Rattle.std.proofs.Common.{sym, subst}
use Rattle.dm_command.specs.CommandLine.{NamesOneTask}
use Rattle.dm_command.proofs.CommandNames.{one_task}
use Rattle.dm_command.proofs.CommandTasks.{subcommand_there}
use Rattle.dm_command.proofs.laws.faultless_words_name_one_task.Goals as goal

pub returns : goal.returns
returns c words free =
    let there = subcommand_there words free in
    subst NamesOneTask (sym there.1) (
      there.3.0,
      there.3.1,
      (λ other is. one_task there.0.0 there.0.1 other there.3.0 is there.3.1),
    )
