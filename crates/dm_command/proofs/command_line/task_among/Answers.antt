use Rattle.std.proofs.Common.{◌≡◌, ◌∙◌, sym, subst, rules, List, Some}
use Rattle.std.proofs.lemmas.Option.{IfSome_then}
use Rattle.clap.specs.Matches.{found_of}
use Rattle.clap.specs.Simple.{subcommand_rows_of}
use Rattle.clap.specs.Walk.{Row, Text, rows_of}
use Rattle.dm_command.specs.CommandLine.{IsTaskOf}
use Rattle.dm_command.specs.inner.CommandReads.{IsReadable}
use Rattle.dm_command.proofs.CommandTasks.{unwrapped}
use Rattle.dm_command.proofs.command_line.task_among.Goals as goal

pub returns-clause-some : goal.returns-clause-some
returns-clause-some c =
    let met : Text × List Row = (c.in_ok-name.name.now, rows_of (found_of c.in_ok-name.below.now)) in
    let is : subcommand_rows_of c.args.matches.now ≡ Some met = search rules in
    IfSome_then c.task_in.result c.task_in.ensures.some (λ t h found named readable.
    let same : met ≡ found = unwrapped met found (sym is ∙ named) in
    subst (λ (f : Text × List Row). IsReadable f.1 → IsTaskOf f.0 f.1 t) same h readable)
