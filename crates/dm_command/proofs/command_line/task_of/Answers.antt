use Rattle.std.proofs.Common.{◌≡◌, ◌∙◌, sym, ap, subst, [], Option, List}
use Rattle.clap.specs.Faults.{fault_of, is_simple_and_free}
use Rattle.clap.specs.Simple.{App, is_simple, subcommand_of}
use Rattle.clap.specs.Takes.{takes}
use Rattle.clap.specs.Walk.{Row, Text}
use Rattle.dm_command.specs.CommandLine.{NamesTask, dm_app, texts_of}
use Rattle.dm_command.proofs.CommandNames.{no_task}
use Rattle.dm_command.proofs.CommandTasks.{subcommand_there}
use Rattle.dm_command.proofs.command_line.task_of.Goals as goal

pub returns-in-Err-try_get_matches_from-clause-takes : goal.returns-in-Err-try_get_matches_from-clause-takes
returns-in-Err-try_get_matches_from-clause-takes c taken usage =
    let w = texts_of c.args.words.now in
    let memory =
    c.fault_in.ensures.1 (c.in-Err-try_get_matches_from.ensures.passes (ap (λ (a : App). takes a w) c.in-Ok.ensures
    ∙ taken)) in
    (cc)

pub returns-in-Some-clause-task : goal.returns-in-Some-clause-task
returns-in-Some-clause-task c =
    let w = texts_of c.args.words.now in
    let done = c.in-Ok-try_get_matches_from.ensures in
    let free : fault_of dm_app w ≡ [] =
    ap (λ (a : App). fault_of a w) (sym c.in-Ok.ensures) ∙ done.kinds (ap is_simple_and_free c.in-Ok.ensures) in
    let there = subcommand_there w free in
    let rows = (done.matches (ap is_simple c.in-Ok.ensures)).1 ∙ ap (λ (a : App). subcommand_of a w) c.in-Ok.ensures in
    subst (λ (o : Option (Text × List Row)). NamesTask o c.in-Some.task) (sym there.1)
    (c.in-Some.ensures.some there.0 (rows ∙ there.1) there.2)

pub returns-in-Some-clause-taken : goal.returns-in-Some-clause-taken
returns-in-Some-clause-taken c =
    ap (λ (a : App). fault_of a (texts_of c.args.words.now)) (sym c.in-Ok.ensures)
    ∙ c.in-Ok-try_get_matches_from.ensures.kinds (ap is_simple_and_free c.in-Ok.ensures)

pub returns-clause-usage : goal.returns-clause-usage
returns-clause-usage c usage free =
    let w = texts_of c.args.words.now in
    let there = subcommand_there w free in
    let rows =
    (c.in-Ok-try_get_matches_from.ensures.matches (ap is_simple c.in-Ok.ensures)).1
    ∙ ap (λ (a : App). subcommand_of a w) c.in-Ok.ensures in
    no_task there.0.0 there.0.1 there.3.0 there.3.1 (c.in-None.ensures.none there.0 (rows ∙ there.1))

pub returns-clause-takes : goal.returns-clause-takes
returns-clause-takes c taken usage =
    let w = texts_of c.args.words.now in
    let done = c.in-Ok-try_get_matches_from.ensures in
    let free : fault_of dm_app w ≡ [] =
    ap (λ (a : App). fault_of a w) (sym c.in-Ok.ensures) ∙ done.kinds (ap is_simple_and_free c.in-Ok.ensures) in
    let there = subcommand_there w free in
    let rows = (done.matches (ap is_simple c.in-Ok.ensures)).1 ∙ ap (λ (a : App). subcommand_of a w) c.in-Ok.ensures in
    no_task there.0.0 there.0.1 there.3.0 there.3.1 (c.in-None.ensures.none there.0 (rows ∙ there.1))
