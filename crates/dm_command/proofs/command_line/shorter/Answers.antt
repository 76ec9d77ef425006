use Rattle.std.proofs.Common.{◌∙◌, ap, Some, codes}
use Rattle.clap.specs.Walk.{Rule, rule_of}
use Rattle.clap.specs.declared.builder.action.ArgAction.TheVariants.{SetTrue}
use Rattle.clap.specs.declared.builder.arg.Arg.{Arg}
use Rattle.dm_command.proofs.command_line.shorter.Goals as goal

pub returns-clause-rule : goal.returns-clause-rule
returns-clause-rule c =
    ap rule_of c.action.ensures
    ∙ ap (λ (a : Arg). record (rule_of a) { action = Some SetTrue }) c.long.ensures
    ∙ ap (λ (r : Rule). record r { long = Some (codes "shorter"); action = Some SetTrue }) c.new.ensures.rule

pub returns-clause-local : goal.returns-clause-local
returns-clause-local c =
    ap (λ (a : Arg). a.global) c.action.ensures ∙ ap (λ (a : Arg). a.global) c.long.ensures ∙ c.new.ensures.optional.1
