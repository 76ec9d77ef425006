use Rattle.std.proofs.Common.{◌∙◌, codes}
use Rattle.clap.specs.Matches.{found_of}
use Rattle.clap.specs.Walk.{rows_of}
use Rattle.clap.proofs.WalkLemmas.{one_text-rows}
use Rattle.dm_command.proofs.CommandNumbers.{flag_given, flag_left_out}
use Rattle.dm_command.proofs.command_line.profile_in.Goals as goal

pub returns-then-get_flag : goal.returns-then-get_flag
returns-then-get_flag c = λ readable.
    let f = found_of c.args.matches.now in
    flag_given (rows_of f) readable c.get_flag.result
    (λ none. c.get_flag.ensures.none (one_text-rows f (codes "shorter") ∙ none))
    (λ given. c.get_flag.ensures.value (one_text-rows f (codes "shorter") ∙ given))
    (λ other. c.get_flag.ensures.other (one_text-rows f (codes "shorter") ∙ other))
    c.if-get_flag.true

pub returns-else-get_flag : goal.returns-else-get_flag
returns-else-get_flag c = λ readable.
    let f = found_of c.args.matches.now in
    flag_left_out (rows_of f) readable c.get_flag.result
    (λ none. c.get_flag.ensures.none (one_text-rows f (codes "shorter") ∙ none))
    (λ given. c.get_flag.ensures.value (one_text-rows f (codes "shorter") ∙ given))
    (λ other. c.get_flag.ensures.other (one_text-rows f (codes "shorter") ∙ other))
    c.if-get_flag.false
