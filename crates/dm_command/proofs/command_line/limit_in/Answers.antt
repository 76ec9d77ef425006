use Rattle.std.proofs.Common.{◌∙◌, codes}
use Rattle.clap.specs.Matches.{found_of}
use Rattle.clap.specs.Walk.{rows_of}
use Rattle.clap.proofs.WalkLemmas.{one_text-rows}
use Rattle.std.specs.Str.Parse.{ParsesUnsigned, ExplainsUnsignedError, HasUnsignedDigitsIfOk}
use Rattle.dm_command.proofs.CommandNumbers.{limit_read}
use Rattle.dm_command.proofs.command_line.limit_in.Goals as goal

pub returns : goal.returns
returns c =
    let f = found_of c.args.matches.now in
    limit_read (λ bs r. ParsesUnsigned 16 10 bs r × ExplainsUnsignedError 10 bs r × HasUnsignedDigitsIfOk bs r)
    (λ t x h. h.0) (rows_of f) c.get_one.result
    (λ none. c.get_one.ensures.none (one_text-rows f (codes "border") ∙ none))
    (λ t is. c.get_one.ensures.value t (one_text-rows f (codes "border") ∙ is))
