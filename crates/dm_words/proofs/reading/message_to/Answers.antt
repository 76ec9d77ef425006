use Rattle.dm_words.proofs.MessageReadings.{message_result, fault_result, no_designator_fault, no_append_fault}
use Rattle.dm_words.proofs.reading.message_to.Goals as goal

pub unreachable-requires : goal.unreachable-requires
unreachable-requires g c = no_designator_fault _ _ _ c.in-Err-Designator.field-0-is c.in-Err-Designator.ensures.content

pub unreachable-requires-in-Err-Append : goal.unreachable-requires-in-Err-Append
unreachable-requires-in-Err-Append g c =
    no_append_fault _ _ _ c.in-Err-Append.field-0-is c.in-Err-Append.ensures.content

pub returns-in-Ok-clause-read : goal.returns-in-Ok-clause-read
returns-in-Ok-clause-read g c = message_result c.args.words.now _ c.in-Ok.ensures.content

pub returns-in-Err-Word-clause-read : goal.returns-in-Err-Word-clause-read
returns-in-Err-Word-clause-read g c = fault_result _ _ (rw c.in-Err-Word.field-0-is at c.in-Err-Word.ensures.content)
