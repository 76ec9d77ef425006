use Rattle.ecc200_calls.proofs.NormalGiven.{message_normalised}
use Rattle.ecc200_calls.proofs.WrittenMessages.{messages_are_written}
use Rattle.ecc200_calls.proofs.laws.messages_are_written.Goals as goal

pub returns : goal.returns
returns c = record { written = messages_are_written; normal = message_normalised }
