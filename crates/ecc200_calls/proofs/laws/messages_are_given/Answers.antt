use Rattle.ecc200_calls.proofs.ReadContents.{message_given}
use Rattle.ecc200_calls.proofs.laws.messages_are_given.Goals as goal

pub returns : goal.returns
returns c = message_given
