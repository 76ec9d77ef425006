use Rattle.ecc200_calls.proofs.Names.{IsReadingGiven}
use Rattle.ecc200_calls.proofs.reading.ReadingAnswer.refuse.Goals as goal

pub returns : goal.returns
returns c extent rows columns symbol doubtful limit read = IsReadingGiven.refused c.args.why read (cc)
