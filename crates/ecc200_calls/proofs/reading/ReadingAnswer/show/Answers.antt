use Rattle.ecc200_calls.proofs.Names.{IsReadingGiven}
use Rattle.ecc200_calls.proofs.reading.ReadingAnswer.show.Goals as goal

pub returns : goal.returns
returns c extent symbol doubtful limit read = IsReadingGiven.read _ read c.show_reading.ensures
