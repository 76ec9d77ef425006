-- What is given for a symbol in the extent `Usual`: a message, or a fault of messages.
use Rattle.ecc200_calls.proofs.Names.{Ok, refl, Usual, IsReadingGiven, read_content_right}
use Rattle.ecc200_calls.proofs.Names.{reads_content_by_result, usual_fault}
use Rattle.ecc200_calls.specs.Laws.{IsMessageGiven, MessagesAreGiven}

-- In the extent `Usual` a message is given, or a fault of messages.
pub message_given : MessagesAreGiven
message_given rows columns symbol doubtful limit before after (IsReadingGiven.read reading read shown) =
    let reads = reads_content_by_result symbol doubtful Usual limit (Ok reading) reading.content read refl in
    IsMessageGiven.read reading read (read_content_right symbol doubtful Usual limit reading.content reads).1 shown
message_given rows columns symbol doubtful limit before after (IsReadingGiven.refused why read shown) =
    let f = usual_fault symbol doubtful limit why read in
    IsMessageGiven.refused f.0 (rw f.1 at read) (rw f.1 at shown)
