use Rattle.ecc200_calls.proofs.Names.{arith}
use Rattle.ecc200_calls.proofs.Rooms.{middle_room, small_room}
use Rattle.ecc200_calls.proofs.room.Room.of.Goals as goal

pub returns-then-words-le-SMALL_DATA-clause-small : goal.returns-then-words-le-SMALL_DATA-clause-small
returns-then-words-le-SMALL_DATA-clause-small c = λ is. small_room c.args.size c.rows-rows.ensures.size (omega arith)

pub returns-then-words-le-MIDDLE_DATA-clause-middle : goal.returns-then-words-le-MIDDLE_DATA-clause-middle
returns-then-words-le-MIDDLE_DATA-clause-middle c =
    λ is. middle_room c.args.size c.rows-rows.ensures.size (omega arith)
