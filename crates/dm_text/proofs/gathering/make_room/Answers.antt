use Rattle.dm_text.proofs.KnownBytes.{passed_none}
use Rattle.dm_text.proofs.gathering.make_room.Goals as goal

pub returns-then-has_room-clause-ok : goal.returns-then-has_room-clause-ok
returns-then-has_room-clause-ok g c = passed_none (g.O.Sink.contents c.args.sink.now) c.args.answers.now.text
