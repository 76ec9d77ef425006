use Rattle.std.proofs.Common.{[], refl}
use Rattle.dm_text.proofs.RecordCuts.{open_text}
use Rattle.dm_text.proofs.answering.Answering.of_records.Goals as goal

pub returns : goal.returns
returns c = (refl, [], open_text [] c.new.result c.new.ensures, tt)
