use Rattle.dm_symbol.proofs.Names.{usual_plain, first_data}
use Rattle.dm_symbol.proofs.laws.contents.usual_contents_are_messages.Goals as goal

pub returns : goal.returns
returns c modules doubtful limit content r = usual_plain (first_data modules.size r.codewords) content r.said
