use Rattle.dm_symbol.proofs.ContentDoubt.{content_normal_alike, content_read_alike}
use Rattle.dm_symbol.proofs.LightDoubt.{shown_alike}
use Rattle.dm_symbol.proofs.laws.symbols.light_doubt_changes_nothing.Goals as goal

pub returns-clause-read : goal.returns-clause-read
returns-clause-read c extent modules doubtful limit result light =
    content_read_alike doubtful light modules extent limit result

pub returns-clause-normal : goal.returns-clause-normal
returns-clause-normal c extent profile modules doubtful limit result light =
    content_normal_alike doubtful light modules extent limit profile result

pub returns-clause-shown : goal.returns-clause-shown
returns-clause-shown c room modules doubtful inspection light = shown_alike doubtful light modules inspection
