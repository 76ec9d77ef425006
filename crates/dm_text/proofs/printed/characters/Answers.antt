use Rattle.dm_symbol.proofs.Exported.{sixteen_shown}
use Rattle.dm_text.proofs.printed.characters.Goals as goal

pub returns : goal.returns
returns c = sixteen_shown 49 48 c.args.cells
