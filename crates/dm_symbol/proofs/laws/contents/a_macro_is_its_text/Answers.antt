use Rattle.dm_symbol.proofs.NormalContents.{macro_is_its_text}
use Rattle.dm_symbol.proofs.laws.contents.a_macro_is_its_text.Goals as goal

pub returns : goal.returns
returns c = macro_is_its_text
