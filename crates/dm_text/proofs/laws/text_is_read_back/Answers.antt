use Rattle.dm_symbol.proofs.Exported.{no_more_items_are_read, read_is_message}
use Rattle.dm_text.proofs.MessageTexts.{text_is_line}
use Rattle.dm_text.proofs.laws.text_is_read_back.Goals as goal

pub returns-clause-message : goal.returns-clause-message
returns-clause-message c = text_is_line

pub returns-clause-read : goal.returns-clause-read
returns-clause-read c =
    λ grid limit m r. text_is_line m (read_is_message grid limit m r)
    (no_more_items_are_read grid limit m r)
