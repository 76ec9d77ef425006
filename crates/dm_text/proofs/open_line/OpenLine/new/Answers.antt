use Rattle.dm_text.proofs.open_line.OpenLine.new.Goals as goal

pub returns : goal.returns
returns c = c.new.ensures
