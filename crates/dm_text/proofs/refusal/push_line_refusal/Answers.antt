use Rattle.dm_text.proofs.refusal.push_line_refusal.Goals as goal

pub returns-in-BadEscape-clause-text : goal.returns-in-BadEscape-clause-text
returns-in-BadEscape-clause-text c = rw c.in-BadEscape.is c.push_numbered.ensures.text
