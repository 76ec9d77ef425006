use Rattle.std.proofs.Common.{◌≡◌, take}
use Rattle.dm_text.proofs.answer.widen.Given as goal

abbrev pub invariant-loop-count : goal.invariant-loop-count
invariant-loop-count l = l.wide.items ≡ take l.count-index l.counts.items
