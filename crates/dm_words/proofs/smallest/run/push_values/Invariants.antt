use Rattle.dm_words.proofs.Names.{◌≤◌, length, take, part_values, ArePushed}
use Rattle.dm_words.proofs.smallest.run.push_values.Given as goal

abbrev pub invariant-loop-value : goal.invariant-loop-value
invariant-loop-value l = record {
  within : l.held ≤ length l.words;
  pushed : ArePushed (take l.fn.held l.fn.words) (part_values l.fn.part) (take l.value-index l.values)
      (take l.held l.words) l.part;
}
