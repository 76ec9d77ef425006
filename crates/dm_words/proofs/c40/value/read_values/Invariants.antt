use Rattle.dm_words.proofs.Names.{◌+◌, ◌-◌, ◌≤◌, ◌≡◌, length, take, items_in}
use Rattle.dm_words.proofs.RunLoops.{ItemsGoOn}
use Rattle.dm_words.proofs.c40.value.read_values.Given as goal

abbrev pub invariant-loop-count : goal.invariant-loop-count
invariant-loop-count l = record {
  in_range : l.at ≤ length l.values;
  room : l.held ≤ l.fn.held + l.at;
  same : length l.items ≡ length l.fn.items;
  so_far : ItemsGoOn l.set l.values (take l.fn.held l.fn.items) (items_in l.set l.values) (take l.held l.items) l.at;
}

abbrev pub decreases-loop-count : goal.decreases-loop-count
decreases-loop-count l = length l.values - l.at
