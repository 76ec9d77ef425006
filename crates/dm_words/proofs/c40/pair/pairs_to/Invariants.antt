use Rattle.dm_words.proofs.Names.{◌≡◌, ◌-◌, ◌*◌, ◌≤◌, length, take, All, IsRunValue, pairs_in}
use Rattle.dm_words.proofs.RunLoops.{PairsGoOn}
use Rattle.dm_words.proofs.c40.pair.pairs_to.Given as goal

abbrev pub invariant-loop-first : goal.invariant-loop-first
invariant-loop-first l = record {
  in_range : l.at ≤ length l.words;
  room : 2 * l.held ≡ 3 * l.at;
  same : length l.values ≡ length l.fn.values;
  small : All IsRunValue (take l.held l.values);
  so_far : PairsGoOn l.words (pairs_in l.words) (take l.held l.values) l.at;
}

abbrev pub decreases-loop-first : goal.decreases-loop-first
decreases-loop-first l = length l.words - l.at
