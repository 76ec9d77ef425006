use Rattle.dm_words.proofs.Names.{◌≡◌, ◌+◌, ◌++◌, length, drop, take, byte_items}
use Rattle.dm_words.specs.inner.Scan.Prefixes.{plain}
use Rattle.dm_words.proofs.base256.push_bytes.Given as goal

abbrev pub invariant-loop-i : goal.invariant-loop-i
invariant-loop-i l = record {
  len : l.held ≡ l.fn.held + l.i;
  same : length l.items ≡ length l.fn.items;
  so_far : take l.held l.items
      ≡ take l.fn.held l.fn.items ++ byte_items (take l.i (plain (l.start + 1) (drop l.start l.words)));
}
