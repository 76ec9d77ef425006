use Rattle.dm_words.proofs.Names.{◌≡◌, length, take, byte_items}
use Rattle.dm_words.proofs.macros.are_bytes.Given as goal

-- The items so far are the bytes so far.
abbrev pub invariant-loop-i : goal.invariant-loop-i
invariant-loop-i l = record {
  long : length l.items ≡ length l.bytes;
  so_far : take l.i l.items ≡ byte_items (take l.i l.bytes);
}
