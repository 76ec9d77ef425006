use Rattle.dm_layout.proofs.Names.{◌≡◌, ◌≢◌, ℕ, ◌+◌, ◌*◌, ◌%◌, ◌<◌, get_or, AreOfSize}
use Rattle.dm_layout.proofs.symbols.blocks.put_block.Given as goal

abbrev pub invariant-loop-i : goal.invariant-loop-i
invariant-loop-i l = record {
  words : AreOfSize l.fn.size l.words;
  put : (k : ℕ) → k < l.i → get_or l.words (k * l.blocks + l.b) 0 ≡ get_or l.list k 0;
  others : (j : ℕ) → j % l.blocks ≢ l.b → get_or l.words j 0 ≡ get_or l.initial.words j 0;
}
