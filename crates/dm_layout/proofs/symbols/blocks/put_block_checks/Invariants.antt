use Rattle.dm_layout.proofs.Names.{◌≡◌, ◌≢◌, ℕ, ◌+◌, ◌*◌, ◌%◌, ◌<◌, get_or, block_data, AreOfSize, words_with}
use Rattle.dm_layout.proofs.symbols.BlockChecks.{finished}
use Rattle.dm_layout.proofs.symbols.blocks.put_block_checks.Given as goal

-- The codewords of the block before this check codeword stand at their places.
abbrev pub invariant-loop-i : goal.invariant-loop-i
invariant-loop-i l = record {
  words : AreOfSize l.fn.size l.words;
  put : (k : ℕ) → k < block_data l.fn.size l.b + l.i → get_or l.words (k * l.blocks + l.b) 0 ≡
      get_or (finished (words_with l.fn.size l.initial.words) l.b l.checks) k 0;
  others : (j : ℕ) → j % l.blocks ≢ l.b → get_or l.words j 0 ≡ get_or l.initial.words j 0;
}
