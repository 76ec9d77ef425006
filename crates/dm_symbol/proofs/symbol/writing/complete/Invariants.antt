use Rattle.dm_symbol.proofs.Names.{◌≡◌, ◌<◌, ℕ, IsCodeword, block_check, AreOfSize, first_data, block_of}
use Rattle.dm_symbol.proofs.symbol.writing.complete.Given as goal

-- The blocks before b are codewords of their Reed-Solomon code.
abbrev pub invariant-loop-b : goal.invariant-loop-b
invariant-loop-b l = record {
  words : AreOfSize l.size l.words;
  data_words : first_data l.size l.words ≡ first_data l.size l.initial.words;
  checked : (a : ℕ) → a < l.b → IsCodeword (block_check l.size) (block_of l.size.blocks a l.words);
}
