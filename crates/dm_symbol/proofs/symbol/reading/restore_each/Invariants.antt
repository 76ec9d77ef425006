use Rattle.dm_symbol.proofs.Names.{◌≡◌, ◌<◌, ◌≤◌, ℕ, length, get_or, option_map, IsNearBut, block_check, AreOfSize}
use Rattle.dm_symbol.proofs.Names.{block_reading, marked_in, block_of}
use Rattle.dm_symbol.proofs.SymbolSteps.{nothing_said}
use Rattle.dm_symbol.proofs.symbol.reading.restore_each.Given as goal

-- The blocks before b are restored, with what is said of them, and the others are as they were.
abbrev pub invariant-loop-b : goal.invariant-loop-b
invariant-loop-b l =
    let s = l.size in
    let erased = marked_in s (option_map (λ m. m.now) l.fn.marks) in
    let old = λ (b : ℕ). block_of s.blocks b l.initial.words in
    let now = λ (b : ℕ). block_of s.blocks b l.words in
    record {
      words : AreOfSize s l.words;
      count : length l.blocks.items ≡ l.b;
      said : (a : ℕ) → a < l.b
          → get_or l.blocks.items a nothing_said ≡ block_reading (block_check s) (erased a) (old a) (now a);
      near : (a : ℕ) → a < l.b → IsNearBut (block_check s) (old a) (erased a) (now a);
      later : (a : ℕ) → l.b ≤ a → a < s.blocks → now a ≡ old a;
    }
