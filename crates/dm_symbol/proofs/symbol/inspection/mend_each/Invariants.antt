use Rattle.dm_symbol.proofs.Names.{◌≡◌, ◌<◌, ◌≤◌, ℕ, length, get_or, None, option_map, block_check, AreOfSize}
use Rattle.dm_symbol.proofs.Names.{IsBlockRestored, marked_in, block_of}
use Rattle.dm_symbol.proofs.symbol.inspection.mend_each.Given as goal

-- The blocks before b are restored, and the others are as they were.
abbrev pub invariant-loop-b : goal.invariant-loop-b
invariant-loop-b l =
    let s = l.size in
    let erased = marked_in s (option_map (λ m. m.now) l.fn.marks) in
    let old = λ (b : ℕ). block_of s.blocks b l.initial.words in
    let now = λ (b : ℕ). block_of s.blocks b l.words in
    record {
      words : AreOfSize s l.words;
      count : length l.blocks.items ≡ l.b;
      mended : (a : ℕ) → a < l.b
          → IsBlockRestored (block_check s) (erased a) (old a) (now a) (get_or l.blocks.items a None);
      later : (a : ℕ) → l.b ≤ a → a < s.blocks → now a ≡ old a;
    }
