use Rattle.dm_symbol.proofs.Names.{◌≡◌, ◌≢◌, ◌+◌, ◌<◌, ◌∙◌, ◌++◌, ◌∷◌, [], ℕ, List, length, get_or, ap, below_more}
use Rattle.dm_symbol.proofs.Names.{arith, Option, None, option_map, get_or_append_left, get_or_push, length_push}
use Rattle.dm_symbol.proofs.Names.{block_check, BlockReading, IsBlockRestored, marked_in, block_of}
use Rattle.dm_symbol.proofs.symbol.inspection.mend_each.Goals as goal

-- One more block is restored, and the others stay.
mended_more : (k : ℕ) (erased old before after : ℕ
    → List ℕ) (list : List (Option BlockReading)) (b : ℕ) (r : Option BlockReading) → length list ≡ b
    → ((a : ℕ) → a < b → IsBlockRestored k (erased a) (old a) (before a) (get_or list a None))
    → ((a : ℕ) → a < b → after a ≡ before a) → IsBlockRestored k (erased b) (old b) (after b) r
    → (a : ℕ) → a < b + 1 → IsBlockRestored k (erased a) (old a) (after a) (get_or (list ++ r ∷ []) a None)
mended_more k erased old before after list b r e mended same now =
    below_more (λ a. IsBlockRestored k (erased a) (old a) (after a) (get_or (list ++ r ∷ []) a None)) b
    (λ a l. rw (same a l, get_or_append_left list (r ∷ []) None a (omega (arith, e))) (mended a l))
    (rw (get_or_push list r None b e) now)

pub loop-b-preserved : goal.loop-b-preserved
loop-b-preserved c =
    let i = c.loop-b.invariant in
    let s = c.args.size in
    let old = λ (a : ℕ). block_of s.blocks a c.args.words.now in
    let b = c.loop-b.b in
    let before = c.loop-b.words in
    let after = c.restore_block.new.words in
    let r = c.restore_block.result in
    let erased = marked_in s (option_map (λ m. m.now) c.args.marks) in
    let within : b < s.blocks = omega (arith, c.loop-b-test.true, c.blocks-b-end.ensures.value) in
    let others : (a : ℕ) → a < s.blocks → a ≢ b → block_of s.blocks a after ≡ block_of s.blocks a before =
    rw c.from.ensures at c.restore_block.ensures.others in
    let now : IsBlockRestored (block_check s) (erased b) (old b) (block_of s.blocks b after) r =
    rw (c.from.ensures, i.later b (omega arith) within) at c.restore_block.ensures.restored in
    record {
      words = c.restore_block.ensures.words;
      count = omega (arith, ap length c.push.ensures.items, i.count, length_push c.loop-b.blocks.items r);
      mended = rw c.push.ensures.items
          (mended_more (block_check s) erased old (λ a. block_of s.blocks a before)
          (λ a. block_of s.blocks a after) c.loop-b.blocks.items b r
          i.count i.mended (λ a l. others a (omega (arith, within)) (omega arith)) now);
      later = λ a l h. others a h (omega arith) ∙ i.later a (omega arith) h;
    }
