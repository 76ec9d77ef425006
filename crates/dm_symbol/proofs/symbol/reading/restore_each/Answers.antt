use Rattle.dm_symbol.proofs.Names.{◌≡◌, ◌≢◌, ◌<◌, ◌∙◌, ℕ, List, length, ap, below_more, arith, Some, option_map}
use Rattle.dm_symbol.proofs.Names.{length_push, IsNearBut, block_check, IsBlockRestored, block_reading, marked_in}
use Rattle.dm_symbol.proofs.Names.{block_of}
use Rattle.std.proofs.lemmas.List.FromFn.{fill_by_all}
use Rattle.dm_symbol.proofs.SymbolSteps.{nothing_said, said_more}
use Rattle.dm_symbol.proofs.symbol.reading.restore_each.Goals as goal
use Rattle.dm_symbol.proofs.symbol.reading.restore_each.Goals.{After-from}

-- The next block is one of the symbol.
inside : (c : After-from) → c.loop-b.b < c.args.size.blocks
inside c = omega (arith, c.loop-b-test.true, c.blocks-b-end.ensures.value)

pub loop-b-preserved : goal.loop-b-preserved
loop-b-preserved c =
    let i = c.loop-b.invariant in
    let s = c.args.size in
    let b = c.loop-b.b in
    let before = c.loop-b.words in
    let after = c.restore_block.new.words in
    let r = c.in-Some.restored in
    let erased = marked_in s (option_map (λ m. m.now) c.args.marks) in
    let within = inside (goal.at.loop-b-preserved c).After-from in
    let others : (a : ℕ) → a < s.blocks → a ≢ b → block_of s.blocks a after ≡ block_of s.blocks a before =
    rw c.from.ensures at c.in-Some.ensures.others in
    let now : IsBlockRestored (block_check s) (erased b) (block_of s.blocks b c.args.words.now)
    (block_of s.blocks b after) (Some r) =
    rw (c.from.ensures, i.later b (omega arith) within) at c.in-Some.ensures.restored in
    let stay : (a : ℕ) → a < b → block_of s.blocks a after ≡ block_of s.blocks a before =
    λ a l. others a (omega (arith, within)) (omega arith) in
    let of = λ (a : ℕ) (x : List ℕ).
    block_reading (block_check s) (erased a) (block_of s.blocks a c.args.words.now) x in
    record {
      words = c.in-Some.ensures.words;
      count = omega (arith, ap length c.push.ensures.items, i.count, length_push c.loop-b.blocks.items r);
      said = rw c.push.ensures.items
          (said_more of (λ a. block_of s.blocks a before) (λ a. block_of s.blocks a after) c.loop-b.blocks.items
          nothing_said b r i.count i.said
          stay now.1);
      near = below_more (λ a. IsNearBut (block_check s) (block_of s.blocks a c.args.words.now) (erased a)
          (block_of s.blocks a after)) b
          (λ a l. rw (stay a l) (i.near a l)) now.0;
      later = λ a l h. others a h (omega arith) ∙ i.later a (omega arith) h;
    }

pub returns-in-None-clause-lost : goal.returns-in-None-clause-lost
returns-in-None-clause-lost c =
    let i = c.loop-b.invariant in
    let within = inside (goal.at.returns-in-None-clause-lost c).After-from in
    record {
      in_symbol = within;
      lost = rw (c.from.ensures, i.later c.loop-b.b (omega arith) within) at c.in-None.ensures.restored.0;
      first = λ a ha. (block_of c.args.size.blocks a c.loop-b.words, i.near a ha);
    }

pub returns-clause-near : goal.returns-clause-near
returns-clause-near c =
    λ b hb. c.loop-b.invariant.near b (omega (arith, hb, c.loop-b-test.false, c.blocks-b-end.ensures.value))

pub returns-clause-readings : goal.returns-clause-readings
returns-clause-readings c =
    let s = c.args.size in
    let erased = marked_in s (option_map (λ m. m.now) c.args.marks) in
    let end : c.loop-b.b ≡ s.blocks =
    omega (arith, c.loop-b-test.false, c.loop-b.auto.b-end, c.blocks-b-end.ensures.value) in
    fill_by_all (λ a. block_reading (block_check s) (erased a) (block_of s.blocks a c.args.words.now)
    (block_of s.blocks a c.loop-b.words)) c.loop-b.blocks.items s.blocks nothing_said (c.loop-b.invariant.count ∙ end)
    (λ a ha. c.loop-b.invariant.said a (omega (arith, ha, end)))
