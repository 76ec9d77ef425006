use Rattle.dm_words.proofs.Names.{arith, length-take, Item, take}
use Rattle.dm_words.proofs.ContentLoops.{one_word_turn}
use Rattle.dm_words.proofs.reading.one_word_parts.Goals as goal

pub loop-word-preserved : goal.loop-word-preserved
loop-word-preserved c =
    let v = c.loop-word.invariant in
    let part = c.one_word_part-is_taken in
    let taken = rw c.if-not-is_taken.false at part.ensures.taken in
    let r =
    one_word_turn _ _ _ _ (take c.args.held.now c.args.items.now) (take c.loop-word.count c.loop-word.items)
    (take part.new.held part.new.items) (λ i. omega (arith, c.type_inv.words i)) (omega (arith, length-take {A = Item}))
    c.in-Some.ensures taken v.said in
    record {
      from = omega (arith, v.from);
      in_range = r.in_range;
      room = omega (arith, r.room, length-take {A = Item});
      no_fewer = omega (arith, r.no_fewer, length-take {A = Item});
      within = part.ensures.within;
      same = omega (arith, v.same);
      said = r.said;
    }
