use Rattle.dm_words.proofs.Names.{arith}
use Rattle.dm_words.proofs.Marks.{one_more}
use Rattle.dm_words.proofs.contents.content.ContentIn.push_mark.Goals as goal

pub invariant_of-self : goal.invariant_of-self
invariant_of-self g c =
    let v = c.self.invariant in
    record {
      fits = v.fits;
      room_is = v.room_is;
      marks_fit = omega (arith, c.add_mark.ensures.within, v.mark_room_is);
      mark_room_is = omega (arith, v.mark_room_is);
      content = record {
        head = v.content.head;
        items = v.content.items;
        marks = rw c.add_mark.ensures.added (one_more 0 _ _ _ v.content.marks c.requires.assigned);
      };
    }
