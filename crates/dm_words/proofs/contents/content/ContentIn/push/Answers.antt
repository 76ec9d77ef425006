use Rattle.dm_words.proofs.Names.{◌∷◌, [], ◌++◌, All-append, All-from_recursion, IsItem, arith, length, length-append}
use Rattle.dm_words.proofs.Names.{rules, take}
use Rattle.dm_words.proofs.Marks.{more_items}
use Rattle.dm_words.proofs.contents.content.ContentIn.push.Goals as goal

pub invariant_of-self : goal.invariant_of-self
invariant_of-self g c =
    let v = c.self.invariant in
    let before = take c.self.inside.held c.self.inside.items in
    let one = c.args.item ∷ [] in
    record {
      fits = omega (arith, v.fits, c.add.ensures.counted);
      room_is = omega (arith, v.room_is);
      marks_fit = v.marks_fit;
      mark_room_is = v.mark_room_is;
      content = record {
        head = v.content.head;
        items = rw c.add.ensures.added
            (All-append IsItem before one v.content.items (All-from_recursion IsItem one (search rules, tt)));
        marks = rw c.add.ensures.added
            (more_items 0 (length before) (length (before ++ one)) _ v.content.marks
            (omega (arith, length-append before one)));
      };
    }
