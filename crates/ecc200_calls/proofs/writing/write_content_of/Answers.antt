use Rattle.ecc200_calls.proofs.Names.{length-map}
use Rattle.ecc200_calls.proofs.Written.{numbers_given}
use Rattle.ecc200_calls.proofs.writing.write_content_of.Goals as goal

pub returns : goal.returns
returns g c =
    let a = c.args in
    numbers_given a.how.form a.how.size a.head _ a.marks.now _ _ a.out.now c.write_content.new.out
    c.requires.head (rw length-map c.requires.marks) c.put_items_of.ensures.numbers c.put_items_of.ensures.message
    c.put_marks_of.ensures.marks c.write_content.ensures
