use Rattle.ecc200_calls.proofs.Names.{◌≡◌, map, mark_shown, number_of, refl}
use Rattle.ecc200_calls.specs.Arrays.{over}
use Rattle.ecc200_calls.specs.Contents.{head_shown}
use Rattle.ecc200_calls.proofs.reading.show_content.Goals as goal

pub returns : goal.returns
returns c =
    let said = c.args.said.now in
    let before = c.args.out.now in
    let head : c.head_shown-out.result ≡ head_shown said.head = c.head_shown-out.ensures in
    let marks : c.put_marks.new.all ≡ over (map mark_shown said.marks.now) before.marks = c.put_marks.ensures in
    let items : c.put_items.new.all ≡ over (map number_of said.items.now) before.items = c.put_items.ensures in
    rw (head, marks, items) (search refl depth 1)
