use Rattle.ecc200_calls.proofs.Names.{length-map, IsWritingGiven}
use Rattle.ecc200_calls.proofs.writing.write_items.Goals as goal

pub returns-in-Some : goal.returns-in-Some
returns-in-Some g c =
    let place = c.in-Some.place in
    IsWritingGiven.no_mark place c.requires.items (rw length-map c.in-Some.ensures.some)
    (cc)
