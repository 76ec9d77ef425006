use Rattle.ecc200_calls.proofs.Names.{◌<◌, length, length-map, IsWritingGiven}
use Rattle.ecc200_calls.proofs.Messages.{number_at}
use Rattle.ecc200_calls.proofs.writing.write_wanted.Goals as goal

pub returns-in-Some : goal.returns-in-Some
returns-in-Some g c =
    let place = c.in-Some.place in
    let items = c.args.items.now in
    let inside : place < length items = rw length-map at c.in-Some.ensures.some.inside in
    let at = number_at g.N.ItemNumber.number items place c.index-items-place.result c.index-items-place.is inside in
    IsWritingGiven.no_item place c.in-Some.ensures.some (rw at (cc c.number.ensures))
