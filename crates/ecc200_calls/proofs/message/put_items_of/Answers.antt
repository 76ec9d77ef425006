use Rattle.ecc200_calls.proofs.Names.{◌≡◌, ◌<◌, ◌≤◌, ◌∙◌, All-get_or, arith, get_or, length, length-map, map, number_of}
use Rattle.ecc200_calls.proofs.Names.{sym}
use Rattle.std.proofs.lemmas.Grind.{common_steps}
use Rattle.ecc200_calls.proofs.Messages.{number_at}
use Rattle.ecc200_calls.proofs.message.put_items_of.Goals as goal

pub item_of-requires : goal.item_of-requires
item_of-requires g c =
    let f = g.N.ItemNumber.number in
    let xs = c.args.numbers.now in
    let at = number_at f xs c.loop-i.i c.index-numbers-i.result c.index-numbers-i.is c.loop-i-test.true in
    let few = All-get_or (λ number. number ≤ 256) (map f xs) c.loop-i.i 0 (rw length-map c.loop-i-test.true)
    c.requires.items in
    omega (arith, c.number.ensures, at, few)

pub loop-i-preserved : goal.loop-i-preserved
loop-i-preserved g c =
    let f = g.N.ItemNumber.number in
    let xs = c.args.numbers.now in
    let i = c.loop-i.i in
    let at : get_or (map f xs) i 0 ≡ number_of c.item_of.result =
    number_at f xs i c.index-numbers-i.result c.index-numbers-i.is c.loop-i-test.true ∙ sym c.number.ensures
    ∙ sym c.item_of.ensures.number in
    let inside : i < length (map f xs) = rw length-map c.loop-i-test.true in
    grind (arith, common_steps)
