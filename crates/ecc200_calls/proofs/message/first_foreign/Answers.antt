use Rattle.ecc200_calls.proofs.Names.{◌<◌, ◌≤◌, rules}
use Rattle.std.proofs.Common.{tests}
use Rattle.std.proofs.lemmas.Iterator.{IsFirst-from_position, YieldsList-from_slice}
use Rattle.ecc200_calls.proofs.Messages.{first_told}
use Rattle.ecc200_calls.proofs.message.first_foreign.Goals as goal

pub returns : goal.returns
returns g c =
    let f = g.N.ItemNumber.number in
    let xs = c.args.numbers.now in
    let told = first_told f c.position.result xs
    (IsFirst-from_position _ _ c.position.result (λ x. 256 < f x) (λ x. f x ≤ 256) c.position.ensures.ran
    (YieldsList-from_slice xs cc) (λ x q k. search (rules, tests)) (λ x q k. search (rules, tests))) in
    record { some = told.0; none = told.1 }
