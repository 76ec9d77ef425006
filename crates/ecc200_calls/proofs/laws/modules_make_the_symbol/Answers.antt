use Rattle.ecc200_calls.proofs.MadeSymbols.{made, one_made}
use Rattle.ecc200_calls.proofs.laws.modules_make_the_symbol.Goals as goal

pub returns : goal.returns
returns c = record { made = made; one = one_made }
