use Rattle.std.proofs.Common.{replicate}
use Rattle.dm_code.proofs.Division.{zeros_at}
use Rattle.dm_code.proofs.LocatorProducts.{coefficients_padded}
use Rattle.dm_code.proofs.products.padded.Goals as goal

pub returns : goal.returns
returns g c =
    coefficients_padded c.args.list.now c.copy_from_slice.new.self (replicate g.row.N 0) c.copy_from_slice.ensures.after
    (zeros_at g.row.N)
