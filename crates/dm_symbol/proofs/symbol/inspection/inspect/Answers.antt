use Rattle.dm_symbol.proofs.Names.{refl}
use Rattle.dm_symbol.proofs.symbol.inspection.inspect.Goals as goal

pub returns : goal.returns
returns g c =
    let mended = c.mend-inspection.ensures.mended in
    rw c.size-size.ensures.value (record {
      held = c.mend-inspection.ensures.held;
      same_size = refl;
      of_size = mended.of_size;
      dealing = mended.dealing;
      count = mended.count;
      mended = mended.mended;
      border = c.border_faults-inspection.ensures;
    })
