use Rattle.std.proofs.Common.{refl}
use Rattle.dm_layout.proofs.symbols.KeptEquality.{same_below}
use Rattle.dm_layout.proofs.symbols.symbol.same_modules.Goals as goal

pub returns : goal.returns
returns c = same_below c.args.row c.args.other c.args.columns _ c.requires refl
