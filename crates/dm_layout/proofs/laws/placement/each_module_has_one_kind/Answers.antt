use Rattle.dm_layout.proofs.OneKind.{one_kind}
use Rattle.dm_layout.proofs.laws.placement.each_module_has_one_kind.Goals as goal

pub returns : goal.returns
returns c = one_kind
