use Rattle.ecc200_calls.proofs.Names.{refl, IsNormalGiven, IsNormalOrFault}
use Rattle.dm_symbol.specs.declared.ContentNormalFault.TheVariants as of_content
use Rattle.ecc200_calls.proofs.normalising.NormalSymbolAnswer.refuse.Goals as goal

pub returns : goal.returns
returns c extent rows columns symbol doubtful limit read =
    IsNormalGiven.refused (of_content.Read c.args.why) (IsNormalOrFault.fault c.args.why read refl) (cc)
