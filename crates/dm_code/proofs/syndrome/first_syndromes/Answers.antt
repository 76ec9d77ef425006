use Rattle.std.proofs.Common.{◌∙◌}
use Rattle.dm_code.proofs.syndrome.first_syndromes.Goals as goal

pub returns : goal.returns
returns c = c.syndromes_of_short.ensures.values ∙ c.remainder-rest.ensures.same
