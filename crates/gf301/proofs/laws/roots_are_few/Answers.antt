use Rattle.gf301.proofs.Roots.{roots_are_few}
use Rattle.gf301.proofs.laws.roots_are_few.Goals as goal

pub returns : goal.returns
returns c = roots_are_few
