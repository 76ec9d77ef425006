use Rattle.dm_words.proofs.Names.{arith}
use Rattle.dm_words.proofs.NormalForms.{two_words}
use Rattle.dm_words.proofs.ascii.surely_fits.Goals as goal

pub returns-then-items-most : goal.returns-then-items-most
returns-then-items-most c = λ few. omega (arith, c.if-items-most.true, two_words c.args.items.now)
