use Rattle.std.proofs.Common.{◌%◌, arith}
use Rattle.std.proofs.lemmas.Nat.{mod_below}
use Rattle.gf301.proofs.Tables.{powers_at, power_mod}
use Rattle.gf301.proofs.field.Gf.power_of_two.Goals as goal

pub returns : goal.returns
returns c =
    rw (c.from.ensures, powers_at (c.args.e % 255) (mod_below c.args.e 255 (omega arith))) (power_mod c.args.e)
