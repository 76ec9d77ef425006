use lib.Bits.{xor_comm}
use Rattle.gf301.proofs.FieldLaws.{sum_below}
use Rattle.gf301.proofs.laws.sum_laws.Goals as goal

pub returns-clause-byte : goal.returns-clause-byte
returns-clause-byte c = sum_below

pub returns-clause-commutative : goal.returns-clause-commutative
returns-clause-commutative c = xor_comm
