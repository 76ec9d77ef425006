use Rattle.gf301.proofs.PolyLaws.{value_times, length_times, bytes_times, times_comm}
use Rattle.gf301.proofs.laws.times_laws.Goals as goal

pub returns-clause-value : goal.returns-clause-value
returns-clause-value c = λ p q x hp hq. value_times x p q hq

pub returns-clause-length : goal.returns-clause-length
returns-clause-length c = λ p q hp hq. length_times p q hq

pub returns-clause-bytes : goal.returns-clause-bytes
returns-clause-bytes c = bytes_times

pub returns-clause-commutative : goal.returns-clause-commutative
returns-clause-commutative c = times_comm
