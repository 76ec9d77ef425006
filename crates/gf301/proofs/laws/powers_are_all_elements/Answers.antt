use Rattle.std.proofs.Common.{get_or, arith}
use Rattle.gf301.specs.declared.field.TheConstants.{LOGS}
use Rattle.gf301.proofs.FieldLaws.{power_injective, raise_positive, raise_add}
use Rattle.gf301.proofs.Tables.{logs_at, power_mod}
use Rattle.gf301.proofs.laws.powers_are_all_elements.Goals as goal

pub returns-clause-different : goal.returns-clause-different
returns-clause-different c = power_injective

pub returns-clause-all : goal.returns-clause-all
returns-clause-all c = λ a l h. (get_or LOGS a 0, (logs_at a l h).0, (logs_at a l h).1)

pub returns-clause-not_zero : goal.returns-clause-not_zero
returns-clause-not_zero c = λ e. raise_positive 2 e (omega arith) (omega arith)

pub returns-clause-added : goal.returns-clause-added
returns-clause-added c = raise_add 2

pub returns-clause-repeat : goal.returns-clause-repeat
returns-clause-repeat c = power_mod
