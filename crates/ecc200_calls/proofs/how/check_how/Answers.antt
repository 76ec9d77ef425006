use Rattle.ecc200_calls.proofs.Names.{IsHowFault}
use Rattle.ecc200_calls.proofs.how.check_how.Goals as goal

pub returns-in_default-clause-fault : goal.returns-in_default-clause-fault
returns-in_default-clause-fault c =
    IsHowFault.no_choice c.in-Ok.form (cc) (cc) c.no_such_choice.ensures

pub returns-in_default-head_of-clause-fault : goal.returns-in_default-head_of-clause-fault
returns-in_default-head_of-clause-fault c =
    IsHowFault.no_head c.in-Ok.form c.in-Some.size (cc) (cc) c.in_default-head_of.ensures.none c.no_such_head.ensures
