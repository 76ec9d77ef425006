use Rattle.ecc200_calls.proofs.Names.{ProfileResult}
use Rattle.ecc200_calls.proofs.normalising.normal_sought.Goals as goal

pub returns-in-Some : goal.returns-in-Some
returns-in-Some c =
    ProfileResult.under_profile c.in-Some.profile (cc) c.normal_under_profile.ensures
