use Rattle.ecc200_calls.proofs.Names.{SoughtResult}
use Rattle.ecc200_calls.proofs.OfGiven.{normal_of_given}
use Rattle.ecc200_calls.proofs.normalising.normal_under_profile.Goals as goal

pub returns-in-Ok : goal.returns-in-Ok
returns-in-Ok c =
    let a = c.args in
    normal_of_given a.sought a.modules.now a.doubtful.now c.in-Ok.given.size c.in-Ok.given.doubt c.in-Ok.ensures.known
    a.profile a.out.now c.answer_known.new.out c.answer_known.ensures

pub returns-in-Err : goal.returns-in-Err
returns-in-Err c = SoughtResult.not_given c.in-Err.why c.in-Err.ensures.fault c.show_fault.ensures
