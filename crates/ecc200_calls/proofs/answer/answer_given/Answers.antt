use Rattle.ecc200_calls.proofs.OfGiven.{given_too}
use Rattle.ecc200_calls.proofs.answer.answer_given.Goals as goal

pub returns-in-Ok : goal.returns-in-Ok
returns-in-Ok g c =
    let a = c.args in
    given_too a.given.size a.modules.now a.doubtful.now a.given.doubt _ _
    (λ symbol doubtful r. record {
      limit = r.limit;
      limit_is = r.limit_is;
      given = rw c.in-Ok.ensures.size at (c.answer_restored.ensures symbol doubtful r.limit r.restored_or);
    }) c.in-Ok.ensures.restored

pub returns-in-Err : goal.returns-in-Err
returns-in-Err g c =
    let a = c.args in
    given_too a.given.size a.modules.now a.doubtful.now a.given.doubt _ _
    (λ symbol doubtful r. record {
      limit = r.limit;
      limit_is = r.limit_is;
      given = c.refuse.ensures a.sought.extent a.given.size.rows a.given.size.columns symbol doubtful r.limit
          r.restored_or;
    }) c.in-Err.ensures.restored
