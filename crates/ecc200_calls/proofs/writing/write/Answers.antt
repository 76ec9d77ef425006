use Rattle.ecc200_calls.proofs.Names.{map-id, subst, IsWriteResult}
use Rattle.ecc200_calls.proofs.writing.write.Goals as goal

pub returns-clause-out : goal.returns-clause-out
returns-clause-out c =
    let a = c.args in
    subst (λ items. IsWriteResult items a.marks.now a.how.now a.out.now c.write_by.new.out) (map-id a.items.now)
    c.write_by.ensures.out
