use Rattle.ecc200_calls.proofs.Names.{◌≡◌, refl, option_map, Block, IsLimit, usual_limit}
use Rattle.ecc200_calls.proofs.Limits.{few_of_fault}
use Rattle.ecc200_calls.proofs.restoring.restore_surely.Goals as goal

pub returns-in-Err-Block-clause-restored : goal.returns-in-Err-Block-clause-restored
returns-in-Err-Block-clause-restored g c =
    let a = c.args in
    let size = a.symbol.now.size in
    let doubt = option_map (λ d. d.now) a.doubtful in
    let usual = c.usual_limit-usual.result in
    let is : usual ≡ usual_limit size.rows size.columns =
    rw (c.usual_limit-usual.ensures.value, c.rows.ensures.value, c.columns.ensures.value, c.size-size.ensures.value)
    refl in
    let lost = rw c.in-Err-Block.field-0-is at c.in-Err-Block.ensures.restored in
    record {
      limit = usual;
      limit_is = IsLimit.few refl (rw is at (few_of_fault a.extent a.symbol.now doubt usual
          (Block c.in-Err-Block.index) (λ count e. cc) lost)) is;
      restored_or = lost;
    }
