use Rattle.ecc200_calls.proofs.Names.{IsInspectionGiven}
use Rattle.ecc200_calls.proofs.OfGiven.{doubted_given, sure_given}
use Rattle.ecc200_calls.proofs.inspection.inspect_given.Goals as goal

pub returns-then-given : goal.returns-then-given
returns-then-given g c =
    let a = c.args in
    doubted_given a.given.size a.modules.now a.doubtful.now a.given.doubt
    (λ size symbol doubtful. IsInspectionGiven size.rows size.columns symbol doubtful a.out.now
    c.inspect_symbol.new.out)
    c.light-symbol.result c.put_modules.new.symbol c.light-marked.result c.put_modules-then-given.new.symbol
    c.if-given.true c.light-symbol.ensures.size c.put_modules.ensures.size c.put_modules.ensures.modules
    c.light-marked.ensures.size c.put_modules-then-given.ensures.modules c.inspect_symbol.ensures

pub returns-else-given : goal.returns-else-given
returns-else-given g c =
    let a = c.args in
    let shown = c.inspect_symbol-else-given in
    sure_given a.given.size a.modules.now a.doubtful.now a.given.doubt
    (λ size symbol doubtful. IsInspectionGiven size.rows size.columns symbol doubtful a.out.now
    shown.new.out)
    c.light-symbol.result c.put_modules.new.symbol c.if-given.false c.light-symbol.ensures.size
    c.put_modules.ensures.size c.put_modules.ensures.modules shown.ensures
