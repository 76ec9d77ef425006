use Rattle.ecc200_calls.proofs.Names.{IsRestoredFor}
use Rattle.ecc200_calls.proofs.OfGiven.{doubted_given, sure_given}
use Rattle.ecc200_calls.proofs.restoring.restore_given.Goals as goal

pub returns-then-given-clause-restored : goal.returns-then-given-clause-restored
returns-then-given-clause-restored g c =
    let a = c.args in
    let done = c.restore_symbol in
    doubted_given a.given.size a.modules.now a.doubtful.now a.given.doubt
    (λ size symbol doubtful. IsRestoredFor a.sought.limit a.sought.extent symbol doubtful done.result done.new.words
    done.new.restored)
    c.light-symbol.result c.put_modules.new.symbol c.light-marked.result c.put_modules-then-given.new.symbol
    c.if-given.true c.light-symbol.ensures.size c.put_modules.ensures.size c.put_modules.ensures.modules
    c.light-marked.ensures.size c.put_modules-then-given.ensures.modules done.ensures.restored

pub returns-else-given-clause-restored : goal.returns-else-given-clause-restored
returns-else-given-clause-restored g c =
    let a = c.args in
    let done = c.restore_symbol-else-given in
    sure_given a.given.size a.modules.now a.doubtful.now a.given.doubt
    (λ size symbol doubtful. IsRestoredFor a.sought.limit a.sought.extent symbol doubtful done.result done.new.words
    done.new.restored)
    c.light-symbol.result c.put_modules.new.symbol c.if-given.false c.light-symbol.ensures.size
    c.put_modules.ensures.size c.put_modules.ensures.modules done.ensures.restored
