use Rattle.std.proofs.Common.{◌≡◌, length, arith}
use Rattle.dm_text.specs.inner.OpenLines.{pending_bytes}
use Rattle.dm_text.proofs.OpenLineSteps.{good_prefix, plain_no_lf}
use Rattle.dm_text.proofs.open_line.GoodLine.take_plain.Goals as goal

pub returns-clause-no_lf : goal.returns-clause-no_lf
returns-clause-no_lf c = plain_no_lf _ c.push_plain-count.ensures.plain

pub returns-clause-grown : goal.returns-clause-grown
returns-clause-grown c line good =
    let none : length (pending_bytes c.args.self.now.pending) ≡ 0 =
    omega (arith, c.count.ensures, c.if-count-gt0.false) in
    rw c.saturating_add-self.ensures (good_prefix line c.args.bytes.now (pending_bytes c.args.self.now.pending)
    c.args.self.now.prefix_length c.push_plain-count.result c.args.self.now.items
    c.in-Some.message c.push_plain-count.new.message good none c.in-Some.is c.push_plain-count.ensures.plain
    c.push_plain-count.ensures.within c.push_plain-count.ensures.items c.push_plain-count.ensures.few)
