use Rattle.dm_text.specs.inner.OpenLines.{pending_bytes}
use Rattle.dm_text.proofs.OpenLineSteps.{faulty_more, good_begun, good_fault, good_whole}
use Rattle.dm_text.proofs.open_line.OpenLine.push.Goals as goal

pub returns-in-Faulty : goal.returns-in-Faulty
returns-in-Faulty c line facts =
    rw c.in-Faulty.is (faulty_more line c.args.byte c.in-Faulty.field-0
    (rw (← c.self.view_is, c.in-Faulty.is) at facts))

pub returns-in-Whole : goal.returns-in-Whole
returns-in-Whole c line facts =
    rw (c.saturating_add-good.ensures, c.count.ensures)
    (good_whole line (pending_bytes c.in-Good.good.pending) c.args.byte c.in-Good.good.prefix_length
    c.in-Good.good.items c.push_item.new.items
    c.in-Whole.item (rw (← c.self.view_is, c.in-Good.is) at facts) (c.in-Whole.ensures) c.push_item.ensures)

pub returns-in-Begun : goal.returns-in-Begun
returns-in-Begun c line facts =
    let begun = c.in-Begun.ensures in
    rw begun.0 (good_begun line (pending_bytes c.in-Good.good.pending) c.args.byte c.in-Good.good.prefix_length
    c.in-Good.good.items (rw (← c.self.view_is, c.in-Good.is) at facts) begun.1 begun.2)

pub returns-in-Fault : goal.returns-in-Fault
returns-in-Fault c line facts =
    rw c.saturating_add-column.ensures (good_fault line (pending_bytes c.in-Good.good.pending) c.args.byte
    c.in-Good.good.prefix_length c.in-Good.good.items
    (rw (← c.self.view_is, c.in-Good.is) at facts) (c.in-Fault.ensures))
