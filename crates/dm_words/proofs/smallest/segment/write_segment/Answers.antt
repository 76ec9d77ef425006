use Rattle.dm_words.proofs.Names.{◌≡◌, ℕ, length, take, arith, length-take, length-take-le}
use Rattle.dm_words.proofs.SegmentWritten.{field_few, segment_written}
use Rattle.dm_words.proofs.smallest.segment.write_segment.Goals as goal

pub returns-clause-fits : goal.returns-clause-fits
returns-clause-fits c =
    omega (arith, c.push_field.ensures.written.fits, c.write_bytes.ensures.counted, length-take {A = ℕ})

pub returns-clause-most : goal.returns-clause-most
returns-clause-most c =
    omega (
      arith,
      field_few _ _ _ _ c.push_field.ensures.written,
      c.add.ensures.counted,
      c.write_bytes.ensures.counted,
      length-take {A = ℕ},
    )

pub returns-clause-part : goal.returns-clause-part
returns-clause-part c = λ extent.
    let same : length c.add.new.list ≡ length c.args.words.now = omega arith in
    let held = c.push_field.new.held in
    segment_written extent (length c.args.words.now) held (take c.args.held.now c.args.words.now)
    (take c.add.new.held c.add.new.list) (take held c.push_field.new.words)
    (take c.write_bytes.new.held c.write_bytes.new.words) c.args.items.now c.requires.some c.requires.message
    c.requires.bytes c.add.ensures.added (rw same at c.push_field.ensures.written)
    (length-take-le held c.push_field.new.words c.push_field.ensures.within) c.write_bytes.ensures.added
