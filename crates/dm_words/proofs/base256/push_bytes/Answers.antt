use Rattle.dm_words.proofs.Names.{take, arith}
use Rattle.dm_words.proofs.SegmentLoops.{bytes_more}
use Rattle.dm_words.proofs.base256.push_bytes.Goals as goal

pub loop-i-preserved : goal.loop-i-preserved
loop-i-preserved c =
    let v = c.loop-i.invariant in
    record {
      len = omega (arith, v.len, c.add.ensures.counted);
      same = omega (arith, v.same);
      so_far = bytes_more c.args.words.now c.args.start c.loop-i.i c.plain_value.result
          (take c.args.held.now c.args.items.now) (take c.loop-i.held c.loop-i.items)
          (take c.add.new.held c.add.new.list) (omega arith) c.plain_value.ensures v.so_far c.add.ensures.added;
    }
