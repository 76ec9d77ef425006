use Rattle.ecc200_calls.proofs.Packing.{packed_more, packed_small}
use Rattle.ecc200_calls.proofs.modules.pack_singly.Goals as goal

pub loop-i-preserved : goal.loop-i-preserved
loop-i-preserved c =
    rw c.from.ensures
    (record {
      bits = packed_more c.args.modules.now c.loop-i.i c.loop-i.row c.loop-i-test.true c.loop-i.invariant.bits;
      small = packed_small c.loop-i.row c.loop-i.i _ c.loop-i.invariant.small;
    })
