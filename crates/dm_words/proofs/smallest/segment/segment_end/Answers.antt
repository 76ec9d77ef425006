use Rattle.dm_words.proofs.Names.{◌∙◌, sym, arith, Fnc1}
use Rattle.dm_words.proofs.SegmentBudget.{begun_at, byte_at, ended_at}
use Rattle.dm_words.proofs.smallest.segment.segment_end.Goals as goal

pub loop-next-init : goal.loop-next-init
loop-next-init c =
    let b = begun_at c.args.setting c.args.items.now c.args.at Fnc1 c.requires.at c.requires.byte in
    record { from = omega arith; within = omega (arith, c.requires.at); so_far = b.0; bytes = b.1 }

pub loop-next-preserved : goal.loop-next-preserved
loop-next-preserved c =
    let v = c.loop-next.invariant in
    let g = byte_at c.args.setting c.args.items.now c.args.at c.loop-next.next Fnc1 _ (omega (arith, c.requires.few))
    c.requires.behind (omega (arith, v.from)) v.within (c.requires.plan c.loop-next.next _ v.within)
    (sym c.segment_ends.ensures ∙ c.loop-next-test.true)
    v.so_far
    v.bytes in
    record { from = omega (arith, v.from); within = omega (arith, g.there); so_far = g.so_far; bytes = g.bytes }

pub loop-next-smaller : goal.loop-next-smaller
loop-next-smaller c =
    let v = c.loop-next.invariant in
    omega (
      arith,
      (byte_at c.args.setting c.args.items.now c.args.at c.loop-next.next Fnc1 _ (omega (arith, c.requires.few))
          c.requires.behind (omega (arith, v.from)) v.within (c.requires.plan c.loop-next.next _ v.within)
          (sym c.segment_ends.ensures ∙ c.loop-next-test.true)
          v.so_far
          v.bytes).there,
    )

pub returns-clause-cost : goal.returns-clause-cost
returns-clause-cost c =
    let v = c.loop-next.invariant in
    ended_at c.args.setting c.args.items.now c.args.at c.loop-next.next _ (c.requires.plan c.loop-next.next _ v.within)
    (sym c.segment_ends.ensures ∙ c.loop-next-test.false) v.so_far
