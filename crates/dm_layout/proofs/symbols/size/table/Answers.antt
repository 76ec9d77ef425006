use Rattle.dm_layout.proofs.Names.{[], ◌∙◌, sym, arith, lit<, length-set, same_lists, size_table}
use Rattle.dm_layout.proofs.symbols.SizeRows.{entry_here, size_count, size_here}
use Rattle.dm_layout.proofs.symbols.TableEntries.{put_more}
use Rattle.dm_layout.proofs.symbols.size.table.Goals as goal

pub size_of-sizes-requires : goal.size_of-sizes-requires
size_of-sizes-requires c = size_here 0 [] (lit< tt)

pub size_of-requires : goal.size_of-requires
size_of-requires c = size_here c.loop-i.i _ c.loop-i-test.true

pub loop-i-preserved : goal.loop-i-preserved
loop-i-preserved c = record {
  count = length-set c.loop-i.sizes c.loop-i.i _ ∙ c.loop-i.invariant.count;
  put =
      put_more size_table c.loop-i.sizes c.loop-i.i _ (omega (arith, c.loop-i.invariant.count, c.loop-i-test.true))
      c.loop-i.invariant.put
      (λ e. c.size_of.ensures ∙ entry_here c.loop-i.i _ c.loop-i-test.true e);
}

pub returns : goal.returns
returns c =
    same_lists c.loop-i.sizes size_table (c.loop-i.invariant.count ∙ sym size_count)
    (λ k d l. c.loop-i.invariant.put k d (omega (arith, l, c.loop-i.invariant.count, c.loop-i-test.false)))
