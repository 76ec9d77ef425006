use Rattle.dm_layout.proofs.Names.{◌∙◌, sym, arith, lit<, length-set, same_lists}
use Rattle.dm_layout.specs.Sizes.{size_table}
use Rattle.dm_layout.proofs.SquareSizes.{kept_at, row_at, square_count}
use Rattle.dm_layout.proofs.symbols.Exported.{put_more}
use Rattle.dm_layout.proofs.grids.size.table.Goals as goal

pub invariant_of-sizes : goal.invariant_of-sizes
invariant_of-sizes c =
    kept_at c.table-symbols.result c.table-symbols.ensures 0 c.index-symbols-0.result (lit< tt)

pub invariant_of-sizes-in-loop-i : goal.invariant_of-sizes-in-loop-i
invariant_of-sizes-in-loop-i c =
    kept_at c.table-symbols.result c.table-symbols.ensures c.loop-i.i c.index-symbols-i.result c.loop-i-test.true

pub loop-i-preserved : goal.loop-i-preserved
loop-i-preserved c = record {
  count = length-set c.loop-i.sizes c.loop-i.i _ ∙ c.loop-i.invariant.count;
  put =
      put_more size_table c.loop-i.sizes c.loop-i.i _ (omega (arith, c.loop-i.invariant.count, c.loop-i-test.true))
      c.loop-i.invariant.put
      (row_at c.table-symbols.result c.table-symbols.ensures c.loop-i.i c.index-symbols-i.result c.loop-i-test.true);
}

pub returns : goal.returns
returns c =
    same_lists c.loop-i.sizes size_table (c.loop-i.invariant.count ∙ sym square_count)
    (λ k d l. c.loop-i.invariant.put k d (omega (arith, l, c.loop-i.invariant.count, c.loop-i-test.false)))
