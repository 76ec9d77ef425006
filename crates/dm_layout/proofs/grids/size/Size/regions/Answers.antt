use Rattle.dm_layout.proofs.Names.{arith, row_of_entry}
use Rattle.dm_layout.proofs.TableRows.{row_facts}
use Rattle.dm_layout.proofs.grids.size.Size.regions.Goals as goal

pub overflow_mul-result : goal.overflow_mul-result
overflow_mul-result c =
    let few = (row_facts (row_of_entry c.self.inside.symbol) c.self.invariant.row).few_regions in
    rw (c.regions_down.ensures.value, c.regions_across.ensures.value) (omega (arith, few))
