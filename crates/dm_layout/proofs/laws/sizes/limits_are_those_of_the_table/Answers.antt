use Rattle.std.proofs.Common.{refl}
use Rattle.dm_layout.specs.Sizes.{size_table, block_check, codeword_count, regions_across, largest_side}
use Rattle.dm_layout.specs.Sizes.{largest_mapping, most_across, most_grid_data, most_grid_codewords, most_grid_blocks}
use Rattle.dm_layout.specs.Sizes.{most_block_check}
use Rattle.dm_layout.proofs.TableRows.{greatest}
use Rattle.dm_layout.proofs.laws.sizes.limits_are_those_of_the_table.Goals as goal

pub returns : goal.returns
unfolding size_table
returns c = record {
  side = greatest (λ row. row.side) largest_side refl refl;
  «data» = greatest (λ row. row.data_count) most_grid_data refl refl;
  codewords = greatest codeword_count most_grid_codewords refl refl;
  blocks = greatest (λ row. row.blocks) most_grid_blocks refl refl;
  checks = greatest block_check most_block_check refl refl;
  mapping = greatest (λ row. row.mapping) largest_mapping refl refl;
  across = greatest regions_across most_across refl refl;
}
