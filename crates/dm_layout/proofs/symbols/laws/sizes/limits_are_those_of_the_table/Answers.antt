use Rattle.std.proofs.Common.{refl, ◌*◌}
use Rattle.dm_layout.specs.symbols.Sizes.{size_table, area, mapping_rows, mapping_columns, codeword_count, block_check}
use Rattle.dm_layout.specs.symbols.Sizes.{most_rows, most_columns, most_modules, most_cells, most_data, most_codewords}
use Rattle.dm_layout.specs.symbols.Sizes.{most_blocks, most_block_check}
use Rattle.dm_layout.proofs.symbols.TableEntries.{greatest}
use Rattle.dm_layout.proofs.symbols.laws.sizes.limits_are_those_of_the_table.Goals as goal

pub returns : goal.returns
unfolding size_table
returns c = record {
  rows = greatest (λ size. size.rows) most_rows refl refl;
  columns = greatest (λ size. size.columns) most_columns refl refl;
  modules = greatest area most_modules refl refl;
  cells = greatest (λ size. mapping_rows size * mapping_columns size) most_cells refl refl;
  «data» = greatest (λ size. size.data_count) most_data refl refl;
  codewords = greatest codeword_count most_codewords refl refl;
  blocks = greatest (λ size. size.blocks) most_blocks refl refl;
  checks = greatest block_check most_block_check refl refl;
}
