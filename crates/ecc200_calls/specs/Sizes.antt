-- The table of sizes.
use Rattle.std.specs.Prelude.{if◌then◌else◌}
use Rattle.dm_layout.specs.symbols.Sizes.{SizeEntry, mapping_rows, mapping_columns, limit}
use Rattle.ecc200_calls.specs.declared.size_table.SizeOut.{SizeOut}

-- An entry of the table is given in this way.
abbrev pub size_shown : SizeEntry → SizeOut
size_shown size =
    record {
      rows = size.rows;
      columns = size.columns;
      region_rows = size.region_rows;
      region_columns = size.region_columns;
      regions_down = size.regions_down;
      regions_across = size.regions_across;
      mapping_rows = mapping_rows size;
      mapping_columns = mapping_columns size;
      data_codewords = size.data_count;
      check_codewords = size.check_count;
      blocks = size.blocks;
      limit = limit size;
      extension = if size.extended then 1 else 0;
    }
