use Rattle.ecc200_calls.proofs.Names.{◌≡◌, drop, length, CellsInside, bits_from, mapping_rows, mapping_columns}
use Rattle.ecc200_calls.proofs.Names.{with_bits}
use Rattle.ecc200_calls.proofs.place_table.put_word.Given as goal

abbrev pub invariant-loop-cell : goal.invariant-loop-cell
invariant-loop-cell l = record {
  inside : CellsInside (mapping_rows l.size) (mapping_columns l.size) (drop l.cell-index l.cells);
  counted : l.bit ≡ l.cell-index;
  room : length l.places ≡ length l.fn.places;
  so_far : with_bits l.size (bits_from l.word l.cell-index (drop l.cell-index l.cells)) l.places ≡
      with_bits l.size (bits_from l.word 0 l.cells) l.fn.places;
}
