use Rattle.ecc200_calls.proofs.Names.{◌≡◌, ◌+◌, length, ShapesInside, places_from, shapes, codeword_count}
use Rattle.ecc200_calls.proofs.Names.{mapping_columns, mapping_rows, with_bits}
use Rattle.ecc200_calls.proofs.place_table.put_bits.Given as goal

abbrev pub invariant-loop-shape : goal.invariant-loop-shape
invariant-loop-shape l = record {
  inside : ShapesInside l.rows l.columns l.shape-iterator;
  so_far : with_bits l.size (places_from l.rows l.columns l.word l.shape-iterator) l.places
      ≡ with_bits l.size
      (places_from l.rows l.columns 0 (shapes l.rows l.columns))
      l.initial.places;
  room : length l.places ≡ length l.initial.places;
  rows_are : l.rows ≡ mapping_rows l.size;
  columns_are : l.columns ≡ mapping_columns l.size;
  left : l.word + length l.shape-iterator ≡ codeword_count l.size;
}
