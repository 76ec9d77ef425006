use Rattle.dm_layout.proofs.Names.{◌≡◌, ◌+◌, map, take, length, codeword_count, order_of, reversed_bits, slot_byte}
use Rattle.dm_layout.proofs.symbols.lifting.lift_rows.Given as goal

abbrev pub invariant-loop-i : goal.invariant-loop-i
invariant-loop-i g l = record {
  count : length l.words ≡ codeword_count l.symbol.size;
  so_far : take l.i l.words ≡ take l.i (map (λ x. reversed_bits (slot_byte g.R.BitRows.bytes (g.R.BitRows.joined
      l.slots) x))
      (order_of l.height l.columns));
}

abbrev pub invariant-loop-j : goal.invariant-loop-j
invariant-loop-j g l = record {
  count : length l.words ≡ codeword_count l.symbol.size;
  so_far : take (l.count + l.j) l.words ≡ take (l.count + l.j) (map (λ x. reversed_bits (slot_byte g.R.BitRows.bytes
      (g.R.BitRows.joined l.slots) x)) (order_of l.height l.columns));
}
