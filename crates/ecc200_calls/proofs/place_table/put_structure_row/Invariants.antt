use Rattle.ecc200_calls.proofs.Names.{◌≡◌, ◌+◌, ◌<◌, ◌≤◌, ℕ, get_or, length, nothing, structure_place}
use Rattle.ecc200_calls.proofs.place_table.put_structure_row.Given as goal

abbrev pub invariant-loop-column : goal.invariant-loop-column
invariant-loop-column l = record {
  put : (c : ℕ) → c < l.column → get_or l.places (l.start + c) nothing ≡ structure_place l.size l.row c;
  before : (i : ℕ) → i < l.start → get_or l.places i nothing ≡ get_or l.initial.places i nothing;
  behind : (i : ℕ) → l.start + l.column ≤ i → get_or l.places i nothing ≡ get_or l.initial.places i nothing;
  room : length l.places ≡ length l.initial.places;
}
