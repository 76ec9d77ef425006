use Rattle.ecc200_calls.proofs.Names.{◌≡◌, ◌*◌, ◌<◌, ◌≤◌, ℕ, get_or, length, nothing, structure_place}
use Rattle.ecc200_calls.specs.Places.{place_at}
use Rattle.ecc200_calls.proofs.place_table.put_structure.Given as goal

abbrev pub invariant-loop-row : goal.invariant-loop-row
invariant-loop-row l = record {
  put : (r c : ℕ) → r < l.row → c < l.size.columns → place_at l.size l.places r c ≡ structure_place l.size r c;
  behind : (i : ℕ) → l.row * l.size.columns ≤ i → get_or l.places i nothing ≡ get_or l.initial.places i nothing;
  room : length l.places ≡ length l.initial.places;
  rows : l.row-end ≡ l.size.rows;
}
