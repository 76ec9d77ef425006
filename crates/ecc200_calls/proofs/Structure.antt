-- Modules that are written row by row.
use Rattle.ecc200_calls.proofs.Names.{◌≡◌, ◌≢◌, ℕ, ◌+◌, ◌*◌, ◌<◌, ◌≤◌, List, set, length, get_or, ◌∙◌, arith}
use Rattle.ecc200_calls.proofs.Names.{below_more, get_or-set_other, get_or-set_same, mul-le-mul_right, PlaceOut}
use Rattle.ecc200_calls.proofs.Names.{nothing}

-- One more module is written in a row that begins at a place.
pub module_put : (places : List PlaceOut) (start column : ℕ) (f : ℕ → PlaceOut) → start + column < length places
    → ((c : ℕ) → c < column → get_or places (start + c) nothing ≡ f c) → (c : ℕ) → c < column + 1 →
    get_or (set places (start + column) (f column)) (start + c) nothing ≡ f c
module_put places start column f l h =
    below_more (λ c. get_or (set places (start + column) (f column)) (start + c) nothing ≡ f c) column
    (λ c k. let ne : start + c ≢ start + column =
    omega (arith, k) in get_or-set_other places (start + column) (start + c) (f column) nothing ne ∙ h c k)
    (get_or-set_same places (start + column) (f column) nothing l)

-- The other modules stay as they were.
pub module_kept : (init places : List PlaceOut) (i j : ℕ) (x : PlaceOut) → j ≢ i →
    get_or places j nothing ≡ get_or init j nothing → get_or (set places i x) j nothing ≡ get_or init j nothing
module_kept init places i j x ne h = get_or-set_other places i j x nothing ne ∙ h

-- One more row is written.
pub row_put : (places new : List PlaceOut) (row side : ℕ) (f : ℕ → ℕ → PlaceOut) →
    ((c : ℕ) → c < side → get_or new (row * side + c) nothing ≡ f row c)
    → ((i : ℕ) → i < row * side → get_or new i nothing ≡ get_or places i nothing)
    → ((r c : ℕ) → r < row → c < side → get_or places (r * side + c) nothing ≡ f r c) → (r c : ℕ) → r < row + 1 →
    c < side → get_or new (r * side + c) nothing ≡ f r c
row_put places new row side f put before h r c l lc =
    below_more (λ q. get_or new (q * side + c) nothing ≡ f q c) row
    (λ q k. let room : (q + 1) * side ≤ row * side = mul-le-mul_right side (omega (arith, k)) in
    before (q * side + c) (omega (arith, room, lc)) ∙ h q c k lc)
    (put c lc) r l
